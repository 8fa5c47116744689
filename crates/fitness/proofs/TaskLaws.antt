-- Laws of an accepted plan's tasks: their activities are among all, how late one can be, and how great both sums.
use Rattle.std.specs.Prelude.{Option, Some}
use Prim.Native.Nat.{ℕ, zero, suc, ◌+◌, ◌*◌, ◌-◌, ◌^◌, ◌≤◌, ◌<◌}
use mathlib.Core.Path.{◌≡◌, refl, ap, ◌∙◌}
use mathlib.Core.Bool.{Bool, true, false}
use mathlib.Core.List.{List}
use native.Mathlib.Omega.{arith}
use borrow.Author.Tests.{ltb-true, ltb-false}
use lib.Dec.{eqb, ltb}
use lib.IntN.{ℤ}
use lib.ListN.{get_or}
use Rattle.words.specs.Signed.{signed_word}
use Rattle.words.proofs.SignedLaws.{signed_high}
use Rattle.plan.specs.Problem.{Problem, Genes}
use Rattle.plan.specs.Input.{cell, some_if, problem_of, genes_of}
use Rattle.plan.specs.Accepted.{Accepted}
use Rattle.plan.specs.declared.Layout.{Layout}
use Rattle.bounds.specs.Bounds.{tardiness_of}
use Rattle.bounds.proofs.LateLaws.{late_low}
use Rattle.fitness.specs.Fitness.{completion_of, makespan_of, lateness, late_of, sums_of, fitness_of, latest, sum_to}
use Rattle.fitness.specs.declared.Sums.{Sums}
use Rattle.fitness.specs.Ended.{Ended, latest_end}
use Rattle.fitness.proofs.LatestLaws.{latest_most, latest-same, sum_most, sum_same}

-- ---- a task's activities

module _ {p : Problem} {g : Genes} (plan : Accepted p g) where
  -- Later tasks begin later.
  pub first_rises : (t k : ℕ) → p.first t ≤ p.first (t + k)
  first_rises t zero = let e : p.first (t + 0) ≡ p.first t = ap p.first (omega arith) in omega arith
  first_rises t (suc k) =
      let e : p.first (t + suc k) ≡ p.first (t + k + 1) = ap p.first (omega arith) in
      omega (arith, first_rises t k, plan.next_first (t + k))

  pub task_within : (t : ℕ) → t < p.tasks → p.first t + p.steps t ≤ p.n
  task_within t h =
      let e : p.first (t + 1 + (p.tasks - (t + 1))) ≡ p.first p.tasks = ap p.first (omega arith) in
      omega (arith, first_rises (t + 1) (p.tasks - (t + 1)), plan.next_first t, plan.whole)

  -- Where no end is later than m, no task is complete later.
  pub completion_most : (ends : ℕ → ℕ) (m : ℕ) → ((a : ℕ) → a < p.n → ends a ≤ m) → (t : ℕ) → t < p.tasks → completion_of p ends t ≤ m
  completion_most ends m h t l = latest_most ends (p.first t) (p.steps t) m (λ a i j. h a (omega (arith, task_within t l)))

-- ---- a completion and a tardiness, worked out from what was looked up

module _ (p : Problem) (ends : ℕ → ℕ) (t : ℕ) where
  pub completion_is : (first steps done : ℕ) → done ≡ latest ends first steps → first ≡ p.first t → steps ≡ p.steps t → done ≡ completion_of p ends t
  completion_is first steps done d f s = cc

  pub lateness_is : (done r : ℕ) {due : Option ℤ} → r ≡ tardiness_of done (due) → due ≡ (p.deadline t) → done ≡ completion_of p ends t
      → r ≡ lateness p ends t
  lateness_is done r {due} e d f =
      e ∙ ap (λ (x : ℕ). tardiness_of x (due)) f
      ∙ ap (tardiness_of (completion_of p ends t)) d

pub sums_are : (p : Problem) (ends : ℕ → ℕ) {makespan late : ℕ} → makespan ≡ makespan_of p ends → late ≡ late_of p ends
    → ◌≡◌ {A = Sums} (record { makespan = makespan; late = late }) (sums_of p ends)
sums_are p ends m l = rw (m, l)

-- ---- the fitness goes by the ends of the plan's own activities

module _ {p : Problem} {g : Genes} (plan : Accepted p g) (ends others : ℕ → ℕ) (same : (a : ℕ) → a < p.n → ends a ≡ others a) where
  pub completion_same : (t : ℕ) → t < p.tasks → completion_of p ends t ≡ completion_of p others t
  completion_same t h = latest-same ends others (p.first t) (p.steps t) (λ a l i. same a (omega (arith, task_within plan t h)))

  pub makespan_same : makespan_of p ends ≡ makespan_of p others
  makespan_same = latest-same (completion_of p ends) (completion_of p others) 0 p.tasks (λ t l h. completion_same t (omega arith))

  pub late_same : late_of p ends ≡ late_of p others
  late_same =
      sum_same (lateness p ends) (lateness p others) p.tasks (λ t h. ap (λ (x : ℕ). tardiness_of x (p.deadline t)) (completion_same t h))

  pub fitness_same : fitness_of p ends ≡ fitness_of p others
  fitness_same = rw (makespan_same, late_same)

-- ---- how late a task can be: a deadline lies at most 2 ^ 31 below 0

late_most : (completion w : ℕ) → tardiness_of completion (Some (signed_word w)) ≤ completion + 2 ^ 31
late_most completion w = by_sign (ltb w (2 ^ 31)) refl
  where
    by_sign : (b : Bool) → ltb w (2 ^ 31) ≡ b → tardiness_of completion (Some (signed_word w)) ≤ completion + 2 ^ 31
    by_sign true e = omega (arith, late_low completion w (ltb-true _ _ e))
    by_sign false e = let h : 2 ^ 31 ≤ w = ltb-false _ _ e in rw (signed_high w h) (omega arith)

due_most : (completion w : ℕ) (b : Bool) → tardiness_of completion (some_if b (signed_word w)) ≤ completion + 2 ^ 31
due_most completion w true = late_most completion w
due_most completion w false = omega arith

pub tardiness_most : (ws : List ℕ) (z : Layout) (completion t : ℕ) → tardiness_of completion ((problem_of ws z).deadline t) ≤ completion + 2 ^ 31
tardiness_most ws z completion t = due_most completion (cell ws z.at.tasks 5 t 3) (eqb (cell ws z.at.tasks 5 t 2) 1)

-- ---- the sums of ends that can be reckoned with

module _ (ws : List ℕ) (z : Layout) (plan : Accepted (problem_of ws z) (genes_of ws z)) (ends : List ℕ) (placed : Ended z.activities ends) where
  pub completion_below : (t : ℕ) → t < z.tasks → completion_of (problem_of ws z) (λ a. get_or ends a 0) t ≤ latest_end
  completion_below t h = completion_most plan (λ a. get_or ends a 0) latest_end placed.bounded t h

  pub makespan_below : makespan_of (problem_of ws z) (λ a. get_or ends a 0) ≤ latest_end
  makespan_below = latest_most (completion_of (problem_of ws z) (λ a. get_or ends a 0)) 0 z.tasks latest_end (λ t l h. completion_below t (omega arith))

  pub lateness_below : (t : ℕ) → t < z.tasks → lateness (problem_of ws z) (λ a. get_or ends a 0) t ≤ latest_end + 2 ^ 31
  lateness_below t h =
      omega (arith, tardiness_most ws z (completion_of (problem_of ws z) (λ a. get_or ends a 0) t) t, completion_below t h)

  pub late_below : (t : ℕ) → t ≤ z.tasks → sum_to (lateness (problem_of ws z) (λ a. get_or ends a 0)) t ≤ (latest_end + 2 ^ 31) * t
  late_below t h = sum_most (lateness (problem_of ws z) (λ a. get_or ends a 0)) t (latest_end + 2 ^ 31) (λ u l. lateness_below u (omega arith))

  -- Both are whole numbers that a float holds exactly.
  pub sums_exact : (makespan_of (problem_of ws z) (λ a. get_or ends a 0) ≤ 2 ^ 53) × (late_of (problem_of ws z) (λ a. get_or ends a 0) ≤ 2 ^ 53)
  sums_exact = (omega (arith, makespan_below), omega (arith, plan.tasks.1, late_below z.tasks (omega arith)))
