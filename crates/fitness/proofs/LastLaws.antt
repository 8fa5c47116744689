-- Laws of ends that rise within a task, and of the words of a task's row.
use Prim.Native.Nat.{ℕ, zero, suc, ◌+◌, ◌*◌, ◌-◌, ◌≤◌, ◌<◌, max}
use mathlib.Core.Path.{◌≡◌, refl, sym, ap, ◌∙◌}
use mathlib.Core.Bool.{Bool, true, false}
use mathlib.Core.List.{List}
use native.Mathlib.Omega.{arith}
use borrow.Author.Tests.{ltb-true, ltb-false}
use lib.Dec.{eqb, ltb}
use lib.ListN.{length, get_or, take, drop, length-drop}
use lib.Seq.{length-take-le, get_or-take, get_or-drop}
use Rattle.words.specs.Words.{words}
use Rattle.words.specs.Signed.{signed_word}
use Rattle.words.proofs.WordLaws.{words_at}
use Rattle.plan.specs.Problem.{Problem, Genes}
use Rattle.plan.specs.Input.{some_if, problem_of}
use Rattle.plan.specs.Accepted.{Accepted}
use Rattle.plan.specs.declared.Layout.{Layout}
use Rattle.bounds.specs.Bounds.{tardiness_of}
use Rattle.fitness.specs.Fitness.{latest, completion_of, lateness}
use Rattle.fitness.specs.Rising.{Rising, row_from}
use Rattle.fitness.specs.declared.Row.{Row}
use Rattle.fitness.proofs.TaskLaws.{first_rises, task_within}

-- ---- the latest of numbers that rise is the last

pub latest-last : (f : ℕ → ℕ) (from k last : ℕ) → ((a : ℕ) → from ≤ a → a + 1 < from + k → f a ≤ f (a + 1)) → 1 ≤ k → last + 1 ≡ from + k
    → latest f from k ≡ f last
unfolding latest
latest-last f from zero last h l e = absurd (omega arith)
latest-last f from (suc zero) last h l e = let q : f (from + 0) ≡ f last = ap f (omega arith) in omega arith
latest-last f from (suc (suc k)) last h l e =
    let before : latest f from (suc k) ≡ f (from + k) = latest-last f from (suc k) (from + k) (λ a i j. h a i (omega arith)) (omega arith) (omega arith) in
    let q : f (from + suc k) ≡ f last = ap f (omega arith) in
    let r : f (from + k + 1) ≡ f last = ap f (omega arith) in
    ap (λ (x : ℕ). max x (f (from + suc k))) before ∙ greater (f (from + k)) (f (from + suc k)) (omega (arith, h (from + k) (omega arith) (omega arith))) ∙ q
  where
    greater : (x y : ℕ) → x ≤ y → max x y ≡ y
    greater x y h = omega arith

module _ {p : Problem} {g : Genes} (plan : Accepted p g) where
  after_task : (t u : ℕ) → t < u → p.first t + p.steps t ≤ p.first u
  after_task t u h =
      let e : p.first (t + 1 + (u - (t + 1))) ≡ p.first u = ap p.first (omega arith) in
      omega (arith, first_rises plan (t + 1) (u - (t + 1)), plan.next_first t)

  -- An activity's task is the one whose steps hold it.
  task_at : (t a : ℕ) → a < p.n → p.first t ≤ a → a < p.first t + p.steps t → p.task_of a ≡ t
  task_at t a h l m = by_order (ltb (p.task_of a) t) refl (ltb t (p.task_of a)) refl
    where
      by_order : (b : Bool) → ltb (p.task_of a) t ≡ b → (d : Bool) → ltb t (p.task_of a) ≡ d → p.task_of a ≡ t
      by_order true e d f = absurd (omega (arith, (plan.owned a h).1, after_task (p.task_of a) t (ltb-true _ _ e)))
      by_order false e true f = absurd (omega (arith, (plan.owned a h).0, after_task t (p.task_of a) (ltb-true _ _ f)))
      by_order false e false f = omega (arith, ltb-false (p.task_of a) t e, ltb-false t (p.task_of a) f)

  -- Where ends rise, a task is complete when its last step ends.
  pub completion_last : (ends : List ℕ) → Rising p ends → (t last : ℕ) → t < p.tasks → last + 1 ≡ p.first t + p.steps t
      → get_or ends last 0 ≡ completion_of p (λ a. get_or ends a 0) t
  completion_last ends r t last h e =
      let within = task_within plan t h in
      sym
      (latest-last (λ a. get_or ends a 0) (p.first t) (p.steps t) last
      (λ a l m. r.rises a (omega arith) (task_at t a (omega arith) l (omega arith) ∙ sym (task_at t (a + 1) (omega arith) (omega arith) m)))
      (plan.steps t h).0 e)

-- ---- a row's words

module _ (ws : List ℕ) (z : Layout) (t at : ℕ) (of : Row) (is : of ≡ row_from ws at) (e : at ≡ z.at.tasks + 3 + 5 * t) where
  word_at : (j k : ℕ) → at + j ≡ k → get_or ws (at + j) 0 ≡ get_or ws k 0
  word_at j k q = ap (λ (i : ℕ). get_or ws i 0) q

  pub row_steps : of.steps ≡ (problem_of ws z).steps t
  row_steps = ap (λ (r : Row). r.steps) is ∙ word_at 2 (z.at.tasks + 1 + 5 * t + 4) (omega arith)

  pub row_late : (done : ℕ) → tardiness_of done (some_if (eqb of.dated 1) (signed_word of.deadline)) ≡ tardiness_of done ((problem_of ws z).deadline t)
  row_late done =
      rw (is, ap (λ (i : ℕ). get_or ws i 0) (dated_at), word_at 1 (z.at.tasks + 1 + 5 * t + 3) (omega arith))
    where
      dated_at : at ≡ z.at.tasks + 1 + 5 * t + 2
      dated_at = omega arith

-- The three words of a part of twelve bytes are words of the whole.
module _ (s : List ℕ) (at n : ℕ) (twelve : n ≡ 12) (fits : 4 * at + 12 ≤ length s) where
  part_long : length (take n (drop (4 * at) s)) ≡ n
  part_long = length-take-le n (drop (4 * at) s) (omega (arith, length-drop (4 * at) s))

  byte_at : (i k : ℕ) → i < 12 → 4 * at + i ≡ k → get_or (take n (drop (4 * at) s)) i 0 ≡ get_or s k 0
  byte_at i k h e = get_or-take n (drop (4 * at) s) i 0 (omega arith) ∙ get_or-drop (4 * at) s i 0 ∙ ap (λ (j : ℕ). get_or s j 0) e

  part_word : (j k : ℕ) → j < 3 → at + j ≡ k → get_or (words (take n (drop (4 * at) s))) j 0 ≡ get_or (words s) k 0
  part_word j k h e =
      omega (
        arith,
        words_at (take n (drop (4 * at) s)) j (omega (arith, part_long)),
        words_at s k (omega arith),
        byte_at (4 * j) (4 * k) (omega arith) (omega arith),
        byte_at (4 * j + 1) (4 * k + 1) (omega arith) (omega arith),
        byte_at (4 * j + 2) (4 * k + 2) (omega arith) (omega arith),
        byte_at (4 * j + 3) (4 * k + 3) (omega arith) (omega arith),
      )

  pub row_part : row_from (words (take n (drop (4 * at) s))) 0 ≡ row_from (words s) at
  row_part =
      rw (part_word 0 at (omega arith) (omega arith), part_word 1 (at + 1) (omega arith) (omega arith), part_word 2 (at + 2) (omega arith) (omega arith))

pub row_is : (ws : List ℕ) (at : ℕ) {dated deadline steps : ℕ} → dated ≡ get_or ws at 0 → deadline ≡ get_or ws (at + 1) 0 → steps ≡ get_or ws (at + 2) 0
    → ◌≡◌ {A = Row} (record { dated = dated; deadline = deadline; steps = steps }) (row_from ws at)
row_is ws at d e f = rw (d, e, f)
