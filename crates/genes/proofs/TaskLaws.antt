-- Laws of tasks whose activities are numbered one task after the other. Assumes nothing.
use Prim.Native.Nat.{ℕ, zero, suc, ◌+◌, ◌*◌, ◌-◌, ◌≤◌, ◌<◌}
use mathlib.Core.Path.{◌≡◌, refl, sym, ap, ◌∙◌}
use mathlib.Core.List.{List}
use native.Mathlib.Numerals.{add-one}
use native.Mathlib.Omega.{arith}
use lib.ListN.{length, set, length-set}
use Rattle.graph.proofs.CountingLaws.{either}
use Rattle.grammar.specs.Rules.{total_from}
use Rattle.plan.specs.Problem.{Problem, Genes}
use Rattle.plan.specs.Input.{problem_of}
use Rattle.plan.specs.Accepted.{Accepted}
use Rattle.plan.specs.declared.Layout.{Layout}
use Rattle.plan.proofs.InputLaws.{total_last}
use Rattle.genes.specs.Held.{filled_to}
use Rattle.genes.proofs.HeldLaws.{filled_more}

-- ---- `fill_firsts`: the first activities of t tasks, and the next one

pub record Numbering (ws : List ℕ) (z : Layout) (cells₀ cells : List ℕ) (first t : ℕ) : Type 0 where
  pub within : t ≤ z.tasks
  pub sized : length cells ≡ length cells₀
  pub small : first ≤ t * 4294967295
  pub next : first ≡ (problem_of ws z).first t
  pub held : cells ≡ filled_to (problem_of ws z).first t cells₀

pub number_begin : (ws : List ℕ) (z : Layout) (cells : List ℕ) → Numbering ws z cells cells 0 0
unfolding total_from filled_to
number_begin ws z cells = record { within = omega arith; sized = refl; small = omega arith; next = refl; held = refl }

module _ {ws : List ℕ} {z : Layout} {cells₀ cells : List ℕ} {first t : ℕ} (w : Numbering ws z cells₀ cells first t) where
  pub number_again : (x steps : ℕ) → x ≡ first → t < z.tasks → steps ≤ 4294967295 → steps ≡ (problem_of ws z).steps t
      → Numbering ws z cells₀ (set cells t x) (first + steps) (t + 1)
  number_again x steps f h s e =
      record {
        within = omega arith;
        sized = length-set cells t x ∙ w.sized;
        small = omega (arith, w.small);
        next = rw (add-one t, w.next, e) (sym (total_last ws t (z.at.tasks + 1)));
        held = filled_more (problem_of ws z).first t x cells₀ w.held (f ∙ w.next);
      }

  pub number_end : z.tasks ≤ t → cells ≡ filled_to (problem_of ws z).first z.tasks cells₀
  number_end h = w.held ∙ ap (λ (i : ℕ). filled_to (problem_of ws z).first i cells₀) (omega (arith, w.within))

-- ---- a task's activities

module _ {p : Problem} {g : Genes} (plan : Accepted p g) where
  first_rises : (t k : ℕ) → p.first t ≤ p.first (t + k)
  first_rises t zero = let e : p.first (t + 0) ≡ p.first t = ap p.first (omega arith) in omega arith
  first_rises t (suc k) =
      let e : p.first (t + suc k) ≡ p.first (t + k + 1) = ap p.first (omega arith) in
      omega (arith, first_rises t k, plan.next_first (t + k))

  -- a task's last activity stands before the first of a later task
  before_later : (t u : ℕ) → t < u → p.first t + p.steps t ≤ p.first u
  before_later t u h =
      let e : p.first (t + 1 + (u - (t + 1))) ≡ p.first u = ap p.first (omega arith) in
      omega (arith, first_rises (t + 1) (u - (t + 1)), plan.next_first t)

  pub task_within : (t : ℕ) → t < p.tasks → p.first t + p.steps t ≤ p.n
  task_within t h = omega (arith, before_later t p.tasks h, plan.whole)

  -- an activity is one task's
  pub same_task : (t u i j : ℕ) → i < p.steps t → j < p.steps u → p.first t + i ≡ p.first u + j → t ≡ u
  same_task t u i j h k e =
      either t u (λ q. q)
      (λ ne. either (u - t) 0 (λ q. absurd (omega (arith, before_later u t (omega arith)))) (λ q. absurd (omega (arith, before_later t u (omega arith)))))
