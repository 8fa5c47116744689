-- An order in which each activity comes after the step before it in its task gives itself back by its task numbers. Assumes nothing.
use Prim.Native.Nat.{ℕ, zero, suc, ◌+◌, ◌-◌, ◌≤◌, ◌<◌}
use mathlib.Core.Path.{◌≡◌, refl, sym, ap, ap₂, ◌∙◌, subst}
use mathlib.Core.Bool.{Bool, true, cond}
use mathlib.Core.List.{List, [], ◌∷◌}
use native.Mathlib.Omega.{arith}
use borrow.Author.Tests.{lt-ltb, eq-eqb, ne_eqb}
use Rattle.graph.specs.Counting.{count_of, Below}
use Rattle.graph.specs.Filing.{cons_if}
use Rattle.graph.specs.Order.{InTurn}
use Rattle.graph.proofs.CountingLaws.{either, hit-ne, hit-le}
use Rattle.plan.specs.Problem.{Problem, Genes}
use Rattle.plan.specs.Accepted.{Accepted}
use Rattle.genes.specs.Indexed.{gives, indexed_from}
use Rattle.search.specs.Saving.{tasks_of}
use Rattle.improved_genes.proofs.TaskCount.{stretch_sum, mine, tasks-sum, own_task}

module _ {p : Problem} {g : Genes} (ok : Accepted p g) (R : ℕ → ℕ → Type 0) (step : (a : ℕ) → suc a < p.n → p.task_of a ≡ p.task_of (suc a) → R a (suc a)) where
  -- with an activity, all earlier steps of its task were taken
  pub record Taken (d : List ℕ) : Type 0 where
    known : Below p.n d
    once : (b : ℕ) → count_of b d ≤ 1
    down : (b q : ℕ) → 0 < count_of b d → q < b → p.task_of q ≡ p.task_of b → 0 < count_of q d

  before : (q a : ℕ) → q ≤ a → suc a < p.n → p.task_of q ≡ p.task_of (suc a) → p.task_of a ≡ p.task_of (suc a)
  before q a h l e =
      let low = (ok.owned q (omega arith)).0 in
      let high = (ok.owned (suc a) l).1 in
      own_task ok (p.task_of (suc a)) a (ok.owner (suc a) l) (omega (arith, low, ap p.first e)) (omega (arith, high))

  earlier : (d : List ℕ) (a : ℕ) → Taken d → a < p.n → ((q : ℕ) → R q a → 0 < count_of q d) → (q : ℕ) → q < a → p.task_of q ≡ p.task_of a → 0 < count_of q d
  earlier d zero k h w q l e = absurd (omega arith)
  earlier d (suc a) k h w q l e =
      let same = before q a (omega arith) h e in
      let here = w a (step a h same) in
      either q a (λ i. subst (λ (x : ℕ). 0 < count_of x d) (sym i) here) (λ ne. k.down a q here (omega (arith, l, ne)) (e ∙ sym same))

  module _ (d : List ℕ) (a : ℕ) (k : Taken d) (here : a < p.n) (new : count_of a d ≡ 0) (w : (q : ℕ) → R q a → 0 < count_of q d) where
    abbrev t : ℕ
    t = p.task_of a

    later : (b : ℕ) → a ≤ b → p.task_of b ≡ t → count_of b d ≡ 0
    later b h e =
        either (count_of b d) 0 (λ z. z)
        (λ nz. either b a (λ i. ap (λ (x : ℕ). count_of x d) i ∙ new) (λ ne. absurd (omega (arith, new, k.down b a (omega (arith, nz)) (omega (arith, h, ne)) (sym e)))))

    -- a task's steps that were taken are those before this one
    task_taken : count_of t (tasks_of p d) ≡ a - p.first t
    task_taken =
        let low = ok.owned a here in
        let mine_if : (b : ℕ) → p.task_of b ≡ t → cond (mine p t b) (count_of b d) 0 ≡ count_of b d = λ b e. ap (λ (s : Bool). cond s (count_of b d) 0) (eq-eqb (p.task_of b) t e) in
        let not_mine : (b : ℕ) → (p.task_of b ≡ t → ⊥) → cond (mine p t b) (count_of b d) 0 ≡ 0 = λ b ne. ap (λ (s : Bool). cond s (count_of b d) 0) (ne_eqb (p.task_of b) t ne) in
        tasks-sum p t d k.known
        ∙ stretch_sum p.n (p.first t) (a - p.first t) (λ b. cond (mine p t b) (count_of b d) 0) (omega (arith, here, low.0))
        (λ b l m.
        let e = own_task ok t b (ok.owner a here) l (omega (arith, m, low.0, low.1)) in
        omega (arith, mine_if b e, k.once b, earlier d a k here w b (omega (arith, m, low.0)) e))
        (λ b l. not_mine b (λ e. absurd (omega (arith, l, here, low.0, ap p.first e, (ok.owned b (omega (arith, l, here, low.0))).0))))
        (λ b l m. either (p.task_of b) t (λ e. mine_if b e ∙ later b (omega (arith, l, low.0)) e) (λ ne. not_mine b ne))

    given : gives p (tasks_of p d) t ≡ true
    given =
        let low = ok.owned a here in
        rw (lt-ltb t p.tasks (ok.owner a here), lt-ltb (count_of t (tasks_of p d)) (p.steps t) (omega (arith, task_taken, low.0, low.1)))

    taken_more : Taken (a ∷ d)
    unfolding count_of Below
    taken_more =
        record {
          known = (here, k.known);
          once = λ b. either a b (λ e. omega (arith, hit-le a b, new, ap (λ (x : ℕ). count_of x d) e)) (λ ne. omega (arith, hit-ne a b ne, k.once b));
          down = λ b q c l e.
              let old : 0 < count_of q d =
              either a b (λ i. earlier d a k here w q (omega (arith, l, i)) (e ∙ ap p.task_of (sym i))) (λ ne. k.down b q (omega (arith, c, hit-ne a b ne)) l e) in
              omega (arith, old);
        }

  pub indexed-back : (d o : List ℕ) → Taken d → InTurn p.n R d o → indexed_from p (tasks_of p d) (tasks_of p o) ≡ o
  unfolding indexed_from tasks_of InTurn
  indexed-back d [] k w = refl
  indexed-back d (a ∷ o) k w =
      let c = task_taken d a k w.0 w.1 w.2 in
      let low = (ok.owned a w.0).0 in
      let is : p.first (p.task_of a) + count_of (p.task_of a) (tasks_of p d) ≡ a = omega (arith, c, low) in
      ap (λ (s : Bool). cons_if s (p.first (p.task_of a) + count_of (p.task_of a) (tasks_of p d)) (indexed_from p (p.task_of a ∷ tasks_of p d) (tasks_of p o))) (given d a k w.0 w.1 w.2)
      ∙ ap₂ (λ (x : ℕ) (l : List ℕ). x ∷ l) is (indexed-back (a ∷ d) o (taken_more d a k w.0 w.1 w.2) w.3)

  pub none_taken : Taken []
  unfolding count_of Below
  none_taken = record { known = tt; once = λ b. omega arith; down = λ b q c l e. absurd (omega arith) }
