-- The steps of a task are taken one after the other: where the step before is taken, so are all earlier ones. Of an order that the genes give
-- a step never comes without the step before it.
use Prim.Native.Nat.{ℕ, zero, suc, ◌+◌, ◌-◌, ◌≤◌, ◌<◌}
use mathlib.Core.Path.{◌≡◌, refl, sym, ap, ◌∙◌, subst}
use mathlib.Core.Bool.{Bool, true, false, not, ◌&&◌, ◌||◌}
use mathlib.Core.List.{List, [], ◌∷◌}
use mathlib.Core.Logic.{◌⊎◌, inl, inr, ⊎_elim}
use native.Mathlib.Omega.{arith}
use borrow.Author.Tests.{eq-eqb, eqb-true, lt-ltb, ltb-true}
use lib.Dec.{eqb, ltb}
use lib.ListN.{length, get_or, set, replicate}
use lib.Seq.{get_or-set_same, get_or-set_other}
use Rattle.graph.specs.Counting.{count_of, Below}
use Rattle.graph.specs.Filing.{cons_if}
use Rattle.graph.specs.Links.{to_if}
use Rattle.graph.proofs.CountingLaws.{hit-eq, hit-ne, hit-le, either, below_of, below_more}
use Rattle.plan.specs.Problem.{Problem, Genes}
use Rattle.plan.specs.Accepted.{Accepted}
use Rattle.genes.specs.Indexed.{gives, indexed_from, indexed}
use Rattle.genes.proofs.TaskLaws.{same_task}
use Rattle.genes.proofs.IndexedLaws.{indexed_below}
use Rattle.in_order.specs.InOrder.{is_pending, any_pending, earlier_pending, is_ready, can_come, all_pending}
use Rattle.in_order.specs.Waiting.{link_pending, Told, Stepwise}
use Rattle.in_order.proofs.PendingLaws.{or_true, and_true, marked_in}

-- ---- a step that is pending keeps the next one pending

abbrev pub Rising : (p : Problem) (activities pending : List ℕ) → Type 0
Rising p activities pending = (a : ℕ) → 0 < count_of (suc a) activities → p.task_of a ≡ p.task_of (suc a) → get_or pending a 0 ≡ 1 → get_or pending (suc a) 0 ≡ 1

same_tells : (t : Bool) (a : ℕ) (pending : List ℕ) (earlier : Bool) → (t ≡ true → earlier ≡ true → is_pending pending a ≡ true) → link_pending pending (to_if t a) ≡ (t && (is_pending pending a || earlier))
same_tells false a pending earlier h = refl
same_tells true a pending earlier h = go (is_pending pending a) earlier (h refl)
  where
    go : (x y : Bool) → (y ≡ true → x ≡ true) → x ≡ (x || y)
    go true y k = refl
    go false false k = refl
    go false true k = k refl

module _ (p : Problem) (activities pending : List ℕ) (stepwise : Stepwise p activities) (rising : Rising p activities pending) where
  earlier_up : (a : ℕ) → 0 < count_of a activities → earlier_pending p pending a ≡ true → get_or pending a 0 ≡ 1
  unfolding earlier_pending
  earlier_up zero h e = let z : ◌≡◌ {A = ℕ} 0 1 = cc in absurd (omega arith)
  earlier_up (suc a) h e =
      let w = and_true (eqb (p.task_of a) (p.task_of (suc a))) (is_pending pending a || earlier_pending p pending a) e in
      let same = eqb-true (p.task_of a) (p.task_of (suc a)) w.0 in
      let deeper = earlier_up a (stepwise a h same) in
      rising a h same (⊎_elim (λ x. eqb-true (get_or pending a 0) 1 x) deeper (or_true (is_pending pending a) (earlier_pending p pending a) w.1))

  pub told : (a : ℕ) → 0 < count_of a activities → Told p pending a
  unfolding earlier_pending
  told zero h = refl
  told (suc a) h =
      same_tells (eqb (p.task_of a) (p.task_of (suc a))) a pending (earlier_pending p pending a)
      (λ t e. eq-eqb (get_or pending a 0) 1 (earlier_up a (stepwise a h (eqb-true (p.task_of a) (p.task_of (suc a)) t)) e))

pub rising_begin : (p : Problem) (activities : List ℕ) → Below p.n activities → p.n ≤ 128 → {pending : List ℕ} → pending ≡ all_pending activities → Rising p activities pending
rising_begin p activities known few e a h s z = rw e (marked_in activities (replicate 128 0) (suc a) (below_more p.n 128 activities few known) (inl h))

not_true : (b : Bool) → not b ≡ true → b ≡ true → ⊥
not_true true e f = let z : ◌≡◌ {A = ℕ} 0 1 = cc in omega arith
not_true false e f = let z : ◌≡◌ {A = ℕ} 0 1 = cc in omega arith

or_right : (a b : Bool) → b ≡ true → (a || b) ≡ true
or_right true b e = refl
or_right false b e = e

ready_step : (p : Problem) (pending : List ℕ) (a : ℕ) → p.task_of a ≡ p.task_of (suc a) → get_or pending a 0 ≡ 1 → earlier_pending p pending (suc a) ≡ true
unfolding earlier_pending
ready_step p pending a s z = rw (eq-eqb (p.task_of a) (p.task_of (suc a)) s, eq-eqb (get_or pending a 0) 1 z) refl

-- One that can come is taken.
pub rising_again : (p : Problem) (activities pending : List ℕ) (a : ℕ) → length pending ≡ 128 → a < 128 → can_come p pending a ≡ true → Rising p activities pending
    → Rising p activities (set pending a 0)
rising_again p activities pending a l k come rising x h s z =
    either a x
    (λ e. absurd (omega (arith, z, subst (λ (y : ℕ). get_or (set pending a 0) y 0 ≡ 0) e (get_or-set_same pending a 0 0 (omega arith)))))
    (λ ne.
    let old : get_or pending x 0 ≡ 1 = sym (get_or-set_other pending a x 0 0 (λ e. ne (sym e))) ∙ z in
    either a (suc x)
    (λ e.
    let r = (and_true (is_pending pending a) (is_ready p pending a) come).1 in
    let w : earlier_pending p pending a ≡ true = subst (λ (y : ℕ). earlier_pending p pending y ≡ true) (sym e) (ready_step p pending x s old) in
    absurd (not_true (any_pending pending (p.predecessors a) || earlier_pending p pending a) r (or_right (any_pending pending (p.predecessors a)) (earlier_pending p pending a) w)))
    (λ nf. get_or-set_other pending a (suc x) 0 0 (λ e. nf (sym e)) ∙ rising x h s old))

-- ---- the order that the genes give

module _ {p : Problem} {g : Genes} (ok : Accepted p g) where
  cons_if_cases : {A : Type 0} (b : Bool) (x a : ℕ) (l : List ℕ) → 0 < count_of a (cons_if b x l) → (b ≡ true → x ≡ a → A) → (0 < count_of a l → A) → A
  unfolding count_of
  cons_if_cases true x a l h f k = either x a (λ e. f refl e) (λ ne. k (omega (arith, hit-ne x a ne)))
  cons_if_cases false x a l h f k = k h

  cons_if_keeps : (b : Bool) (x a : ℕ) (l : List ℕ) → (0 < count_of a l) ⊎ ((b ≡ true) × (x ≡ a)) → 0 < count_of a (cons_if b x l)
  unfolding count_of
  cons_if_keeps true x a l h = ⊎_elim (λ k. omega arith) (λ e. omega (arith, hit-eq x a e.1)) h
  cons_if_keeps false x a l h = ⊎_elim (λ k. k) (λ e. let q : false ≡ true = e.0 in let z : ◌≡◌ {A = ℕ} 0 1 = cc in absurd (omega arith)) h

  from_steps : (named order : List ℕ) (u i : ℕ) → u < p.tasks → i + 1 < p.steps u → 0 < count_of (p.first u + (i + 1)) (indexed_from p named order)
      → (i < count_of u named) ⊎ (0 < count_of (p.first u + i) (indexed_from p named order))
  unfolding indexed_from count_of
  from_steps named [] u i hu hi h = absurd (omega arith)
  from_steps named (t ∷ order) u i hu hi h =
      let deeper = from_steps (t ∷ named) order u i hu hi in
      let this = p.first t + count_of t named in
      let rest = indexed_from p (t ∷ named) order in
      cons_if_cases (gives p named t) this (p.first u + (i + 1)) rest h
      (λ b e.
      let w = and_true (ltb t p.tasks) (ltb (count_of t named) (p.steps t)) b in
      let s : t ≡ u = same_task ok t u (count_of t named) (i + 1) (ltb-true (count_of t named) (p.steps t) w.1) hi e in
      inl (omega (arith, e, ap p.first s, ap (λ (y : ℕ). count_of y named) s)))
      (λ k.
      ⊎_elim
      (λ few.
      either t u
      (λ s.
      either i (count_of u named)
      (λ q.
      inr (cons_if_keeps (gives p named t) this (p.first u + i) rest
      (inr (rw (lt-ltb t p.tasks (omega (arith, s)), lt-ltb (count_of t named) (p.steps t) (omega (arith, q, ap (λ (y : ℕ). count_of y named) s, ap p.steps s))) refl, omega (arith, q, ap p.first s, ap (λ (y : ℕ). count_of y named) s)))))
      (λ ne. inl (omega (arith, ne, few, hit-le t u))))
      (λ ne. inl (omega (arith, few, hit-ne t u ne))))
      (λ there. inr (cons_if_keeps (gives p named t) this (p.first u + i) rest (inl there)))
      (deeper k))

  pub indexed_stepwise : Stepwise p (indexed p g)
  unfolding count_of
  indexed_stepwise a h s =
      let b = below_of p.n (suc a) (indexed p g) (indexed_below ok) h in
      let u = p.task_of a in
      let mine = ok.owned a (omega (arith, b)) in
      let next = ok.owned (suc a) b in
      let e : p.first u + (a - p.first u + 1) ≡ suc a = omega (arith, mine.0) in
      let f : p.first u + (a - p.first u) ≡ a = omega (arith, mine.0) in
      let within : a - p.first u + 1 < p.steps u = omega (arith, mine.0, next.1, ap p.first s, ap p.steps s) in
      ⊎_elim (λ k. absurd (omega arith)) (λ k. subst (λ (y : ℕ). 0 < count_of y (indexed p g)) f k)
      (from_steps [] g.order u (a - p.first u) (ok.owner a (omega (arith, b))) within (subst (λ (y : ℕ). 0 < count_of y (indexed p g)) (sym e) h))
