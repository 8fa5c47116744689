-- Where task order and predecessors close no circle, one of those pending is always ready, so that every activity of the order is taken.
use Rattle.std.specs.Prelude.{None, Option, Some, ℕ}
use Prim.Native.Nat.{ℕ, zero, suc, ◌+◌, ◌≤◌, ◌<◌}
use mathlib.Core.Path.{◌≡◌, refl, sym, ap, ◌∙◌, subst}
use mathlib.Core.Bool.{Bool, true, false, not, ◌||◌}
use mathlib.Core.List.{List, [], ◌∷◌}
use mathlib.Core.Logic.{◌⊎◌, inl, ⊎_elim}
use native.Mathlib.Omega.{arith}
use borrow.Author.Tests.{eq-eqb, eqb-true}
use lib.Dec.{eqb}
use lib.ListN.{length, get_or, set, replicate, length-set}
use lib.Seq.{get_or-set_same, get_or-set_other}
use Rattle.graph.specs.Counting.{count_of, hit, sum_to, Below}
use Rattle.graph.specs.Arcs.{Circle, Leads}
use Rattle.graph.specs.Arcs.Leads.{one, more}
use Rattle.graph.specs.Links.{to_if}
use Rattle.graph.proofs.CountingLaws.{hit-eq, hit-ne, either, below_of, below_more, count_all, sum_to-ap, sum_to-add}
use Rattle.graph.proofs.CircleLaws.{circle}
use Rattle.plan.specs.Problem.{Problem}
use Rattle.intake.specs.Circle.{Before}
use Rattle.intake.specs.Circle.Before.{step, name}
use Rattle.lines.proofs.LinkLaws.{marked-length}
use Rattle.in_order.specs.InOrder.{is_pending, any_pending, earlier_pending, is_ready, can_come, or_else, first_ready, ready_from, all_pending, ready_order}
use Rattle.in_order.proofs.PendingLaws.{or_true, and_true, marked_in, pending_of, pending_most, sum_most}
use Rattle.in_order.proofs.TakingLaws.{first_is, first_pending}
use Rattle.in_order.proofs.OrderLaws.{ready_pending, ready_once}

-- ---- arcs

trans : {R : ℕ → ℕ → Type 0} {a b c : ℕ} → Leads R a b → Leads R b c → Leads R a c
trans (one r) m = more r m
trans (more r l) m = more r (trans l m)

flat : {R : ℕ → ℕ → Type 0} {a b : ℕ} → Leads (Leads R) a b → Leads R a b
flat (one l) = l
flat (more l m) = trans l (flat m)

-- ---- what is not ready waits for one that is pending

not_false : (a : Bool) → not a ≡ false → a ≡ true
not_false true e = refl
not_false false e = let z : ◌≡◌ {A = ℕ} 0 1 = cc in absurd (omega arith)

any_means : (pending l : List ℕ) → any_pending pending l ≡ true → (b : ℕ) × (0 < count_of b l) × (get_or pending b 0 ≡ 1)
unfolding any_pending count_of
any_means pending [] e = let z : ◌≡◌ {A = ℕ} 0 1 = cc in absurd (omega arith)
any_means pending (b ∷ l) e =
    let deeper = any_means pending l in
    ⊎_elim (λ x. (b, omega (arith, hit-eq b b refl), eqb-true (get_or pending b 0) 1 x))
    (λ y. let w = deeper y in (w.0, omega (arith, w.1), w.2))
    (or_true (is_pending pending b) (any_pending pending l) e)

earlier_means : (p : Problem) (pending : List ℕ) (a : ℕ) → a < p.n → earlier_pending p pending a ≡ true → (b : ℕ) × (get_or pending b 0 ≡ 1) × Leads (Before p) b a
unfolding earlier_pending
earlier_means p pending zero h e = let z : ◌≡◌ {A = ℕ} 0 1 = cc in absurd (omega arith)
earlier_means p pending (suc a) h e =
    let w = and_true (eqb (p.task_of a) (p.task_of (suc a))) (is_pending pending a || earlier_pending p pending a) e in
    let arc : Before p a (suc a) = step h (rw w.0 refl) in
    let deeper = earlier_means p pending a (omega arith) in
    ⊎_elim (λ x. (a, eqb-true (get_or pending a 0) 1 x, one arc)) (λ y. let v = deeper y in (v.0, v.1, trans v.2 (one arc))) (or_true (is_pending pending a) (earlier_pending p pending a) w.1)

waits : (p : Problem) (pending : List ℕ) (a : ℕ) → a < p.n → is_ready p pending a ≡ false → (b : ℕ) × (get_or pending b 0 ≡ 1) × Leads (Before p) b a
waits p pending a h e =
    ⊎_elim (λ x. let w = any_means pending (p.predecessors a) x in (w.0, w.2, one (name h w.1))) (earlier_means p pending a h)
    (or_true (any_pending pending (p.predecessors a)) (earlier_pending p pending a) (not_false (any_pending pending (p.predecessors a) || earlier_pending p pending a) e))

-- ---- none is ready

to_not : (t : Bool) (a : ℕ) (other : Option ℕ) → or_else (to_if t a) other ≡ None → (t ≡ false) × (other ≡ None)
to_not true a other e = let z : ◌≡◌ {A = ℕ} 0 1 = cc in absurd (omega arith)
to_not false a other e = (refl, e)

none_comes : (p : Problem) (pending l : List ℕ) (a : ℕ) → first_ready p pending l ≡ None → 0 < count_of a l → can_come p pending a ≡ false
unfolding first_ready count_of
none_comes p pending [] a e h = absurd (omega arith)
none_comes p pending (b ∷ l) a e h =
    let w = to_not (can_come p pending b) b (first_ready p pending l) e in
    let deeper = none_comes p pending l a w.1 in
    either b a (λ q. ap (can_come p pending) (sym q) ∙ w.0) (λ ne. deeper (omega (arith, hit-ne b a ne)))

module _ (p : Problem) (activities : List ℕ) (known : Below p.n activities) (acyclic : Circle p.n (Before p) → ⊥) where
  -- only what is in the order is pending
  abbrev Listed : List ℕ → Type 0
  Listed pending = (x : ℕ) → get_or pending x 0 ≡ 1 → 0 < count_of x activities

  none_left : (pending : List ℕ) → Listed pending → first_ready p pending activities ≡ None → (x : ℕ) → get_or pending x 0 ≡ 1 → ⊥
  none_left pending listed e x z =
      let c = circle p.n (Leads (Before p)) (λ a. get_or pending a 0 ≡ 1) back x (below_of p.n x activities known (listed x z)) z in
      acyclic (c.0, c.1, flat c.2)
    where
      back : (a : ℕ) → a < p.n → get_or pending a 0 ≡ 1 → (b : ℕ) × (b < p.n) × (get_or pending b 0 ≡ 1) × Leads (Before p) b a
      back a h s =
          let n : can_come p pending a ≡ false = none_comes p pending activities a e (listed a s) in
          let r : is_ready p pending a ≡ false = rw (eq-eqb (get_or pending a 0) 1 s) at n in
          let w = waits p pending a h r in
          (w.0, below_of p.n w.0 activities known (listed w.0 w.1), w.1, w.2)

  -- ---- each taken leaves one less

  abbrev to_come : List ℕ → ℕ
  to_come pending = sum_to p.n (λ x. hit (get_or pending x 0) 1)

  at_most : (k : ℕ) (f : ℕ → ℕ) (x : ℕ) → x < k → f x ≤ sum_to k f
  unfolding sum_to
  at_most zero f x h = absurd (omega arith)
  at_most (suc k) f x h = either x k (λ e. omega (arith, ap f e)) (λ ne. omega (arith, at_most k f x (omega (arith, ne))))

  one_less : (pending : List ℕ) (a : ℕ) → length pending ≡ 128 → p.n ≤ 128 → a < p.n → get_or pending a 0 ≡ 1 → to_come pending ≡ to_come (set pending a 0) + 1
  unfolding count_of Below
  one_less pending a l few h z =
      sum_to-ap p.n (λ x. hit (get_or pending x 0) 1) (λ x. hit (get_or (set pending a 0) x 0) 1 + count_of x (a ∷ []))
      (λ x k.
      either a x
      (λ e.
      let zero_there : get_or (set pending a 0) x 0 ≡ 0 = subst (λ (y : ℕ). get_or (set pending a 0) y 0 ≡ 0) e (get_or-set_same pending a 0 0 (omega arith)) in
      omega (arith, hit-eq a x e, hit-ne (get_or (set pending a 0) x 0) 1 (λ o. omega (arith, o, zero_there)), hit-eq (get_or pending x 0) 1 (subst (λ (y : ℕ). get_or pending y 0 ≡ 1) e z)))
      (λ ne. omega (arith, hit-ne a x ne, ap (λ (y : ℕ). hit y 1) (get_or-set_other pending a x 0 0 (λ e. ne (sym e))))))
      ∙ sum_to-add p.n (λ x. hit (get_or (set pending a 0) x 0) 1) (λ x. count_of x (a ∷ []))
      ∙ ap (λ (y : ℕ). to_come (set pending a 0) + y) (count_all p.n (a ∷ []) (h, tt))

  still_listed : (pending : List ℕ) (a : ℕ) → length pending ≡ 128 → a < 128 → Listed pending → (x : ℕ) → get_or (set pending a 0) x 0 ≡ 1 → (a ≡ x → ⊥) × (get_or pending x 0 ≡ 1)
  still_listed pending a l k listed x z =
      either a x
      (λ e. absurd (omega (arith, z, subst (λ (y : ℕ). get_or (set pending a 0) y 0 ≡ 0) e (get_or-set_same pending a 0 0 (omega arith)))))
      (λ ne. (ne, sym (get_or-set_other pending a x 0 0 (λ e. ne (sym e))) ∙ z))

  all_come : p.n ≤ 128 → (fuel : ℕ) (pending : List ℕ) (next : Option ℕ) → next ≡ first_ready p pending activities → length pending ≡ 128 → Listed pending → to_come pending ≤ fuel
      → (x : ℕ) → get_or pending x 0 ≡ 1 → 0 < count_of x (ready_from p activities fuel next pending)
  unfolding ready_from count_of
  all_come few zero pending next e l listed enough x z =
      absurd (omega (arith, hit-eq (get_or pending x 0) 1 z, at_most p.n (λ y. hit (get_or pending y 0) 1) x (below_of p.n x activities known (listed x z))))
  all_come few (suc fuel) pending None e l listed enough x z = absurd (none_left pending listed (sym e) x z)
  all_come few (suc fuel) pending (Some a) e l listed enough x z =
      let here = below_of p.n a activities known (first_is p pending activities a (sym e)).0 in
      let less = one_less pending a l few here (first_pending p pending activities a (sym e)) in
      let rest = all_come few fuel (set pending a 0) (first_ready p (set pending a 0) activities) refl (length-set pending a 0 ∙ l)
      (λ y q. listed y (still_listed pending a l (omega arith) listed y q).1) (omega (arith, less)) x in
      either a x (λ q. omega (arith, hit-eq a x q)) (λ ne. omega (arith, rest (get_or-set_other pending a x 0 0 (λ q. ne (sym q)) ∙ z)))

  -- Every activity of the order is taken as often as it stands there, which is once at most.
  pub all_taken : p.n ≤ 128 → ((x : ℕ) → count_of x activities ≤ 1) → (x : ℕ) → count_of x (ready_order p activities) ≡ count_of x activities
  all_taken few once x =
      either (count_of x activities) 0
      (λ z. omega (arith, z, ready_pending p activities known few x, pending_most activities x))
      (λ ne.
      let there : get_or (all_pending activities) x 0 ≡ 1 = marked_in activities (replicate 128 0) x (below_more p.n 128 activities few known) (inl (omega (arith, ne))) in
      let come = all_come few (length activities) (all_pending activities) (first_ready p (all_pending activities) activities) refl (marked-length activities 1 (replicate 128 0))
      (pending_of activities) (omega (arith, sum_most p.n (λ y. hit (get_or (all_pending activities) y 0) 1) (λ y. count_of y activities) (pending_most activities), count_all p.n activities known)) x there in
      omega (arith, ne, once x, come, ready_once p activities known few x))
