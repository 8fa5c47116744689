-- Whoever is taken in order is ready: where everybody is in the order, what it waits for was taken before it, and so is settled.
use Rattle.std.specs.Prelude.{None, Option, Some, ℕ, unwrap_or}
use Prim.Native.Nat.{ℕ, zero, suc, ◌+◌, ◌-◌, ◌≤◌, ◌<◌}
use mathlib.Core.Path.{◌≡◌, refl, sym, ap, ◌∙◌, subst}
use mathlib.Core.Bool.{Bool, true, false, ◌||◌}
use mathlib.Core.List.{List, [], ◌∷◌}
use mathlib.Core.Logic.{inl}
use native.Mathlib.Omega.{arith}
use borrow.Author.Tests.{eq-eqb, not-true}
use lib.ListN.{length, get_or, set, replicate, length-set}
use lib.Seq.{get_or-set_same, get_or-set_other}
use Rattle.graph.specs.Counting.{count_of, hit, Below}
use Rattle.graph.specs.Filing.{cons_if}
use Rattle.graph.proofs.CountingLaws.{hit-ne, either, below_of, below_more, count_all, sum_to_full}
use Rattle.graph.proofs.NamingLaws.{zeros_at}
use Rattle.plan.specs.Problem.{Problem, Genes}
use Rattle.plan.specs.Accepted.{Accepted}
use Rattle.lines.proofs.LinkLaws.{marked-length}
use Rattle.genes.specs.Indexed.{indexed, assigned_to, is_assigned}
use Rattle.genes.proofs.TaskLaws.{same_task}
use Rattle.genes.proofs.MachineLaws.{assigned_known}
use Rattle.genes.proofs.IndexedLaws.{indexed_below}
use Rattle.board.specs.Board.{Board, empty_board, those, seat, sit}
use Rattle.in_order.specs.InOrder.{is_pending, any_pending, earlier_pending, is_ready, first_ready, ready_from, all_pending, ready_order, seat_or_settle, sit_all, place_in_order}
use Rattle.in_order.proofs.PendingLaws.{and_true, marked_in, pending_most}
use Rattle.in_order.proofs.TakingLaws.{first_is, first_pending}
use Rattle.in_order.proofs.OrderLaws.{ready_pending}
use Rattle.in_order.proofs.Theorem.{well_placed}
use Rattle.accepted_sheets.specs.Orderly.{Settled, Orderly, Next}
use Rattle.accepted_sheets.proofs.SeatedLaws.{put, stays, settle_orderly, sit_orderly, empty_orderly}

pub or_false : (s t : Bool) → (s || t) ≡ false → (s ≡ false) × (t ≡ false)
or_false true t e = let z : ◌≡◌ {A = ℕ} 0 1 = cc in absurd (omega arith)
or_false false t e = (refl, e)

-- ---- what is not pending

unmarked : (pending : List ℕ) (a : ℕ) → is_pending pending a ≡ false → get_or pending a 0 ≡ 1 → ⊥
unmarked pending a e h = let f = eq-eqb (get_or pending a 0) 1 h in let z : ◌≡◌ {A = ℕ} 0 1 = cc in omega arith

none_pending : (pending l : List ℕ) (q : ℕ) → any_pending pending l ≡ false → 0 < count_of q l → get_or pending q 0 ≡ 1 → ⊥
unfolding any_pending count_of
none_pending pending [] q e h s = omega arith
none_pending pending (b ∷ l) q e h s =
    let o = or_false (is_pending pending b) (any_pending pending l) e in
    either b q (λ y. unmarked pending b o.0 (subst (λ (x : ℕ). get_or pending x 0 ≡ 1) (sym y) s))
    (λ ne. none_pending pending l q o.1 (omega (arith, h, hit-ne b q ne)) s)

module _ {p : Problem} {g : Genes} (ok : Accepted p g) where
  -- The numbers between two steps of a task are steps of it.
  pub between : (q k a : ℕ) → q ≤ k → k ≤ a → a < p.n → p.task_of q ≡ p.task_of a → p.task_of k ≡ p.task_of a
  between q k a h l n e =
      let t = p.task_of a in
      let low = ok.owned q (omega arith) in
      let mid = ok.owned k (omega arith) in
      let high = ok.owned a n in
      let same : p.first (p.task_of q) ≡ p.first t = ap p.first e in
      same_task ok (p.task_of k) t (k - p.first (p.task_of k)) (k - p.first t) (omega (arith, mid.0, mid.1)) (omega (arith, same, low.0, high.1)) (omega (arith, same, low.0, mid.0))

  none_earlier : (pending : List ℕ) (a q : ℕ) → a < p.n → earlier_pending p pending a ≡ false → q < a → p.task_of q ≡ p.task_of a → get_or pending q 0 ≡ 1 → ⊥
  unfolding earlier_pending
  none_earlier pending zero q n e h s f = omega arith
  none_earlier pending (suc a) q n e h s f =
      let same = between q a (suc a) (omega arith) (omega arith) n s in
      let o : (is_pending pending a || earlier_pending p pending a) ≡ false = rw (eq-eqb (p.task_of a) (p.task_of (suc a)) same) at e in
      let w = or_false (is_pending pending a) (earlier_pending p pending a) o in
      either q a (λ y. unmarked pending a w.0 (subst (λ (x : ℕ). get_or pending x 0 ≡ 1) y f))
      (λ ne. none_earlier pending a q (omega arith) w.1 (omega (arith, h, ne)) (s ∙ sym same) f)

  -- ---- pending or settled

  -- everybody below n is one of the two
  pub record Sorted (pending : List ℕ) (b : Board) : Type 0 where
    pub sized : length pending ≡ 128
    pub left : (q : ℕ) → q < p.n → get_or pending q 0 ≡ 1 → get_or b.settled q 0 ≡ 0
    pub gone : (q : ℕ) → q < p.n → (get_or pending q 0 ≡ 1 → ⊥) → Settled b q

  module _ (activities : List ℕ) (known : Below p.n activities) where
    ready_next : {pending : List ℕ} {b : Board} → Sorted pending b → (a : ℕ) → first_ready p pending activities ≡ Some a → Next p b a
    ready_next {pending} {b} s a e =
        let f = first_is p pending activities a e in
        let here = below_of p.n a activities known f.0 in
        let r = not-true (any_pending pending (p.predecessors a) || earlier_pending p pending a) (and_true (is_pending pending a) (is_ready p pending a) f.1).1 in
        let o = or_false (any_pending pending (p.predecessors a)) (earlier_pending p pending a) r in
        record {
          here = here;
          free = s.left a here (first_pending p pending activities a e);
          steps = λ q l t. s.gone q (omega (arith, l, here)) (none_earlier pending a q here o.1 l t);
          named = λ q h. s.gone q (below_of p.n q (p.predecessors a) (ok.predecessors a) h) (none_pending pending (p.predecessors a) q o.0 h);
        }

    one_orderly : {b : Board} → Orderly p (assigned_to g) b → (a : ℕ) → Next p b a → (o : Option ℕ) → g.assigned a ≡ o → Orderly p (assigned_to g) (seat_or_settle p g a o b)
    one_orderly {b} w a next None e = settle_orderly w a next.here next.steps
    one_orderly {b} w a next (Some m) e =
        let f : assigned_to g a ≡ m = ap (λ (o : Option ℕ). unwrap_or o 0) e in
        subst (λ (k : ℕ). Orderly p (assigned_to g) (sit p (seat p (assigned_to g) b a k) b)) f (sit_orderly ok (assigned_known ok) w next)

    one_settled : (b : Board) (a : ℕ) (o : Option ℕ) → (seat_or_settle p g a o b).settled ≡ set b.settled a 1
    one_settled b a None = refl
    one_settled b a (Some m) = refl

    module _ {pending : List ℕ} {b : Board} (s : Sorted pending b) (w : Orderly p (assigned_to g) b) (a : ℕ) (here : a < p.n) (o : Option ℕ) where
      flags : (q : ℕ) → get_or (seat_or_settle p g a o b).settled q 0 ≡ get_or (set b.settled a 1) q 0
      flags q = ap (λ (l : List ℕ). get_or l q 0) (one_settled b a o)

      taken : get_or (set pending a 0) a 0 ≡ 0
      taken = get_or-set_same pending a 0 0 (omega (arith, s.sized, here, ok.activities.1))

      sorted_again : Sorted (set pending a 0) (seat_or_settle p g a o b)
      sorted_again =
          record {
            sized = length-set pending a 0 ∙ s.sized;
            left = λ q h f.
                either a q (λ e. absurd (omega (arith, f, subst (λ (y : ℕ). get_or (set pending a 0) y 0 ≡ 0) e taken)))
                (λ ne.
                flags q ∙ get_or-set_other b.settled a q 1 0 (λ e. ne (sym e)) ∙ s.left q h (sym (get_or-set_other pending a q 0 0 (λ e. ne (sym e))) ∙ f));
            gone = λ q h f.
                flags q
                ∙ either a q (λ e. subst (λ (y : ℕ). get_or (set b.settled a 1) y 0 ≡ 1) e (put w a here))
                (λ ne. stays w a here q (s.gone q h (λ e. f (get_or-set_other pending a q 0 0 (λ y. ne (sym y)) ∙ e))));
          }

    from_orderly : (fuel : ℕ) (pending : List ℕ) (next : Option ℕ) (b : Board) → first_ready p pending activities ≡ next → Sorted pending b → Orderly p (assigned_to g) b
        → Orderly p (assigned_to g) (sit_all p g (ready_from p activities fuel next pending) b)
    unfolding ready_from sit_all
    from_orderly zero pending next b e s w = w
    from_orderly (suc fuel) pending None b e s w = w
    from_orderly (suc fuel) pending (Some a) b e s w =
        let next = ready_next s a e in
        from_orderly fuel (set pending a 0) (first_ready p (set pending a 0) activities) (seat_or_settle p g a (g.assigned a) b) refl
        (sorted_again s w a next.here (g.assigned a)) (one_orderly w a next (g.assigned a) refl)

    sorted_begin : ((q : ℕ) → q < p.n → 0 < count_of q activities) → Sorted (all_pending activities) (empty_board p.n)
    sorted_begin all =
        record {
          sized = marked-length activities 1 (replicate 128 0);
          left = λ q h f. zeros_at p.n q;
          gone = λ q h f.
              absurd (f (marked_in activities (replicate 128 0) q (below_more p.n 128 activities ok.activities.1 known) (inl (all q h))));
        }

  -- ---- everybody is in the order

  those_fewer : (test : ℕ → Bool) (l : List ℕ) (q : ℕ) → count_of q (those test l) ≤ count_of q l
  unfolding those count_of
  those_fewer test [] q = omega arith
  those_fewer test (a ∷ l) q = go (test a) (those_fewer test l q)
    where
      go : (t : Bool) → count_of q (those test l) ≤ count_of q l → count_of q (cons_if t a (those test l)) ≤ hit a q + count_of q l
      go true h = omega arith
      go false h = omega arith

  all_named : length (place_in_order p g).order ≡ p.n → (q : ℕ) → q < p.n → 0 < count_of q (indexed p g)
  all_named full q h =
      let s = well_placed p g ok in
      let l = (place_in_order p g).order in
      let one = sum_to_full p.n (λ a. count_of a l) s.once (count_all p.n l s.sound.known ∙ full) q h in
      let few = those_fewer (λ a. is_assigned (g.assigned a)) (ready_order p (indexed p g)) q in
      omega
      (arith, one, ap (count_of q) s.rows, few, ready_pending p (indexed p g) (indexed_below ok) ok.activities.1 q, pending_most (indexed p g) q)

  pub in_order_orderly : length (place_in_order p g).order ≡ p.n → Orderly p (assigned_to g) (place_in_order p g)
  in_order_orderly full =
      from_orderly (indexed p g) (indexed_below ok) (length (indexed p g)) (all_pending (indexed p g)) (first_ready p (all_pending (indexed p g)) (indexed p g)) (empty_board p.n) refl
      (sorted_begin (indexed p g) (indexed_below ok) (all_named full)) (empty_orderly p (assigned_to g))
