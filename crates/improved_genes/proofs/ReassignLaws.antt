-- A reassignment's lines never contradict: it joins its new line behind nobody who starts after its end, and before nobody who ends before its
-- start, so that by time, and beside each other by the old order, nobody comes to wait for himself.
use Rattle.std.specs.Prelude.{None, Option, Some, ℕ}
use Prim.Native.Nat.{ℕ, zero, suc, ◌+◌, ◌-◌, ◌≤◌, ◌<◌}
use mathlib.Core.Path.{◌≡◌, refl, sym, ap, ◌∙◌, subst}
use mathlib.Core.Bool.{Bool, true, false, cond}
use mathlib.Core.List.{List, [], ◌∷◌, ◌++◌}
use native.Mathlib.Omega.{arith}
use borrow.Author.Tests.{ltb-true, ltb-false, leb-false}
use lib.Dec.{eqb, ltb, leb}
use lib.ListN.{length, get_or}
use Rattle.graph.specs.Counting.{count_of}
use Rattle.graph.specs.Arcs.{Graph, Waits}
use Rattle.graph.specs.Links.{linked}
use Rattle.graph.proofs.CountingLaws.{either, hit-eq, hit-ne, count_of-append}
use Rattle.graph.proofs.ShopTheorem.{graph}
use Rattle.graph.proofs.Theorem.{at_most_n, order_in_turn, all_named}
use Rattle.plan.specs.Problem.{Problem, Genes}
use Rattle.plan.specs.Accepted.{Accepted}
use Rattle.tables.specs.Tabled.{task_pred}
use Rattle.lines.specs.Lines.{Lines, line_pred, machine_of, place_on, WellFormed}
use Rattle.moves.specs.Moves.{line_of, remove_at, insert_at, applied, ReassignFits}
use Rattle.moves.specs.declared.Move.TheVariants.{Reassign}
use Rattle.moves.proofs.LineLaws.{length_remove, length_insert, insert_at_lem}
use Rattle.moves.proofs.MoveLaws.{new_line, old_line, other_line}
use Rattle.moves.proofs.StandingLaws.{applied-well_formed}
use Rattle.timing.specs.Timing.{timing_order, counts_for, start_of, span_at, contradicts}
use Rattle.timing.specs.Exactly.{Binds, line, task, name}
use Rattle.timing.proofs.LinesShop.{shop, counted}
use Rattle.timing.proofs.Demand3.{timing_exact}
use Rattle.path.specs.Placing.{end_at}
use Rattle.path.proofs.FallingLaws.{place_falls}
use Rattle.reassign.specs.Reassignments.{first_place, last_place}
use Rattle.search.specs.Step.{placing_of}
use Rattle.improved_genes.proofs.PathLaws.{each_is}
use Rattle.improved_genes.proofs.LineTurns.{neighbour, stands_there, on_own}
use Rattle.improved_genes.proofs.RankLaws.{rising-no_circle, rank, old_rises, joins_after, joins_before}
use Rattle.improved_genes.proofs.NextLaws.{pred_next, removed_before, removed_behind, inserted_before, inserted_behind, leading_pass, leading_stops}

place_most : (l : List ℕ) (a : ℕ) → place_on l a ≤ length l
unfolding place_on
place_most [] a = omega arith
place_most (x ∷ l) a = by (eqb x a) (place_most l a)
  where
    by : (t : Bool) → place_on l a ≤ length l → cond t 0 (place_on l a + 1) ≤ suc (length l)
    by true h = omega arith
    by false h = omega (arith, h)

link_counts : (q : ℕ) (l : Option ℕ) → l ≡ Some q → 0 < count_of q (linked l)
unfolding count_of
link_counts q l e = rw e (omega (arith, hit-eq q q refl))

link_is : (q : ℕ) (l : Option ℕ) → 0 < count_of q (linked l) → l ≡ Some q
unfolding count_of
link_is q None h = absurd (omega arith)
link_is q (Some b) h = either b q (λ e. ap Some e) (λ ne. absurd (omega (arith, h, hit-ne b q ne)))

not_true_false : (t : Bool) → (t ≡ true → ⊥) → t ≡ false
not_true_false true h = absurd (h refl)
not_true_false false h = refl

module _ (p : Problem) (g : Genes) (ok : Accepted p g) (lines : Lines) (sixteen : length lines ≡ 16) (w : WellFormed p.n p.machines lines) (possible : contradicts p lines ≡ false) where
  -- ---- times and places of timed lines

  abbrev S : ℕ → ℕ
  S = start_of p lines

  abbrev E : ℕ → ℕ
  E x = start_of p lines x + span_at p lines x

  abbrev pos : ℕ → ℕ
  pos = place_on (timing_order p lines)

  abbrev net : Graph
  net = graph (shop p g ok lines w)

  order_full : length (timing_order p lines) ≡ p.n
  order_full = omega (arith, at_most_n net (counts_for p lines) (counted p g ok lines w), ltb-false (length (timing_order p lines)) p.n possible)

  end_is : (x : ℕ) → x < p.n → end_at (placing_of p lines) x ≡ E x
  end_is x h = each_is (λ b. start_of p lines b + span_at p lines b) p.n x h

  waits : (q a : ℕ) → Binds p lines q a → Waits net q a
  waits q a b =
      let x = count_of-append q (linked (line_pred lines a)) (linked (task_pred p a) ++ p.predecessors a) in
      let y = count_of-append q (linked (task_pred p a)) (p.predecessors a) in
      by b x y
    where
      by : Binds p lines q a
          → count_of q (linked (line_pred lines a) ++ (linked (task_pred p a) ++ p.predecessors a)) ≡ count_of q (linked (line_pred lines a)) + count_of q (linked (task_pred p a) ++ p.predecessors a)
          → count_of q (linked (task_pred p a) ++ p.predecessors a) ≡ count_of q (linked (task_pred p a)) + count_of q (p.predecessors a)
          → Waits net q a
      by (line h e) x y = (h, omega (arith, x, link_counts q (line_pred lines a) e))
      by (task h e) x y = (h, omega (arith, x, y, link_counts q (task_pred p a) e))
      by (name h k) x y = (h, omega (arith, x, y, k))

  arc_place : (q a : ℕ) → Binds p lines q a → pos q < pos a
  unfolding count_of
  arc_place q a b =
      let v = waits q a b in
      place_falls p.n (Waits net) q a v (timing_order p lines) [] (order_in_turn net (counts_for p lines) (counted p g ok lines w)) (all_named net (counts_for p lines) (counted p g ok lines w) order_full a v.0) refl

  arc_time : (q a : ℕ) → Binds p lines q a → E q ≤ S a
  arc_time q a (line h e) = ((timing_exact p g ok lines w).meets possible).lined q a h e
  arc_time q a (task h e) = omega (arith, ((timing_exact p g ok lines w).meets possible).tasked q a h e)
  arc_time q a (name h k) = ((timing_exact p g ok lines w).meets possible).followed q a h k

  known : (m i : ℕ) → i < length (line_of lines m) → get_or (line_of lines m) i 0 < p.n
  known m i h = w.known (get_or (line_of lines m) i 0) (stands_there w sixteen m i h)

  line_arc : (m i : ℕ) → suc i < length (line_of lines m) → Binds p lines (get_or (line_of lines m) i 0) (get_or (line_of lines m) (suc i) 0)
  line_arc m i h = line (known m (suc i) h) (link_is (get_or (line_of lines m) i 0) (line_pred lines (get_or (line_of lines m) (suc i) 0)) (neighbour w sixteen m i h))

  -- on a line, later ones start after earlier ones end
  line_time : (m i d : ℕ) → suc (i + d) < length (line_of lines m) → E (get_or (line_of lines m) i 0) ≤ S (get_or (line_of lines m) (suc (i + d)) 0)
  line_time m i zero h =
      let z : i + 0 ≡ i = omega arith in
      rw z (arc_time (get_or (line_of lines m) i 0) (get_or (line_of lines m) (suc i) 0) (line_arc m i (omega (arith, h))))
  line_time m i (suc d) h =
      let z : i + suc d ≡ suc (i + d) = omega arith in
      let earlier = line_time m i d (omega (arith, h)) in
      let next = arc_time (get_or (line_of lines m) (suc (i + d)) 0) (get_or (line_of lines m) (suc (suc (i + d))) 0) (line_arc m (suc (i + d)) (omega (arith, h))) in
      rw z (omega (arith, earlier, next))

  -- ---- one activity from its line to a position of another

  module _ {a r i q j : ℕ} (f : ReassignFits a r i q j lines) (here : a < p.n) (new : q < p.machines)
      (from : first_place (placing_of p lines) (line_of lines q) a ≤ j) (upto : j ≤ last_place (placing_of p lines) (line_of lines q) a) where
    abbrev to : List ℕ
    to = line_of lines q

    -- it joins right behind the one before, by the old order
    abbrev gap_at : ℕ → ℕ
    gap_at zero = 0
    gap_at (suc k) = pos (get_or to k 0) + 1

    abbrev rise : ℕ → ℕ
    rise = rank S E pos a (gap_at j)

    upright : (x : ℕ) → S x ≤ E x
    upright x = omega arith

    low : (x : ℕ) → pos x ≤ 200
    low x = omega (arith, place_most (timing_order p lines) x, order_full, ok.activities.1)

    few : (k : ℕ) → gap_at k ≤ 300
    few zero = omega arith
    few (suc k) = omega (arith, low (get_or to k 0))

    not_there : (k : ℕ) → k < length to → get_or to k 0 ≡ a → ⊥
    not_there k h e =
        f.other (sym (on_own w sixteen r i f.from) ∙ ap (machine_of lines) (f.named ∙ sym e) ∙ on_own w sixteen q k h)

    starts_early : (k : ℕ) → k < j → S (get_or to k 0) < E a
    starts_early k h =
        let t = ltb-true (S (get_or to k 0)) (end_at (placing_of p lines) a) (leading_pass (λ x. ltb (S x) (end_at (placing_of p lines) a)) to k (omega (arith, h, upto))) in
        omega (arith, t, end_is a here)

    ends_late : j < length to → S a < E (get_or to j 0)
    ends_late h =
        let k = first_place (placing_of p lines) to a in
        let in_line : k < length to = omega (arith, from, h) in
        let t = leb-false (end_at (placing_of p lines) (get_or to k 0)) (S a) (leading_stops (λ x. leb (end_at (placing_of p lines) x) (S a)) to in_line) in
        let late : S a < E (get_or to k 0) = omega (arith, t, end_is (get_or to k 0) (known q k in_line)) in
        either k j (λ e. subst (λ (x : ℕ). S a < E (get_or to x 0)) e late)
        (λ ne.
        let d = j - suc k in
        let z : suc (k + d) ≡ j = omega (arith, from, ne) in
        let after : E (get_or to k 0) ≤ S (get_or to j 0) = subst (λ (x : ℕ). E (get_or to k 0) ≤ S (get_or to x 0)) z (line_time q k d (omega (arith, z, h))) in
        omega (arith, late, after))

    old : (x y : ℕ) → Binds p lines x y → rise x < rise y
    old x y b = old_rises S E pos a (gap_at j) upright low (few j) x y (arc_time x y b) (arc_place x y b)

    adjacent : (m k : ℕ) → suc k < length (line_of lines m) → rise (get_or (line_of lines m) k 0) < rise (get_or (line_of lines m) (suc k) 0)
    adjacent m k h = old (get_or (line_of lines m) k 0) (get_or (line_of lines m) (suc k) 0) (line_arc m k h)

    gap_low : (k : ℕ) → k < length to → gap_at k ≤ pos (get_or to k 0)
    gap_low zero h = omega arith
    gap_low (suc k) h = omega (arith, arc_place (get_or to k 0) (get_or to (suc k) 0) (line_arc q k h))

    -- ---- neighbours on the line that it joins, and on the line that it leaves

    abbrev joined : List ℕ
    joined = insert_at to j a

    new_rises : (k : ℕ) → suc k < length joined → rise (get_or joined k 0) < rise (get_or joined (suc k) 0)
    new_rises k h =
        let many = length_insert to j a in
        either (suc k) j
        (λ e.
        let x : get_or joined k 0 ≡ get_or to k 0 = inserted_before to j a k (omega (arith, e)) f.to in
        let y : get_or joined (suc k) 0 ≡ a = ap (λ (z : ℕ). get_or joined z 0) e ∙ insert_at_lem to j a f.to in
        let in_line : k < length to = omega (arith, e, f.to) in
        rw (x, y)
        (joins_after S E pos a (gap_at j) upright low (few j) (get_or to k 0) (not_there k in_line) (starts_early k (omega (arith, e))) (omega (arith, ap gap_at e))))
        (λ ne.
        either k j
        (λ e.
        let x : get_or joined k 0 ≡ a = ap (λ (z : ℕ). get_or joined z 0) e ∙ insert_at_lem to j a f.to in
        let y : get_or joined (suc k) 0 ≡ get_or to j 0 = inserted_behind to j a k (omega (arith, e)) f.to ∙ ap (λ (z : ℕ). get_or to z 0) e in
        let in_line : j < length to = omega (arith, e, h, many) in
        rw (x, y) (joins_before S E pos a (gap_at j) upright low (few j) (get_or to j 0) (not_there j in_line) (ends_late in_line) (gap_low j in_line)))
        (λ nk.
        either (j - k) 0
        (λ z.
        let i' = k - 1 in
        let up : suc i' ≡ k = omega (arith, z, nk) in
        let x : get_or joined k 0 ≡ get_or to i' 0 = ap (λ (z : ℕ). get_or joined z 0) (sym up) ∙ inserted_behind to j a i' (omega (arith, z, nk, up)) f.to in
        let y : get_or joined (suc k) 0 ≡ get_or to (suc i') 0 = inserted_behind to j a k (omega (arith, z)) f.to ∙ ap (λ (z : ℕ). get_or to z 0) (sym up) in
        rw (x, y) (adjacent q i' (omega (arith, up, h, many))))
        (λ nz.
        let x : get_or joined k 0 ≡ get_or to k 0 = inserted_before to j a k (omega (arith, nz)) f.to in
        let y : get_or joined (suc k) 0 ≡ get_or to (suc k) 0 = inserted_before to j a (suc k) (omega (arith, nz, ne)) f.to in
        rw (x, y) (adjacent q k (omega (arith, nz, ne, f.to))))))

    abbrev left : List ℕ
    left = remove_at (line_of lines r) i

    old_rises_still : (k : ℕ) → suc k < length left → rise (get_or left k 0) < rise (get_or left (suc k) 0)
    old_rises_still k h =
        let l = line_of lines r in
        let many = length_remove l i f.from in
        either (i - k) 0
        (λ z. rw (removed_behind l i k (omega (arith, z)), removed_behind l i (suc k) (omega (arith, z))) (adjacent r (suc k) (omega (arith, h, many))))
        (λ nz.
        either (suc k) i
        (λ e.
        let x = adjacent r k (omega (arith, h, many)) in
        let y = adjacent r (suc k) (omega (arith, h, many)) in
        rw (removed_before l i k (omega (arith, nz)), removed_behind l i (suc k) (omega (arith, e))) (omega (arith, x, y)))
        (λ ne. rw (removed_before l i k (omega (arith, nz)), removed_before l i (suc k) (omega (arith, nz, ne))) (adjacent r k (omega (arith, h, many)))))

    -- ---- all arcs

    abbrev moved : Lines
    moved = applied (Reassign a r i q j) lines

    line_rises : (m k : ℕ) → suc k < length (line_of moved m) → rise (get_or (line_of moved m) k 0) < rise (get_or (line_of moved m) (suc k) 0)
    line_rises m k =
        either m q
        (λ e. subst (λ (l : List ℕ). suc k < length l → rise (get_or l k 0) < rise (get_or l (suc k) 0)) (sym (ap (line_of moved) e ∙ new_line lines sixteen f)) (new_rises k))
        (λ nq.
        either m r
        (λ e. subst (λ (l : List ℕ). suc k < length l → rise (get_or l k 0) < rise (get_or l (suc k) 0)) (sym (ap (line_of moved) e ∙ old_line lines sixteen f)) (old_rises_still k))
        (λ nr. subst (λ (l : List ℕ). suc k < length l → rise (get_or l k 0) < rise (get_or l (suc k) 0)) (sym (other_line lines sixteen f m nq nr)) (adjacent m k)))

    arc_rises : (x y : ℕ) → Binds p moved x y → rise x < rise y
    arc_rises x y (line h e) =
        let d = pred_next moved x y e in
        let n = d.1 in
        subst (λ (z : ℕ). rise z < rise y) n.first (subst (λ (z : ℕ). rise (get_or (line_of moved d.0) n.at 0) < rise z) n.second (line_rises d.0 n.at n.within))
    arc_rises x y (task h e) = old x y (task h e)
    arc_rises x y (name h k) = old x y (name h k)

    pub reassigned_possible : contradicts p moved ≡ false
    reassigned_possible =
        not_true_false (contradicts p moved)
        (λ e. rising-no_circle p.n (Binds p moved) rise arc_rises ((timing_exact p g ok moved (applied-well_formed lines sixteen w (Reassign a r i q j) f new)).circle.0 e))
