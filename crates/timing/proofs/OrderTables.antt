-- The tables and the line links hold the shop of a problem and its lines, so that the order over them is the timing order.
use Prim.Native.Nat.{ℕ, ◌+◌, ◌-◌, ◌^◌, ◌≤◌, ◌<◌}
use mathlib.Core.Path.{◌≡◌, refl, sym, ap, ap₂, ◌∙◌}
use mathlib.Core.List.{List, ◌++◌}
use native.Mathlib.Omega.{arith}
use lib.ListN.{length, get_or, take, drop, length-append, length-take, length-drop}
use lib.Seq.{ext_get_or, length-take-le}
use Rattle.graph.specs.Order.{order_of, order_from}
use Rattle.graph.specs.Run.{stack_of, SafeRun}
use Rattle.graph.specs.Links.{linked, link_of, part_of, succs_of, Shaped, Linked}
use Rattle.graph.proofs.Holding.{Holds, holds_linked, holds_order}
use Rattle.graph.proofs.LinkedLaws.{safe_now, order_now}
use Rattle.graph.proofs.ShopTheorem.{graph}
use Rattle.plan.specs.Problem.{Problem, Genes}
use Rattle.plan.specs.Accepted.{Accepted}
use Rattle.tables.specs.Regions.{waiting_at, waiting, named_at, named}
use Rattle.tables.specs.Tabled.{Tabled, task_pred, waits_of}
use Rattle.intake.proofs.BareShop.{each_at, length-each}
use Rattle.intake.proofs.CircleTables.{part_cell, part_long, few, by_task, length-nexts, length-waits}
use Rattle.lines.specs.Lines.{Lines, WellFormed, line_pred}
use Rattle.timing.specs.Timing.{frees, waits_for, counts_for, timing_order}
use Rattle.timing.specs.Ordering.{with_line, Neighbours, Stacked}
use Rattle.timing.proofs.CountLaws.{with_length, with_at}
use Rattle.timing.proofs.LinkCount.{link_length}
use Rattle.timing.proofs.LinesShop.{shop}

part_most : (at list : List ℕ) (a : ℕ) → length (part_of at list a) ≤ length list
part_most at list a =
    let k = length-take (get_or at (a + 1) 0 - get_or at a 0) (drop (get_or at a 0) list) in
    let d = length-drop (get_or at a 0) list in
    omega arith

module _ (p : Problem) (g : Genes) (ok : Accepted p g) {table : List ℕ} (t : Tabled p table) where
  abbrev pub waits : List ℕ
  waits = take p.n (drop 512 table)

  waits_at : (a : ℕ) → a < p.n → get_or waits a 0 ≡ length (linked (task_pred p a)) + length (p.predecessors a)
  waits_at a h = part_cell table 512 128 p.n a h (few p g ok t) ∙ t.waiting_for a h

  -- none waits for many
  pub waits_small : (a : ℕ) → a < length waits → get_or waits a 0 < 2 ^ 32
  waits_small a h =
      let k : a < p.n = omega (arith, length-waits p g ok t) in
      let e = waits_at a k in
      let l = link_length (task_pred p a) in
      let m = part_most (named_at table) (named table) a in
      let o = ap length (t.naming.parts a k) in
      let r = part_long table 769 256 (omega (arith, t.sized)) in
      omega arith

  module _ {R : ℕ} (lines : Lines) (w : WellFormed p.n R lines) {before after : List ℕ} (nb : Neighbours p.n lines before after) where
    abbrev counts : List ℕ
    counts = with_line waits before p.n

    count_at : (b : ℕ) → b < p.n → get_or counts b 0 ≡ length (waits_for p lines b)
    count_at b h =
        let e = with_at waits before p.n b h in
        let x = waits_at b h in
        let y = ap (λ l. length (linked l)) (nb.preds b h) in
        let u = length-append (linked (line_pred lines b)) (linked (task_pred p b) ++ p.predecessors b) in
        let v = length-append (linked (task_pred p b)) (p.predecessors b) in
        omega arith

    holds : Holds (graph (shop p g ok lines w)) after (take p.n (drop 128 table)) (waiting_at table) (waiting table) counts
    holds =
        record {
          shaped = record {
            lined = nb.length-after;
            tasked = length-nexts p g ok t;
            bounded = omega (arith, few p g ok t, part_long table 1025 129 (omega (arith, t.sized)));
            rising = t.named_by.rising;
            within = t.named_by.within p.n (omega arith);
          };
          frees = λ a h. ap₂ ◌++◌ (ap linked (nb.succs a h)) (ap₂ ◌++◌ (ap linked (by_task p g ok t a h)) (t.named_by.parts a h));
          sized = with_length waits before p.n;
          right = count_at;
        }

    same-counts : counts ≡ counts_for p lines
    same-counts =
        ext_get_or 0 counts (counts_for p lines) (with_length waits before p.n ∙ sym (length-each (λ a. length (waits_for p lines a)) p.n 0))
        (λ i h.
        let k : i < p.n = omega (arith, with_length waits before p.n) in
        let z : 0 + i ≡ i = omega arith in
        count_at i k ∙ sym (each_at (λ a. length (waits_for p lines a)) p.n 0 i k ∙ ap (λ (a : ℕ). length (waits_for p lines a)) z))

    order_is : order_of (succs_of after (take p.n (drop 128 table)) (waiting_at table) (waiting table)) p.n counts ≡ timing_order p lines
    order_is = holds_order holds ∙ ap (order_of (frees p lines) p.n) same-counts

    -- for the lists that the code has
    module _ {m k j i : ℕ} {held : List ℕ} (em : m ≡ p.n) (ek : k ≡ p.n) (ei : i ≡ p.n) (ej : j ≡ p.n)
        (ec : held ≡ with_line (take j (drop 512 table)) before i) where
      held_is : held ≡ counts
      held_is = ec ∙ rw (ej, ei)

      pub order_asked : Linked m after (take k (drop 128 table)) (waiting_at table) (waiting table) held
      order_asked = rw (em, ek, held_is) (holds_linked holds)

      pub order_answered : {o : List ℕ} → o ≡ order_of (succs_of after (take k (drop 128 table)) (waiting_at table) (waiting table)) m held → o ≡ timing_order p lines
      order_answered e = (rw (em, ek, held_is) at e) ∙ order_is

-- ---- the run from a filled stack

module _ {p : Problem} {lines : Lines} {after nexts at waiting counts stack : List ℕ} {top : ℕ} (st : Stacked p lines after nexts at waiting counts stack top) (m : ℕ) (sized : m ≡ p.n) where
  pub stacked_safe : SafeRun (length after) (succs_of after nexts at waiting) m counts (stack_of stack top) (length stack)
  stacked_safe =
      rw sized (safe_now st.linked st.free (length stack) st.roomy)

  pub whole_order : {o : List ℕ} → o ≡ order_from (succs_of after nexts at waiting) m counts (stack_of stack top) → o ≡ timing_order p lines
  whole_order e = e ∙ rw sized (order_now st.linked st.free) ∙ st.ordered

  pub on_order : {k a : ℕ} → (get_or (order_from (succs_of after nexts at waiting) m counts (stack_of stack top)) k 0 ≡ a) × (k < length (order_from (succs_of after nexts at waiting) m counts (stack_of stack top)))
      → (get_or (timing_order p lines) k 0 ≡ a) × (k < length (timing_order p lines))
  on_order e = rw (whole_order refl) at e

-- An order that has a place for each takes all of them, or fewer.
pub whole_taken : (p : Problem) (lines : Lines) (order : List ℕ) (r : ℕ) → take r order ≡ timing_order p lines → length order ≡ p.n → p.n ≤ r → r ≤ p.n → length (timing_order p lines) ≡ p.n
whole_taken p lines order r e sized h k = ap length (sym e) ∙ length-take-le r order (omega arith) ∙ omega arith
