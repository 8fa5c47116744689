-- Why a walk back ends: in an order that has each activity after all that it waits for, a step back falls to an earlier place.
use Rattle.std.specs.Prelude.{Option, Some, ℕ}
use Prim.Native.Nat.{ℕ, ◌+◌, ◌≤◌, ◌<◌}
use mathlib.Core.Path.{◌≡◌, refl, sym, subst}
use mathlib.Core.Bool.{false}
use mathlib.Core.List.{List, [], ◌∷◌, ◌++◌}
use native.Mathlib.Omega.{arith}
use borrow.Author.Tests.{eq-eqb, ne_eqb, ltb-false}
use lib.ListN.{length}
use Rattle.graph.specs.Counting.{count_of}
use Rattle.graph.specs.Order.{InTurn}
use Rattle.graph.specs.Arcs.{Waits}
use Rattle.graph.specs.Links.{linked}
use Rattle.graph.proofs.CountingLaws.{either, hit-eq, hit-ne, count_of-append}
use Rattle.graph.proofs.OrderLaws.{turns_map}
use Rattle.graph.proofs.ShopTheorem.{graph}
use Rattle.graph.proofs.Theorem.{at_most_n, order_in_turn, all_named}
use Rattle.plan.specs.Problem.{Problem, Genes}
use Rattle.plan.specs.Accepted.{Accepted}
use Rattle.tables.specs.Tabled.{task_pred}
use Rattle.lines.specs.Lines.{Lines, line_pred, place_on, WellFormed}
use Rattle.timing.specs.Timing.{counts_for, timing_order, contradicts}
use Rattle.timing.specs.Exactly.{Binds, line, task, name}
use Rattle.timing.proofs.LinesShop.{shop, counted}
use Rattle.path.specs.Placing.{Placing, placed}
use Rattle.path.specs.Walking.{Falling}
use Rattle.path.proofs.BackLaws.{back_binds}

-- ---- places in an order

place_low : (l : List ℕ) (a : ℕ) → 0 < count_of a l → place_on l a < length l
unfolding place_on count_of
place_low [] a h = absurd (omega arith)
place_low (x ∷ l) a h =
    let deeper = place_low l a in
    either x a (λ e. rw (eq-eqb x a e) (omega arith)) (λ ne. rw (ne_eqb x a ne) (omega (arith, deeper (omega (arith, hit-ne x a ne)))))

-- What an activity waits for has the lower place.
module _ (n : ℕ) (R : ℕ → ℕ → Type 0) (q a : ℕ) (arc : R q a) where
  pub place_falls : (o d : List ℕ) → InTurn n R d o → 0 < count_of a o → count_of q d ≡ 0 → place_on o q < place_on o a
  unfolding place_on count_of InTurn
  place_falls [] d t h z = absurd (omega arith)
  place_falls (x ∷ o) d t h z =
      let deeper = place_falls o (x ∷ d) t.3 in
      either x a
      (λ e. absurd (omega (arith, z, t.2 q (subst (λ (y : ℕ). R q y) (sym e) arc))))
      (λ na.
      either x q
      (λ e. rw (eq-eqb x q e, ne_eqb x a na) (omega arith))
      (λ nq.
      rw (ne_eqb x q nq, ne_eqb x a na)
      (omega (arith, deeper (omega (arith, hit-ne x a na)) (omega (arith, z, hit-ne x q nq))))))

-- ---- the rank

-- The place in an order of all activities, each after those that bind it, is a rank by which a walk back falls.
pub in_turn_falls : (p : Problem) (lines : Lines) (s : Placing) → InTurn p.n (Binds p lines) [] s.order
    → ((a : ℕ) → a < p.n → 0 < count_of a s.order) → length s.order ≤ p.n → Falling p lines s
unfolding count_of
in_turn_falls p lines s turns all most =
    record {
      rank = place_on s.order;
      low = λ a h. omega (arith, place_low s.order a (all a h), most);
      falls = λ a q h e. place_falls p.n (Binds p lines) q a (back_binds p lines s a q h e) s.order [] turns (all a h) refl;
    }

link_counts : (q : ℕ) (l : Option ℕ) → l ≡ Some q → 0 < count_of q (linked l)
unfolding count_of
link_counts q l e = rw e (omega (arith, hit-eq q q refl))

-- Of lines that do not contradict, the timing order is such an order, whatever starts and ends stand beside it.
module _ (p : Problem) (g : Genes) (ok : Accepted p g) {R : ℕ} (lines : Lines) (w : WellFormed p.n R lines) where
  binds_waits : (q a : ℕ) → Binds p lines q a → Waits (graph (shop p g ok lines w)) q a
  binds_waits q a b =
      let x = count_of-append q (linked (line_pred lines a)) (linked (task_pred p a) ++ p.predecessors a) in
      let y = count_of-append q (linked (task_pred p a)) (p.predecessors a) in
      by b x y
    where
      by : Binds p lines q a
          → count_of q (linked (line_pred lines a) ++ (linked (task_pred p a) ++ p.predecessors a)) ≡ count_of q (linked (line_pred lines a)) + count_of q (linked (task_pred p a) ++ p.predecessors a)
          → count_of q (linked (task_pred p a) ++ p.predecessors a) ≡ count_of q (linked (task_pred p a)) + count_of q (p.predecessors a)
          → Waits (graph (shop p g ok lines w)) q a
      by (line h e) x y = (h, omega (arith, x, link_counts q (line_pred lines a) e))
      by (task h e) x y = (h, omega (arith, x, y, link_counts q (task_pred p a) e))
      by (name h k) x y = (h, omega (arith, x, y, k))

  pub timing_falls : contradicts p lines ≡ false → (starts ends : List ℕ) → Falling p lines (placed (timing_order p lines) starts ends)
  timing_falls full starts ends =
      let c = counted p g ok lines w in
      let most = at_most_n (graph (shop p g ok lines w)) (counts_for p lines) c in
      let whole : length (timing_order p lines) ≡ p.n = omega (arith, most, ltb-false (length (timing_order p lines)) p.n full) in
      in_turn_falls p lines (placed (timing_order p lines) starts ends)
      (turns_map p.n binds_waits [] (timing_order p lines) (order_in_turn (graph (shop p g ok lines w)) (counts_for p lines) c))
      (all_named (graph (shop p g ok lines w)) (counts_for p lines) c whole)
      most
