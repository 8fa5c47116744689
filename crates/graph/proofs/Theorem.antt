-- Demand 3 over an abstract graph: what the order and the starts are to whoever has arcs and a rule, and no word of stacks. Assumes nothing.
use Rattle.std.specs.Prelude.{None, Option, Some}
use mathlib.Core.Path.{◌≡◌, ◌∙◌}
use mathlib.Core.List.{List, []}
use Prim.Native.Nat.{ℕ, ◌≤◌, ◌<◌}
use native.Mathlib.Omega.{arith}
use lib.ListN.{length}
use Rattle.graph.specs.Counting.{count_of, Below}
use Rattle.graph.specs.Arcs.{Graph, Waits, Circle, arcs_into}
use Rattle.graph.specs.Order.{order_of, stack_free, InTurn}
use Rattle.graph.specs.Starts.{Rule, Monotone, held_rule}
use Rattle.graph.specs.Exact.{Counted, graph_order, Exact}
use Rattle.graph.proofs.CountingLaws.{sum_to-ap, count_all, either, below_of}
use Rattle.graph.proofs.CircleLaws.{circle_map}
use Rattle.graph.proofs.OrderLaws.{Frees, Ordered, start_inv, ordered, all_there, short_circle, at_most, no_circle, turns_below, turns_map, named-once}
use Rattle.graph.proofs.StartsLaws.{timed_meets, timed-least}

-- an activity waits for as many arcs as lead into it
pub waits_for_lem : (g : Graph) (b : ℕ) → b < g.n → length (g.preds b) ≡ arcs_into g.n g.succs b
waits_for_lem g b h =
    omega (arith, count_all g.n (g.preds b) (g.preds_below b h), sum_to-ap g.n (λ a. count_of b (g.succs a)) (λ a. count_of a (g.preds b)) (λ a k. g.dual a b k h))

frees-waits : (g : Graph) (p a : ℕ) → Frees g.n g.succs p a → Waits g p a
frees-waits g p a r =
    let h = below_of g.n a (g.succs p) (g.succs_below p r.0) r.1 in
    (h, omega (arith, r.1, g.dual p a r.0 h))

waits-frees : (g : Graph) (p a : ℕ) → Waits g p a → Frees g.n g.succs p a
waits-frees g p a w =
    let h = below_of g.n p (g.preds a) (g.preds_below a w.0) w.1 in
    (h, omega (arith, w.1, g.dual p a h w.0))

module _ (g : Graph) (counts : List ℕ) (counted : Counted g counts) where
  found : Ordered g.n g.succs [] (graph_order g counts)
  unfolding order_of
  found =
      ordered g.n g.succs g.succs_below g.n [] counts (stack_free counts g.n 0 []) (omega arith)
      (start_inv g.n g.succs counts counted.long (λ b h. counted.right b h ∙ waits_for_lem g b h))

  pub at_most_n : length (graph_order g counts) ≤ g.n
  at_most_n = at_most g.n g.succs (graph_order g counts) found

  pub order_below : Below g.n (graph_order g counts)
  order_below = turns_below g.n (Frees g.n g.succs) [] (graph_order g counts) found.turns

  -- each activity of the order comes once, after all that it waits for
  pub order_in_turn : InTurn g.n (Waits g) [] (graph_order g counts)
  order_in_turn = turns_map g.n (waits-frees g) [] (graph_order g counts) found.turns

  pub order_once : (a : ℕ) → a < g.n → count_of a (graph_order g counts) ≤ 1
  order_once = named-once g.n g.succs (graph_order g counts) found

  -- the order is short exactly when the arcs close a circle
  pub short_is_circle : length (graph_order g counts) < g.n → Circle g.n (Waits g)
  short_is_circle h = circle_map (frees-waits g) (short_circle g.n g.succs (graph_order g counts) found h)

  pub circle_is_short : Circle g.n (Waits g) → length (graph_order g counts) < g.n
  circle_is_short c =
      either (length (graph_order g counts)) g.n
      (λ e. absurd (no_circle g.n (Frees g.n g.succs) (graph_order g counts) found.turns (all_there g.n g.succs (graph_order g counts) found e) (circle_map (waits-frees g) c)))
      (λ ne. omega (arith, at_most_n))

  -- an order of all is one without a circle
  pub full_no_circle : length (graph_order g counts) ≡ g.n → Circle g.n (Waits g) → ⊥
  full_no_circle e c = omega (arith, circle_is_short c)

  pub no_circle_full : (Circle g.n (Waits g) → ⊥) → length (graph_order g counts) ≡ g.n
  no_circle_full h = either (length (graph_order g counts)) g.n (λ e. e) (λ ne. absurd (h (short_is_circle (omega (arith, at_most_n)))))

  -- where no circle is, each activity is in the order
  pub all_named : length (graph_order g counts) ≡ g.n → (a : ℕ) → a < g.n → 0 < count_of a (graph_order g counts)
  all_named = all_there g.n g.succs (graph_order g counts) found

  -- demand 3, for any rule that rises with the ends of those waited for
  pub order_and_starts_exact : (rule : Rule) (span : ℕ → ℕ) → Monotone g rule → (old : List ℕ) → g.n ≤ length old → Exact g counts rule span old
  order_and_starts_exact rule span mono old room =
      record {
        contradicts = (short_is_circle, circle_is_short);
        meets = λ no.
            timed_meets g.n (Frees g.n g.succs) rule span frees_mono (graph_order g counts) old room found.turns (all_named (no_circle_full no));
        least = λ no.
            timed-least g.n (Frees g.n g.succs) rule span frees_mono (graph_order g counts) old room found.turns (all_named (no_circle_full no));
      }
    where
      frees_mono : (a : ℕ) (f h : ℕ → ℕ) → a < g.n → ((p : ℕ) → Frees g.n g.succs p a → f p ≤ h p) → rule a f ≤ rule a h
      frees_mono a f h l k = mono a f h l (λ p w. k p (waits-frees g p a w))

-- a held row (L12) is one more monotone rule: it looks at nothing, so it rises with everything
pub held_mono : (g : Graph) (held : ℕ → Option ℕ) (rule : Rule) → Monotone g rule → Monotone g (held_rule held rule)
held_mono g held rule m a f h l k = go (held a)
  where
    go : (o : Option ℕ) → elim o as (λ x. ℕ) [ None ↦ rule a f | Some s ↦ s ] ≤ elim o as (λ x. ℕ) [ None ↦ rule a h | Some s ↦ s ]
    go None = m a f h l k
    go (Some s) = omega arith
