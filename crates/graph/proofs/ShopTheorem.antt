-- Demand 3 of a shop: the order is short exactly when the arcs lead from some activity back to itself; otherwise the starts meet every
-- bound and are the least whole numbers that do. Assumes nothing.
use Rattle.std.specs.Prelude.{None, Option, Some, ℕ}
use mathlib.Core.Path.{◌≡◌, refl, sym, ap}
use mathlib.Core.List.{List, [], ◌∷◌, ◌++◌}
use mathlib.Core.Logic.{◌↔◌}
use Prim.Native.Nat.{ℕ, ◌+◌, ◌≤◌, ◌<◌, max}
use native.Mathlib.Nat.{le_of_eq, le_trans}
use native.Mathlib.Omega.{arith}
use lib.ListN.{length}
use Rattle.graph.specs.Counting.{count_of}
use Rattle.graph.specs.Arcs.{Graph, Waits, Circle}
use Rattle.graph.specs.Starts.{Monotone, held_rule}
use Rattle.graph.specs.Exact.{Counted, graph_order, Exact}
use Rattle.graph.specs.Links.{linked}
use Rattle.graph.specs.Shop.{greatest, Shop, outs, ins, shop_rule, Arc, line, task, name, Bounds, shop_start, ShopExact}
use Rattle.graph.proofs.CountingLaws.{count_of-append, hit-eq, hit-ne, either, below_append}
use Rattle.graph.proofs.CircleLaws.{circle_map}
use Rattle.graph.proofs.Theorem.{short_is_circle, circle_is_short, order_and_starts_exact, held_mono}

linked_is : (p : ℕ) (o : Option ℕ) → 0 < count_of p (linked o) → o ≡ Some p
unfolding count_of
linked_is p None h = absurd (omega arith)
linked_is p (Some q) h = either q p (λ e. ap Some e) (λ ne. absurd (omega (arith, hit-ne q p ne)))

linked-has : (p : ℕ) (o : Option ℕ) → o ≡ Some p → 0 < count_of p (linked o)
unfolding count_of
linked-has p o e = rw e (omega (arith, hit-eq p p refl))

-- ---- the greatest of some ends

pub greatest-first : (f : ℕ → ℕ) (ps : List ℕ) (m : ℕ) → m ≤ greatest f ps m
unfolding greatest
greatest-first f [] m = omega arith
greatest-first f (p ∷ ps) m = omega (arith, greatest-first f ps (max m (f p)))

pub greatest-each : (f : ℕ → ℕ) (ps : List ℕ) (m p : ℕ) → 0 < count_of p ps → f p ≤ greatest f ps m
unfolding greatest count_of
greatest-each f [] m p h = absurd (omega arith)
greatest-each f (q ∷ ps) m p h =
    either q p (λ e. omega (arith, ap f e, greatest-first f ps (max m (f q)))) (λ ne. greatest-each f ps (max m (f q)) p (omega (arith, hit-ne q p ne)))

pub greatest_mono : (f g : ℕ → ℕ) (ps : List ℕ) (m k : ℕ) → m ≤ k → ((p : ℕ) → 0 < count_of p ps → f p ≤ g p) → greatest f ps m ≤ greatest g ps k
unfolding greatest count_of
greatest_mono f g [] m k h w = h
greatest_mono f g (q ∷ ps) m k h w =
    greatest_mono f g ps (max m (f q)) (max k (g q)) (omega (arith, w q (omega (arith, hit-eq q q refl)))) (λ p l. w p (omega arith))

pub greatest-least : (f : ℕ → ℕ) (ps : List ℕ) (m k : ℕ) → m ≤ k → ((p : ℕ) → 0 < count_of p ps → f p ≤ k) → greatest f ps m ≤ k
unfolding greatest count_of
greatest-least f [] m k h w = h
greatest-least f (q ∷ ps) m k h w =
    greatest-least f ps (max m (f q)) k (omega (arith, w q (omega (arith, hit-eq q q refl)))) (λ p l. w p (omega arith))

-- ---- a shop is a graph

module _ (s : Shop) where
  abbrev pub graph : Graph
  graph =
      record {
        n = s.n;
        succs = outs s;
        preds = ins s;
        succs_below = λ a h. let b = s.outs_below a h in below_append s.n _ _ b.0 (below_append s.n _ _ b.1 b.2);
        preds_below = λ a h. let b = s.ins_below a h in below_append s.n _ _ b.0 (below_append s.n _ _ b.1 b.2);
        dual = λ p a h k.
            omega (
              arith,
              count_of-append a (linked (s.line_succ p)) (linked (s.task_succ p) ++ s.waiting p),
              count_of-append a (linked (s.task_succ p)) (s.waiting p),
              count_of-append p (linked (s.line_pred a)) (linked (s.task_pred a) ++ s.named a),
              count_of-append p (linked (s.task_pred a)) (s.named a),
              s.line_dual p a h k,
              s.task_dual p a h k,
              s.named_dual p a h k,
            );
      }

  -- what counts in the list of predecessors counts in one of its three parts
  parts : (p a : ℕ) → count_of p (ins s a) ≡ count_of p (linked (s.line_pred a)) + (count_of p (linked (s.task_pred a)) + count_of p (s.named a))
  parts p a =
      omega (arith, count_of-append p (linked (s.line_pred a)) (linked (s.task_pred a) ++ s.named a), count_of-append p (linked (s.task_pred a)) (s.named a))

  waits_arc : (p a : ℕ) → Waits graph p a → Arc s p a
  waits_arc p a w =
      either (count_of p (linked (s.line_pred a))) 0
      (λ z. either (count_of p (linked (s.task_pred a))) 0 (λ y. name w.0 (omega (arith, w.1, parts p a))) (λ ny. task w.0 (linked_is p (s.task_pred a) (omega arith))))
      (λ nz. line w.0 (linked_is p (s.line_pred a) (omega arith)))

  arc_waits : (p a : ℕ) → Arc s p a → Waits graph p a
  arc_waits p a (line h e) = (h, omega (arith, parts p a, linked-has p (s.line_pred a) e))
  arc_waits p a (task h e) = (h, omega (arith, parts p a, linked-has p (s.task_pred a) e))
  arc_waits p a (name h k) = (h, omega (arith, parts p a, k))

  pub shop_mono : Monotone graph (shop_rule s)
  shop_mono a f g h w =
      greatest_mono f g (s.named a) _ _
      (greatest_mono (λ p. f p + s.transport p a) (λ p. g p + s.transport p a) (linked (s.task_pred a)) _ _
      (greatest_mono f g (linked (s.line_pred a)) (s.earliest a) (s.earliest a) (omega arith) (λ p k. w p (h, omega (arith, parts p a))))
      (λ p k. omega (arith, w p (h, omega (arith, parts p a)))))
      (λ p k. w p (h, omega (arith, parts p a)))

  module _ (counts : List ℕ) (counted : Counted graph counts) where
    -- demand 3, first half
    pub contradicts : (length (graph_order graph counts) < s.n) ↔ Circle s.n (Arc s)
    contradicts =
        (λ h. circle_map waits_arc (short_is_circle graph counts counted h), λ c. circle_is_short graph counts counted (circle_map arc_waits c))

    -- the theorem with some rows held (L12): `held` gives the start of each row that is
    pub held_exact : (held : ℕ → Option ℕ) (old : List ℕ) → s.n ≤ length old → Exact graph counts (held_rule held (shop_rule s)) s.span old
    held_exact held old room =
        order_and_starts_exact graph counts counted (held_rule held (shop_rule s)) s.span (held_mono graph held (shop_rule s) shop_mono) old room

    module _ (old : List ℕ) (room : s.n ≤ length old) (acyclic : Circle s.n (Arc s) → ⊥) where
      exact : Exact graph counts (shop_rule s) s.span old
      exact = order_and_starts_exact graph counts counted (shop_rule s) s.span shop_mono old room

      no_wait : Circle s.n (Waits graph) → ⊥
      no_wait c = acyclic (circle_map waits_arc c)

      -- each start is what the rule says
      pub starts_are : (a : ℕ) → a < s.n → shop_start s counts old a ≡ shop_rule s a (λ p. shop_start s counts old p + s.span p)
      starts_are = exact.meets no_wait

      -- demand 3, second half: they meet every bound
      pub meets : Bounds s (shop_start s counts old)
      meets =
          record {
            released = λ a h. le_trans (in_release a) (le_of_eq (sym (starts_are a h)));
            lined = λ p a h e. le_trans (in_line p a e) (le_of_eq (sym (starts_are a h)));
            tasked = λ p a h e. le_trans (in_task p a e) (le_of_eq (sym (starts_are a h)));
            followed = λ p a h k. le_trans (greatest-each ends (s.named a) _ p k) (le_of_eq (sym (starts_are a h)));
          }
        where
          ends : ℕ → ℕ
          ends p = shop_start s counts old p + s.span p

          in_task : (p a : ℕ) → s.task_pred a ≡ Some p → ends p + s.transport p a ≤ shop_rule s a ends
          in_task p a e =
              le_trans (greatest-each (λ q. ends q + s.transport q a) (linked (s.task_pred a)) _ p (linked-has p (s.task_pred a) e)) (greatest-first ends (s.named a) _)

          over : (a m : ℕ) → m ≤ greatest ends (s.named a) (greatest (λ q. ends q + s.transport q a) (linked (s.task_pred a)) m)
          over a m = le_trans (greatest-first (λ q. ends q + s.transport q a) (linked (s.task_pred a)) m) (greatest-first ends (s.named a) _)

          in_line : (p a : ℕ) → s.line_pred a ≡ Some p → ends p ≤ shop_rule s a ends
          in_line p a e = le_trans (greatest-each ends (linked (s.line_pred a)) (s.earliest a) p (linked-has p (s.line_pred a) e)) (over a _)

          in_release : (a : ℕ) → s.earliest a ≤ shop_rule s a ends
          in_release a = le_trans (greatest-first ends (linked (s.line_pred a)) (s.earliest a)) (over a _)

      -- .. and none that do are earlier anywhere
      pub least : (S : ℕ → ℕ) → Bounds s S → (a : ℕ) → a < s.n → shop_start s counts old a ≤ S a
      least S b =
          exact.least no_wait S
          (λ a h. greatest-least _ (s.named a) _ (S a)
          (greatest-least _ (linked (s.task_pred a)) _ (S a)
          (greatest-least _ (linked (s.line_pred a)) (s.earliest a) (S a) (b.released a h) (λ p k. b.lined p a h (linked_is p (s.line_pred a) k)))
          (λ p k. b.tasked p a h (linked_is p (s.task_pred a) k)))
          (λ p k. b.followed p a h k))

    pub shop_exact : (old : List ℕ) → s.n ≤ length old → ShopExact s counts old
    shop_exact old room = record { contradicts = contradicts; meets = meets old room; least = least old room }
