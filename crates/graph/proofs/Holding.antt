-- For callers of `order_of`: arrays that hold a graph. From that come what `order_of` requires, and what its answer says of the graph's
-- arcs. Assumes nothing.
use mathlib.Core.Path.{◌≡◌, refl, sym, ap, ap₂, ◌∙◌, subst}
use mathlib.Core.Bool.{Bool, true, false}
use mathlib.Core.List.{List, [], ◌∷◌, ◌++◌}
use mathlib.Core.Logic.{◌↔◌}
use Prim.Native.Nat.{ℕ, zero, suc, ◌+◌, ◌-◌, ◌≤◌, ◌<◌}
use native.Mathlib.Omega.{arith}
use lib.ListN.{length, get_or, take}
use lib.Seq.{take_all, length-take-le}
use lib.Dec.{eqb}
use Rattle.graph.specs.Counting.{count_of, sum_to, Below}
use Rattle.graph.specs.Arcs.{Graph, Waits, Circle, arcs_into}
use Rattle.graph.specs.Order.{State, free, free_all, push_if, order_from, stack_free, order_of}
use Rattle.graph.specs.Exact.{Counted, graph_order}
use Rattle.graph.specs.Links.{linked, link_of, part_of, succs_of, Shaped, Linked}
use Rattle.graph.specs.Tally.{Counts}
use Rattle.graph.specs.Filing.{naming, Filed}
use Rattle.graph.specs.Shop.{Shop, Arc}
use Rattle.graph.proofs.CountingLaws.{count_of-append, sum_to-ap, sum_to-add, count_all}
use Rattle.graph.proofs.NamingLaws.{naming_below, naming_dual, naming-length}
use Rattle.graph.proofs.OrderLaws.{stack_below}
use Rattle.graph.proofs.Theorem.{waits_for_lem, short_is_circle, circle_is_short}
use Rattle.graph.proofs.ShopTheorem.{graph, contradicts}

-- the arrays have a shape, free whom the graph frees in the same order, and count for whom it waits
pub record Holds (g : Graph) (line task at waiting counts : List ℕ) : Type 0 where
  pub shaped : Shaped g.n line task at waiting
  pub frees : (a : ℕ) → a < g.n → succs_of line task at waiting a ≡ g.succs a
  pub sized : length counts ≡ g.n
  pub right : (b : ℕ) → b < g.n → get_or counts b 0 ≡ length (g.preds b)

-- ---- successors that agree give one order

below_right : (n : ℕ) (xs ys : List ℕ) → Below n (xs ++ ys) → Below n ys
unfolding Below
below_right n [] ys h = h
below_right n (x ∷ xs) ys h = below_right n xs ys h.1

free_below : (n b : ℕ) (st : List ℕ) (t : Bool) → b < n → Below n st → Below n (push_if t b st)
unfolding Below
free_below n b st true h k = (h, k)
free_below n b st false h k = k

free_all_below : (n : ℕ) (bs : List ℕ) (s : State) → Below n bs → Below n s.stack → Below n (free_all bs s).stack
unfolding free_all Below
free_all_below n [] s h k = k
free_all_below n (b ∷ bs) s h k = free_all_below n bs (free b s) h.1 (free_below n b s.stack (eqb (get_or s.counts b 0 - 1) 0) h.0 k)

module _ (n : ℕ) (f g : ℕ → List ℕ) (same : (a : ℕ) → a < n → f a ≡ g a) (below : (a : ℕ) → a < n → Below n (g a)) where
  from_agrees : (most : ℕ) (counts st : List ℕ) → Below n st → order_from f most counts st ≡ order_from g most counts st
  unfolding order_from Below
  from_agrees zero counts st h = refl
  from_agrees (suc most) counts [] h = refl
  from_agrees (suc most) counts (a ∷ st) h =
      let s : State = record { counts = counts; stack = st } in
      ap (λ (bs : List ℕ). a ∷ order_from f most (free_all bs s).counts (free_all bs s).stack) (same a h.0)
      ∙ ap (λ (o : List ℕ). a ∷ o)
      (from_agrees most (free_all (g a) s).counts (free_all (g a) s).stack (free_all_below n (g a) s (below a h.0) h.1))

  pub order_agrees : (counts : List ℕ) → order_of f n counts ≡ order_of g n counts
  unfolding order_of Below
  order_agrees counts = from_agrees n counts (stack_free counts n 0 []) (stack_below n counts n 0 [] (omega arith) tt)

-- ---- what `order_of` requires, and what its answer says

-- what meets `order_of` holds any graph that frees the same, so that no caller counts twice
pub linked_holds : (g : Graph) {line task at waiting counts : List ℕ} → Linked g.n line task at waiting counts
    → ((a : ℕ) → a < g.n → succs_of line task at waiting a ≡ g.succs a) → Holds g line task at waiting counts
linked_holds g {line} {task} {at} {waiting} l frees =
    record {
      shaped = l.shaped;
      frees = frees;
      sized = l.counted;
      right = λ b k.
          l.right b k ∙ sum_to-ap g.n (λ a. count_of b (succs_of line task at waiting a)) (λ a. count_of b (g.succs a)) (λ a h. ap (count_of b) (frees a h))
          ∙ sym (waits_for_lem g b k);
    }

module _ {g : Graph} {line task at waiting counts : List ℕ} (h : Holds g line task at waiting counts) where
  pub holds_counted : Counted g counts
  holds_counted = record { long = omega (arith, h.sized); right = h.right }

  pub holds_linked : Linked g.n line task at waiting counts
  holds_linked =
      record {
        shaped = h.shaped;
        known = λ a k.
            below_right g.n (linked (link_of task a)) (part_of at waiting a)
            (below_right g.n (linked (link_of line a)) (linked (link_of task a) ++ part_of at waiting a) (subst (Below g.n) (sym (h.frees a k)) (g.succs_below a k)));
        counted = h.sized;
        right = λ b k.
            h.right b k ∙ waits_for_lem g b k
            ∙ sum_to-ap g.n (λ a. count_of b (g.succs a)) (λ a. count_of b (succs_of line task at waiting a)) (λ a l. ap (count_of b) (sym (h.frees a l)));
      }

  pub holds_order : order_of (succs_of line task at waiting) g.n counts ≡ graph_order g counts
  holds_order = order_agrees g.n (succs_of line task at waiting) g.succs h.frees g.succs_below counts

  module _ (r : ℕ) (order : List ℕ) (e : take r order ≡ order_of (succs_of line task at waiting) g.n counts) (fits : r ≤ length order) where
    -- the answer is the order's length
    pub answer-length : length (graph_order g counts) ≡ r
    answer-length = ap length (sym holds_order) ∙ ap length (sym e) ∙ length-take-le r order fits

    -- it is short exactly when the arcs close a circle
    pub answer-contradicts : (r < g.n) ↔ Circle g.n (Waits g)
    answer-contradicts =
        (λ k. short_is_circle g counts holds_counted (omega (arith, answer-length)), λ c. omega (arith, answer-length, circle_is_short g counts holds_counted c))

    -- where it is not short, the array is the order
    pub answer_order : length order ≤ r → order ≡ graph_order g counts
    answer_order k = sym (take_all r order k) ∙ e ∙ holds_order

-- ---- links and pairs, as counted and filed, are all that `order_of` requires

pub filed_linked : (n : ℕ) {line task acts preds at waiting counts : List ℕ} → Shaped n line task at waiting → length preds ≡ length acts → Below n acts → Below n preds
    → Filed acts preds at waiting → length counts ≡ n → Counts line task acts counts → Linked n line task at waiting counts
filed_linked n {line} {task} {acts} {preds} {at} {waiting} {counts} s even ha hp f sized c =
    record {
      shaped = s;
      known = λ a h. subst (Below n) (sym (f.parts a (omega (arith, s.bounded)))) (naming_below n a acts preds ha);
      counted = sized;
      right = λ b h. c.right b ∙ sym (total b);
    }
  where
    by_line : ℕ → ℕ → ℕ
    by_line b a = count_of b (linked (link_of line a))

    by_task : ℕ → ℕ → ℕ
    by_task b a = count_of b (linked (link_of task a))

    by_name : ℕ → ℕ → ℕ
    by_name b a = count_of b (naming a acts preds)

    one : (b a : ℕ) → a < n → count_of b (succs_of line task at waiting a) ≡ by_line b a + (by_task b a + by_name b a)
    one b a h =
        omega (
          arith,
          count_of-append b (linked (link_of line a)) (linked (link_of task a) ++ part_of at waiting a),
          count_of-append b (linked (link_of task a)) (part_of at waiting a),
          ap (count_of b) (f.parts a (omega (arith, s.bounded))),
        )

    namings : (b : ℕ) → sum_to n (by_name b) ≡ count_of b acts
    namings b =
        sum_to-ap n (by_name b) (λ a. count_of a (naming b preds acts)) (λ a h. naming_dual a b acts preds)
        ∙ count_all n (naming b preds acts) (naming_below n b preds acts hp) ∙ naming-length b preds acts even

    total : (b : ℕ) → arcs_into n (succs_of line task at waiting) b
        ≡ arcs_into (length line) (λ a. linked (link_of line a)) b + (arcs_into (length task) (λ a. linked (link_of task a)) b + count_of b acts)
    total b =
        sum_to-ap n (λ a. count_of b (succs_of line task at waiting a)) (λ a. by_line b a + (by_task b a + by_name b a)) (one b)
        ∙ omega (
          arith,
          sum_to-add n (by_line b) (λ a. by_task b a + by_name b a),
          sum_to-add n (by_task b) (by_name b),
          namings b,
          ap (λ k. sum_to k (by_line b)) s.lined,
          ap (λ k. sum_to k (by_task b)) s.tasked,
        )

-- ---- arrays that hold a shop, with those that name each as they were filed

pub filed_shaped : (n : ℕ) {line task acts preds at waiting : List ℕ} → length line ≡ n → length task ≡ n → n < length at → Filed acts preds at waiting
    → Shaped n line task at waiting
filed_shaped n by_line by_task long f =
    record { lined = by_line; tasked = by_task; bounded = long; rising = λ a h. f.rising a (omega arith); within = f.within n long }

module _ (s : Shop) {line task at waiting counts : List ℕ} (l : Linked s.n line task at waiting counts)
    (by_line : (a : ℕ) → a < s.n → link_of line a ≡ s.line_succ a) (by_task : (a : ℕ) → a < s.n → link_of task a ≡ s.task_succ a)
    (by_name : (a : ℕ) → a < s.n → part_of at waiting a ≡ s.waiting a) where
  pub shop_holds : Holds (graph s) line task at waiting counts
  shop_holds = linked_holds (graph s) l (λ a k. ap₂ ◌++◌ (ap linked (by_line a k)) (ap₂ ◌++◌ (ap linked (by_task a k)) (by_name a k)))

  -- demand 3 of the answer: it is short exactly when the shop's arcs lead from some activity back to itself
  pub shop_answer : (r : ℕ) (order : List ℕ) → take r order ≡ order_of (succs_of line task at waiting) s.n counts → r ≤ length order → (r < s.n) ↔ Circle s.n (Arc s)
  shop_answer r order e fits =
      let c = contradicts s counts (holds_counted shop_holds) in
      let k = answer-length shop_holds r order e fits in
      (λ h. c.0 (omega arith), λ q. let h = c.1 q in omega arith)
