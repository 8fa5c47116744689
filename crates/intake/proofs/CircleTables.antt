-- The tables hold the shop without lines, so that the order over them answers number 4.
use Rattle.std.specs.Prelude.{None}
use Prim.Native.Nat.{ℕ, ◌+◌, ◌≤◌, ◌<◌}
use mathlib.Core.Path.{◌≡◌, refl, sym, ap, ap₂, ◌∙◌}
use mathlib.Core.Bool.{Bool, true, false, cond}
use mathlib.Core.List.{List, ◌++◌}
use native.Mathlib.Omega.{arith}
use lib.Dec.{ltb, eqb}
use lib.ListN.{length, get_or, take, drop, replicate, length-drop, length-replicate, get_or-replicate}
use lib.Seq.{get_or-take, length-take-le, ext_get_or}
use borrow.Author.Tests.{lt-ltb, le-ltb}
use Rattle.graph.specs.Links.{linked, link_of, succs_of, Shaped, Linked, to_if}
use Rattle.graph.specs.Order.{order_of}
use Rattle.graph.specs.Exact.{graph_order}
use Rattle.graph.proofs.Holding.{Holds, holds_linked, answer-length}
use Rattle.graph.proofs.ShopTheorem.{graph}
use Rattle.plan.specs.Problem.{Problem, Genes}
use Rattle.plan.specs.Accepted.{Accepted}
use Rattle.tables.specs.Regions.{waiting_at, waiting}
use Rattle.tables.specs.Tabled.{Tabled, task_succ, is_next, next_of, waits_of}
use Rattle.intake.specs.Circle.{each, closes_circle}
use Rattle.intake.proofs.BareShop.{bare, waits-ins, each_at, length-each, next_within}

-- A cell of a part of a region.
pub part_cell : (table : List ℕ) (base size n a : ℕ) → a < n → n ≤ size → get_or (take n (drop base table)) a 0 ≡ get_or (take size (drop base table)) a 0
part_cell table base size n a h g = get_or-take n (drop base table) a 0 h ∙ sym (get_or-take size (drop base table) a 0 (omega arith))

pub part_long : (table : List ℕ) (base n : ℕ) → base + n ≤ length table → length (take n (drop base table)) ≡ n
part_long table base n h = length-take-le n (drop base table) (omega (arith, length-drop base table))

module _ (p : Problem) (g : Genes) (ok : Accepted p g) {table : List ℕ} (t : Tabled p table) where
  abbrev none : List ℕ
  none = take p.n (replicate 128 p.n)

  abbrev pub nexts : List ℕ
  nexts = take p.n (drop 128 table)

  abbrev pub waits : List ℕ
  waits = take p.n (drop 512 table)

  pub few : p.n ≤ 128
  few = ok.activities.1

  length_none : length none ≡ p.n
  length_none = length-take-le p.n (replicate 128 p.n) (omega (arith, few, length-replicate 128 p.n))

  pub length-nexts : length nexts ≡ p.n
  length-nexts = part_long table 128 p.n (omega (arith, few, t.sized))

  pub length-waits : length waits ≡ p.n
  length-waits = part_long table 512 p.n (omega (arith, few, t.sized))

  -- no line links, and the task links
  no_line : (a : ℕ) → a < p.n → link_of none a ≡ None
  no_line a h =
      let e : get_or none a 0 ≡ p.n = get_or-take p.n (replicate 128 p.n) a 0 h ∙ get_or-replicate 128 a p.n 0 (omega (arith, few)) in
      rw (e, length_none, le-ltb p.n p.n (omega arith))

  pub by_task : (a : ℕ) → a < p.n → link_of nexts a ≡ task_succ p a
  by_task a h =
      let e : get_or nexts a 0 ≡ next_of p a = part_cell table 128 128 p.n a h few ∙ t.followed a h in
      rw (e, length-nexts) (go (is_next p a) refl)
    where
      go : (b : Bool) → is_next p a ≡ b → to_if (ltb (cond b (a + 1) p.n) p.n) (cond b (a + 1) p.n) ≡ to_if b (a + 1)
      go true q = rw (lt-ltb (a + 1) p.n (next_within p.n (a + 1) (eqb (p.task_of (a + 1)) (p.task_of a)) q))
      go false q = rw (le-ltb p.n p.n (omega arith))

  shaped : Shaped p.n none nexts (waiting_at table) (waiting table)
  shaped =
      record {
        lined = length_none;
        tasked = length-nexts;
        bounded = omega (arith, few, part_long table 1025 129 (omega (arith, t.sized)));
        rising = t.named_by.rising;
        within = t.named_by.within p.n (omega arith);
      }

  pub circle_holds : Holds (graph (bare p g ok)) none nexts (waiting_at table) (waiting table) waits
  circle_holds =
      record {
        shaped = shaped;
        frees = λ a h. ap₂ ◌++◌ (ap linked (no_line a h)) (ap₂ ◌++◌ (ap linked (by_task a h)) (t.named_by.parts a h));
        sized = length-waits;
        right = λ b h. part_cell table 512 128 p.n b h few ∙ t.waiting_for b h ∙ waits-ins p g ok b;
      }

  pub circle_linked : Linked p.n none nexts (waiting_at table) (waiting table) waits
  circle_linked = holds_linked circle_holds

  same-counts : waits ≡ each (waits_of p) p.n 0
  same-counts =
      ext_get_or 0 waits (each (waits_of p) p.n 0) (length-waits ∙ sym (length-each (waits_of p) p.n 0))
      (λ i h.
      let k : i < p.n = omega (arith, length-waits) in
      let z : 0 + i ≡ i = omega arith in
      part_cell table 512 128 p.n i k few ∙ t.waiting_for i k ∙ sym (each_at (waits_of p) p.n 0 i k ∙ ap (waits_of p) z))

  -- the answer of the order over the tables
  pub circle_answer : (r : ℕ) (order : List ℕ) → take r order ≡ order_of (succs_of none nexts (waiting_at table) (waiting table)) p.n waits → r ≤ length order
      → ltb r p.n ≡ closes_circle p
  circle_answer r order e h =
      ap (λ (k : ℕ). ltb k p.n) (sym (answer-length circle_holds r order e h) ∙ ap (λ (c : List ℕ). length (graph_order (graph (bare p g ok)) c)) same-counts)

  -- the same, for the lists that the code has: equal to these
  module _ {m k j : ℕ} {line counts : List ℕ} (em : m ≡ p.n) (el : line ≡ none) (ek : k ≡ p.n) (ej : j ≡ p.n) (ec : counts ≡ take j (drop 512 table)) where
    counts_are : counts ≡ waits
    counts_are = ec ∙ ap (λ (i : ℕ). take i (drop 512 table)) ej

    pub circle_asked : Linked m line (take k (drop 128 table)) (waiting_at table) (waiting table) counts
    circle_asked = rw (em, el, ek, counts_are) circle_linked

    pub circle_answered : (r : ℕ) (order : List ℕ)
        → take r order ≡ order_of (succs_of line (take k (drop 128 table)) (waiting_at table) (waiting table)) m counts → r ≤ length order
        → ltb r p.n ≡ closes_circle p
    circle_answered r order e h = circle_answer r order (rw (em, el, ek, counts_are) at e) h
