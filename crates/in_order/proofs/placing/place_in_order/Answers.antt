-- `in_order::placing::place_in_order` meets its contract: all that are ready, placed upon a board of its own.
use Prim.Native.Nat.{ℕ}
use mathlib.Core.Path.{◌≡◌, refl, sym, ap, ◌∙◌}
use mathlib.Core.List.{List}
use native.Mathlib.Omega.{arith}
use lib.ListN.{length, take, replicate}
use lib.Seq.{length-take-le}
use Rattle.words.specs.Words.{words}
use Rattle.plan.specs.Input.{problem_of, genes_of}
use Rattle.genes.specs.Indexed.{indexed}
use Rattle.genes.proofs.IndexedLaws.{indexed_below}
use Rattle.board.specs.Board.{Board, empty_board}
use Rattle.in_order.specs.InOrder.{sit_all}
use Rattle.in_order.proofs.OrderLaws.{ready_below, ready_once}
use Rattle.in_order.proofs.placing.place_in_order.Goals as goal

pub slice_bounds-ready-end : goal.slice_bounds-ready-end
slice_bounds-ready-end c = omega (arith, c.ready_activities-given.ensures.1, c.requires.placed.0.activities)

pub slice_bounds-place_all-end : goal.slice_bounds-place_all-end
slice_bounds-place_all-end c = c.ready_activities-given.ensures.0.whole ∙ ap length (sym c.ready_activities-given.ensures.0.listed)

pub slice_bounds-place_all-end-4 : goal.slice_bounds-place_all-end-4
slice_bounds-place_all-end-4 c = sym (length-take-le {A = ℕ} c.args.z.activities (replicate 128 0) (omega (arith, c.requires.placed.0.activities)))

pub place_all-requires : goal.place_all-requires
place_all-requires c = let p = problem_of (words c.args.s.now) c.args.z in
    let g = genes_of (words c.args.s.now) c.args.z in
    let settled : length (take c.args.z.activities (replicate {A = ℕ} 128 0)) ≡ c.args.z.activities = length-take-le {A = ℕ} c.args.z.activities (replicate 128 0) (omega (arith, c.requires.placed.0.activities)) in
    record {
      placed = c.requires.placed;
      given = record {
        known = rw c.ready_activities-given.ensures.0.listed (ready_below p (indexed p g) (indexed_below c.requires.placed.1));
        once = λ x. rw c.ready_activities-given.ensures.0.listed (ready_once p (indexed p g) (indexed_below c.requires.placed.1) c.requires.placed.1.activities.1 x);
        roomy = omega (arith, ap length c.ready_activities-given.ensures.0.listed, c.ready_activities-given.ensures.0.whole, c.ready_activities-given.ensures.1, c.requires.rooms.ordered);
        sized = record { starts = c.requires.rooms.begun; ends = c.requires.rooms.ended; setups = c.requires.rooms.prepared; lines = refl; steps = refl; settled = settled };
      };
    }

pub returns : goal.returns
returns c = let p = problem_of (words c.args.s.now) c.args.z in
    let g = genes_of (words c.args.s.now) c.args.z in
    let e = c.place_all.ensures.board ∙ ap (λ (x : List ℕ). sit_all p g x (empty_board p.n)) c.ready_activities-given.ensures.0.listed in
    record { order = rw c.ready_activities-given.ensures.0.listed at c.place_all.ensures.order; times = record { begun = ap (λ (b : Board). b.starts) e; ended = ap (λ (b : Board). b.ends) e; prepared = ap (λ (b : Board). b.setups) e } }
