-- `timing::take_and_place` meets its contract. The loop's invariant: what is taken, then what the rules take from here, is the timing order, and
-- what is taken is placed; the measure is the places that are left in the order. Assumes nothing.
use Prim.Native.Nat.{◌-◌}
use mathlib.Core.Path.{sym, ◌∙◌}
use native.Mathlib.Omega.{arith}
use Rattle.words.specs.Words.{words}
use Rattle.graph.proofs.Taking.{take_begin, take_end, take-place, take_next, take_known, take_asks, take_again}
use Rattle.plan.specs.Input.{problem_of, genes_of}
use Rattle.lines.specs.Lines.{lines_in}
use Rattle.timing.proofs.PlacingLaws.{none_placed, placeable, placed_next, all_placed_lem}
use Rattle.timing.proofs.OrderTables.{stacked_safe, on_order, whole_order, whole_taken}
use Rattle.timing.proofs.take_and_place.Goals as goal

pub loop-top-init : goal.loop-top-init
loop-top-init c = let p = problem_of (words c.args.s.now) c.args.z in (
  take_begin (omega (arith, c.requires.stacked.over, c.requires.stacked.roomy)) (stacked_safe c.requires.stacked _ c.requires.order_len.0),
  c.requires.order_len.1,
  c.requires.order_len.2,
  none_placed p (lines_in c.args.cells.now c.args.lens.now) _ _,
)

pub overflow_sub-top : goal.overflow_sub-top
overflow_sub-top c = omega (arith, c.loop-top-test.true)

pub offset_bounds-stack-top : goal.offset_bounds-stack-top
offset_bounds-stack-top c = omega (arith, c.loop-top.invariant.0.fits, c.requires.stacked.narrow)

pub bounds-stack-top : goal.bounds-stack-top
bounds-stack-top c = omega (arith, c.loop-top-test.true, c.loop-top.invariant.0.fits, c.loop-top.invariant.0.roomy)

pub bounds-order-taken : goal.bounds-order-taken
bounds-order-taken c = let h = take-place c.loop-top.invariant.0 c.loop-top-test.true in omega (arith, c.loop-top.invariant.0.orderly)

pub overflow_add-taken : goal.overflow_add-taken
overflow_add-taken c = let h = take-place c.loop-top.invariant.0 c.loop-top-test.true in omega (arith, c.requires.order_len.0, c.requires.placed.1.activities.1)

pub place-requires : goal.place-requires
place-requires c = let p = problem_of (words c.args.s.now) c.args.z in
    let g = genes_of (words c.args.s.now) c.args.z in
    let lines = lines_in c.args.cells.now c.args.lens.now in
    let next = on_order c.requires.stacked _ c.requires.order_len.0 (take_next c.loop-top.invariant.0 c.loop-top-test.true) in
    record { placed = c.requires.placed; placeable = placeable p g c.requires.placed.1 lines c.requires.well_formed.0 c.requires.well_formed.1 c.loop-top.invariant.1 c.loop-top.invariant.2 next.1 c.loop-top.invariant.3 next.0 }

pub release-top-requires : goal.release-top-requires
release-top-requires c = record { a_in_bounds = (take_known c.loop-top.invariant.0 c.loop-top-test.true, rw c.requires.stacked.linked.shaped.lined c.requires.stacked.linked.shaped); safe = take_asks c.loop-top.invariant.0 c.loop-top-test.true }

pub loop-top-smaller : goal.loop-top-smaller
loop-top-smaller c = let h = take-place c.loop-top.invariant.0 c.loop-top-test.true in omega arith

pub loop-top-preserved : goal.loop-top-preserved
loop-top-preserved c = let p = problem_of (words c.args.s.now) c.args.z in
    let g = genes_of (words c.args.s.now) c.args.z in
    let lines = lines_in c.args.cells.now c.args.lens.now in
    let next = on_order c.requires.stacked _ c.requires.order_len.0 (take_next c.loop-top.invariant.0 c.loop-top-test.true) in (
      take_again c.loop-top.invariant.0 c.loop-top-test.true c.release-top.ensures.0 c.release-top.auto.counts c.release-top.auto.stack c.release-top.ensures.1,
      c.place.auto.starts ∙ c.loop-top.invariant.1,
      c.place.auto.ends ∙ c.loop-top.invariant.2,
      placed_next p g c.requires.placed.1 lines c.requires.well_formed.0 c.requires.well_formed.1 c.loop-top.invariant.1 c.loop-top.invariant.2 next.1 c.loop-top.invariant.3 next.0 c.place.ensures.starts_after c.place.ensures.ends_after,
    )

pub shape_of-counts : goal.shape_of-counts
shape_of-counts c = c.loop-top.invariant.0.counted

pub shape_of-stack : goal.shape_of-stack
shape_of-stack c = c.loop-top.invariant.0.roomy

pub shape_of-order : goal.shape_of-order
shape_of-order c = c.loop-top.invariant.0.orderly

pub shape_of-starts : goal.shape_of-starts
shape_of-starts c = c.loop-top.invariant.1 ∙ sym c.requires.order_len.1

pub shape_of-ends : goal.shape_of-ends
shape_of-ends c = c.loop-top.invariant.2 ∙ sym c.requires.order_len.2

pub returns : goal.returns
returns c = let p = problem_of (words c.args.s.now) c.args.z in
    let g = genes_of (words c.args.s.now) c.args.z in
    let lines = lines_in c.args.cells.now c.args.lens.now in
    let e = take_end c.loop-top.invariant.0 c.loop-top-test.false in
    let o = whole_order c.requires.stacked _ c.requires.order_len.0 e.0 in
    record { order_after = (o, omega (arith, e.1, c.requires.order_len.0)); placement = λ all. all_placed_lem p g c.requires.placed.1 lines c.requires.well_formed.0 c.requires.well_formed.1 (whole_taken p lines _ _ o (omega (arith, c.loop-top.invariant.0.orderly, c.requires.order_len.0)) all (omega (arith, e.1, c.requires.order_len.0))) all c.loop-top.invariant.1 c.loop-top.invariant.2 c.loop-top.invariant.3 }
