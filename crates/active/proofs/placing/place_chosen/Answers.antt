-- `active::placing::place_chosen` meets its contract. The loop's invariant: placing the rest upon the board so far gives what placing all does.
use Prim.Native.Nat.{◌-◌}
use mathlib.Core.Path.{refl}
use native.Mathlib.Omega.{arith}
use Rattle.words.specs.Words.{words}
use Rattle.plan.specs.Input.{problem_of, genes_of}
use Rattle.board.proofs.BoardLaws.{sit_room}
use Rattle.active.proofs.PlacingLaws.{place_begin, place_asks, scan_sound, place_end, place-listed, fine, more, has_room, place_again}
use Rattle.active.proofs.placing.place_chosen.Goals as goal

pub loop-seat-init : goal.loop-seat-init
loop-seat-init c = place_begin (problem_of (words c.args.s.now) c.args.z) (genes_of (words c.args.s.now) c.args.z) c.requires.begun

pub choose-requires : goal.choose-requires
choose-requires c = record { placed = c.requires.placed; chosen = place_asks c.requires.placed.1 c.loop-seat.invariant c.requires.begun.ranked c.requires.begun.manned }

pub shape_of-order-in_default : goal.shape_of-order-in_default
shape_of-order-in_default c = c.loop-seat.invariant.sized

pub shape_of-starts-in_default : goal.shape_of-starts-in_default
shape_of-starts-in_default c = omega (arith, c.loop-seat.invariant.sound.sized.starts, (place_begin (problem_of (words c.args.s.now) c.args.z) (genes_of (words c.args.s.now) c.args.z) c.requires.begun).sound.sized.starts)

pub shape_of-ends-in_default : goal.shape_of-ends-in_default
shape_of-ends-in_default c = omega (arith, c.loop-seat.invariant.sound.sized.ends, (place_begin (problem_of (words c.args.s.now) c.args.z) (genes_of (words c.args.s.now) c.args.z) c.requires.begun).sound.sized.ends)

pub shape_of-setups-in_default : goal.shape_of-setups-in_default
shape_of-setups-in_default c = omega (arith, c.loop-seat.invariant.sound.sized.setups, (place_begin (problem_of (words c.args.s.now) c.args.z) (genes_of (words c.args.s.now) c.args.z) c.requires.begun).sound.sized.setups)

pub shape_of-lines-in_default : goal.shape_of-lines-in_default
shape_of-lines-in_default c = omega (arith, c.loop-seat.invariant.sound.sized.lines, (place_begin (problem_of (words c.args.s.now) c.args.z) (genes_of (words c.args.s.now) c.args.z) c.requires.begun).sound.sized.lines)

pub shape_of-steps-in_default : goal.shape_of-steps-in_default
shape_of-steps-in_default c = omega (arith, c.loop-seat.invariant.sound.sized.steps, (place_begin (problem_of (words c.args.s.now) c.args.z) (genes_of (words c.args.s.now) c.args.z) c.requires.begun).sound.sized.steps)

pub shape_of-settled-in_default : goal.shape_of-settled-in_default
shape_of-settled-in_default c = omega (arith, (scan_sound c.requires.placed.1 c.loop-seat.invariant c.choose.ensures.choice c.choose.ensures.settled).sized.settled, (place_begin (problem_of (words c.args.s.now) c.args.z) (genes_of (words c.args.s.now) c.args.z) c.requires.begun).sound.sized.settled)

pub shape_of-kept-in_default : goal.shape_of-kept-in_default
shape_of-kept-in_default c = omega (arith, c.choose.ensures.kept.sized, c.requires.begun.fresh.sized)

pub returns-in_default : goal.returns-in_default
returns-in_default c = let e = place_end c.requires.placed.1 c.loop-seat.invariant c.choose.ensures.choice c.choose.ensures.settled c.in_default.is in
    record { board = e; order = place-listed c.requires.placed.1 c.loop-seat.invariant c.choose.ensures.choice c.choose.ensures.settled e refl }

pub owner-task-requires : goal.owner-task-requires
owner-task-requires c = let k = fine c.requires.placed.1 c.loop-seat.invariant c.choose.ensures.choice c.choose.ensures.settled c.in-Some.seat c.in-Some.is in
    (omega (arith, k.here, c.requires.placed.1.activities.1), c.requires.placed.2.sized)

pub sit-requires : goal.sit-requires
sit-requires c = let k = fine c.requires.placed.1 c.loop-seat.invariant c.choose.ensures.choice c.choose.ensures.settled c.in-Some.seat c.in-Some.is in
    sit_room (scan_sound c.requires.placed.1 c.loop-seat.invariant c.choose.ensures.choice c.choose.ensures.settled) _ _ k.here (omega (arith, k.there, c.requires.placed.1.machines.1)) (omega (arith, (c.owner-task.ensures (problem_of (words c.args.s.now) c.args.z) c.requires.placed.2 k.here), c.requires.placed.1.owner c.in-Some.seat.activity k.here, c.requires.placed.1.tasks.1)) (has_room c.requires.placed.1 c.loop-seat.invariant c.choose.ensures.choice c.choose.ensures.settled c.in-Some.seat c.in-Some.is)

pub forget-requires : goal.forget-requires
forget-requires c = let k = fine c.requires.placed.1 c.loop-seat.invariant c.choose.ensures.choice c.choose.ensures.settled c.in-Some.seat c.in-Some.is in
    (c.choose.ensures.kept.sized, c.requires.placed.1.tasks.1, omega (arith, (c.owner-task.ensures (problem_of (words c.args.s.now) c.args.z) c.requires.placed.2 k.here), c.requires.placed.1.owner c.in-Some.seat.activity k.here, c.requires.placed.1.tasks.1))

pub overflow_add-count : goal.overflow_add-count
overflow_add-count c = let h = more c.requires.placed.1 c.loop-seat.invariant c.choose.ensures.choice c.choose.ensures.settled c.in-Some.seat c.in-Some.is in
    omega (arith, h, c.requires.placed.1.activities.1)

pub loop-seat-smaller : goal.loop-seat-smaller
loop-seat-smaller c = let h = more c.requires.placed.1 c.loop-seat.invariant c.choose.ensures.choice c.choose.ensures.settled c.in-Some.seat c.in-Some.is in
    omega (arith, h)

pub loop-seat-preserved : goal.loop-seat-preserved
loop-seat-preserved c = let k = fine c.requires.placed.1 c.loop-seat.invariant c.choose.ensures.choice c.choose.ensures.settled c.in-Some.seat c.in-Some.is in
    place_again c.requires.placed.1 c.loop-seat.invariant c.choose.ensures.choice c.choose.ensures.settled c.in-Some.seat c.in-Some.is c.choose.ensures.kept (c.owner-task.ensures (problem_of (words c.args.s.now) c.args.z) c.requires.placed.2 k.here) c.forget.ensures (c.sit.ensures.board (problem_of (words c.args.s.now) c.args.z) (c.owner-task.ensures (problem_of (words c.args.s.now) c.args.z) c.requires.placed.2 k.here)) c.sit.ensures.order
