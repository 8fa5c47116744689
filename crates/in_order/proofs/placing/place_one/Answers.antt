-- `in_order::placing::place_one` meets its contract: the seat after these links is the board's seat, and it is placed.
use Prim.Native.Nat.{ℕ}
use mathlib.Core.Path.{ap, ◌∙◌}
use native.Mathlib.Omega.{arith}
use lib.ListN.{set}
use Rattle.words.specs.Words.{words}
use Rattle.plan.specs.Input.{problem_of, genes_of}
use Rattle.board.specs.Board.{board_of, sit}
use Rattle.board.specs.declared.Seat.{Seat}
use Rattle.board.proofs.BoardLaws.{sit_room}
use Rattle.in_order.proofs.OneLaws.{way_small, step_below, ends_small, line_below, seat_by_rule, activity_is, task_is, room_is, activity_known, machine_known}
use Rattle.in_order.proofs.placing.place_one.Goals as goal

pub owner-task-requires : goal.owner-task-requires
owner-task-requires c = let p = problem_of (words c.args.s.now) c.args.z in
    let g = genes_of (words c.args.s.now) c.args.z in
    (omega (arith, c.requires.coming.0.here, c.requires.placed.1.activities.1), c.requires.placed.2.sized)

pub last_placed-line-requires : goal.last_placed-line-requires
last_placed-line-requires c = let p = problem_of (words c.args.s.now) c.args.z in
    let g = genes_of (words c.args.s.now) c.args.z in
    omega (arith, c.requires.coming.0.sound.sized.lines, c.requires.coming.0.there, c.requires.placed.1.machines.1)

pub seat_after-seat-requires : goal.seat_after-seat-requires
seat_after-seat-requires c = let p = problem_of (words c.args.s.now) c.args.z in
    let g = genes_of (words c.args.s.now) c.args.z in
    record { placed = c.requires.placed; a_lt_activities = (c.requires.coming.0.here, c.requires.coming.0.there, line_below p g c.requires.placed.1 c.requires.coming.0 c.last_placed-line.ensures, step_below p g c.requires.placed.1 c.requires.coming.0, way_small p g c.requires.placed.1 c.requires.coming.0); ends_len = (c.requires.coming.0.sound.sized.ends, ends_small p g c.requires.placed.1 c.requires.coming.0) }

pub sit-requires : goal.sit-requires
sit-requires c = let p = problem_of (words c.args.s.now) c.args.z in
    let g = genes_of (words c.args.s.now) c.args.z in
    sit_room c.requires.coming.0.sound _ _ (activity_known p g c.requires.placed.1 c.requires.coming.0 c.last_placed-line.ensures c.seat_after-seat.ensures (c.owner-task.ensures p c.requires.placed.2 c.requires.coming.0.here)) (machine_known p g c.requires.placed.1 c.requires.coming.0 c.last_placed-line.ensures c.seat_after-seat.ensures (c.owner-task.ensures p c.requires.placed.2 c.requires.coming.0.here)) (room_is p g c.requires.placed.1 c.requires.coming.0 c.last_placed-line.ensures c.seat_after-seat.ensures (c.owner-task.ensures p c.requires.placed.2 c.requires.coming.0.here)) c.requires.coming.1

pub returns : goal.returns
returns c = let p = problem_of (words c.args.s.now) c.args.z in
    let g = genes_of (words c.args.s.now) c.args.z in
    let b = board_of c.args.count c.args.order.now c.args.starts.now c.args.ends.now c.args.setups.now c.args.lines.now c.args.steps.now c.args.settled.now in
    record { board = c.sit.ensures.board p (task_is p g c.requires.placed.1 c.requires.coming.0 c.last_placed-line.ensures c.seat_after-seat.ensures (c.owner-task.ensures p c.requires.placed.2 c.requires.coming.0.here)) ∙ ap (λ (x : Seat). sit p x b) (seat_by_rule p g c.requires.placed.1 c.requires.coming.0 c.last_placed-line.ensures c.seat_after-seat.ensures); order = c.sit.ensures.order ∙ ap (λ (x : ℕ). set c.args.order.now c.args.count x) (activity_is p g c.requires.placed.1 c.requires.coming.0 c.last_placed-line.ensures c.seat_after-seat.ensures) }
