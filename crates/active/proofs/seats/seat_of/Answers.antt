-- `active::seats::seat_of` meets its contract.
use native.Mathlib.Omega.{arith}
use Rattle.words.specs.Words.{words}
use Rattle.plan.specs.Input.{problem_of}
use Rattle.genes.proofs.MachineLaws.{assigned_known}
use Rattle.board.proofs.SeatLaws.{last_below}
use Rattle.active.proofs.SeatNowLaws.{one_below, from_known, way_small, seat_now_is}
use Rattle.active.proofs.seats.seat_of.Goals as goal

pub machine_from-m-requires : goal.machine_from-m-requires
machine_from-m-requires c = (c.requires.placed.0, one_below c.args.z.activities c.args.a c.requires.a_lt_activities.0)

pub last_placed-line-requires : goal.last_placed-line-requires
last_placed-line-requires c = omega (arith, c.requires.a_lt_activities.1.lined, assigned_known c.requires.placed.1 c.args.a, c.requires.placed.1.machines.1, c.machine_from-m.ensures)

pub owner-task-requires : goal.owner-task-requires
owner-task-requires c = (omega (arith, c.requires.a_lt_activities.0, c.requires.placed.1.activities.1), c.requires.placed.2.sized)

pub last_placed-step-requires : goal.last_placed-step-requires
last_placed-step-requires c = omega (arith, c.requires.a_lt_activities.1.stepped, (c.owner-task.ensures (problem_of (words c.args.s.now) c.args.z) c.requires.placed.2 c.requires.a_lt_activities.0), c.requires.placed.1.owner c.args.a c.requires.a_lt_activities.0, c.requires.placed.1.tasks.1)

pub machine_from-from-requires : goal.machine_from-from-requires
machine_from-from-requires c = (c.requires.placed.0, rw c.last_placed-step.ensures (last_below c.args.z.activities c.args.steps.now c.owner-task.result))

pub transport-way-requires : goal.transport-way-requires
transport-way-requires c = (c.requires.placed.0, omega (arith, from_known c.requires.placed.1 c.last_placed-step.result c.machine_from-from.ensures, c.requires.placed.1.machines.1), omega (arith, assigned_known c.requires.placed.1 c.args.a, c.requires.placed.1.machines.1, c.machine_from-m.ensures))

pub seat_after-requires : goal.seat_after-requires
seat_after-requires c = record { placed = c.requires.placed; a_lt_activities = (c.requires.a_lt_activities.0, omega (arith, assigned_known c.requires.placed.1 c.args.a, c.machine_from-m.ensures), rw c.last_placed-line.ensures (last_below c.args.z.activities c.args.lines.now c.machine_from-m.result), rw c.last_placed-step.ensures (last_below c.args.z.activities c.args.steps.now c.owner-task.result), way_small c.requires.placed.1 c.args.a c.last_placed-step.result c.machine_from-m.ensures c.machine_from-from.ensures c.transport-way.ensures); ends_len = (c.requires.a_lt_activities.1.ended, c.requires.a_lt_activities.1.small) }

pub returns : goal.returns
returns c = seat_now_is c.requires.placed.1 c.args.a c.last_placed-step.result c.machine_from-m.ensures c.machine_from-from.ensures c.transport-way.ensures c.args.ends.now c.args.lines.now c.args.steps.now c.last_placed-line.ensures (c.owner-task.ensures (problem_of (words c.args.s.now) c.args.z) c.requires.placed.2 c.requires.a_lt_activities.0) c.last_placed-step.ensures c.seat_after.ensures
