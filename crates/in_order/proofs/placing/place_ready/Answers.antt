-- `in_order::placing::place_ready` meets its contract. The loop's invariant: placing the rest upon the board so far gives what placing all does.
use Prim.Native.Nat.{ℕ, ◌<◌}
use mathlib.Core.Path.{refl, sym, ap, ◌∙◌}
use mathlib.Core.List.{List}
use native.Mathlib.Omega.{arith}
use lib.ListN.{get_or}
use Rattle.words.specs.Words.{words}
use Rattle.plan.specs.Input.{problem_of, genes_of}
use Rattle.genes.specs.Indexed.{assigned_to}
use Rattle.genes.proofs.MachineLaws.{assigned_known}
use Rattle.board.specs.Board.{board_of}
use Rattle.board.proofs.SeatLaws.{with_machine, last_below}
use Rattle.board.proofs.BoardLaws.{from_known}
use Rattle.in_order.proofs.OneLaws.{way_is, coming_next, placed_sound}
use Rattle.in_order.proofs.SeatingLaws.{seat_begin, seat_end, seat-listed, here, unsettled, has_room, settled_next, placed_next}
use Rattle.in_order.proofs.placing.place_ready.Goals as goal

pub loop-a-init : goal.loop-a-init
loop-a-init c = let p = problem_of (words c.args.s.now) c.args.z in
    let g = genes_of (words c.args.s.now) c.args.z in
    seat_begin p g c.requires.upon

pub assigned-requires : goal.assigned-requires
assigned-requires c = let p = problem_of (words c.args.s.now) c.args.z in
    let g = genes_of (words c.args.s.now) c.args.z in
    let a = get_or c.args.ready.now c.loop-a.a-index 0 in
    let known = here c.loop-a.invariant c.loop-a-test.true in
    (c.requires.placed.0, omega (arith, known, c.requires.placed.1.activities.1))

pub settle-requires : goal.settle-requires
settle-requires c = let p = problem_of (words c.args.s.now) c.args.z in
    let g = genes_of (words c.args.s.now) c.args.z in
    let a = get_or c.args.ready.now c.loop-a.a-index 0 in
    let known = here c.loop-a.invariant c.loop-a-test.true in
    omega (arith, known, c.loop-a.invariant.sound.sized.settled)

pub loop-a-preserved-in_default : goal.loop-a-preserved-in_default
loop-a-preserved-in_default c = let p = problem_of (words c.args.s.now) c.args.z in
    let g = genes_of (words c.args.s.now) c.args.z in
    let a = get_or c.args.ready.now c.loop-a.a-index 0 in
    let known = here c.loop-a.invariant c.loop-a-test.true in
    settled_next c.loop-a.invariant c.loop-a-test.true (sym c.in_default.is ∙ c.assigned.ensures) (ap (λ (x : List ℕ). board_of c.loop-a.count c.loop-a.order c.loop-a.starts c.loop-a.ends c.loop-a.setups c.loop-a.lines c.loop-a.steps x) c.settle.ensures)

pub step_of-step-requires : goal.step_of-step-requires
step_of-step-requires c = let p = problem_of (words c.args.s.now) c.args.z in
    let g = genes_of (words c.args.s.now) c.args.z in
    let a = get_or c.args.ready.now c.loop-a.a-index 0 in
    let known = here c.loop-a.invariant c.loop-a-test.true in
    record { problem = p; tabled = c.requires.placed.2; few = c.requires.placed.1.activities.1; here = known; owned = omega (arith, c.requires.placed.1.owner a known, c.requires.placed.1.tasks.1, c.loop-a.invariant.sound.sized.steps) }

pub machine_from-from-requires : goal.machine_from-from-requires
machine_from-from-requires c = let p = problem_of (words c.args.s.now) c.args.z in
    let g = genes_of (words c.args.s.now) c.args.z in
    let a = get_or c.args.ready.now c.loop-a.a-index 0 in
    let known = here c.loop-a.invariant c.loop-a-test.true in
    let es = c.step_of-step.ensures p c.requires.placed.2 known in
    (c.requires.placed.0, rw es (last_below p.n c.loop-a.steps (p.task_of a)))

pub offset_bounds-ways-from : goal.offset_bounds-ways-from
offset_bounds-ways-from c = let p = problem_of (words c.args.s.now) c.args.z in
    let g = genes_of (words c.args.s.now) c.args.z in
    let a = get_or c.args.ready.now c.loop-a.a-index 0 in
    let known = here c.loop-a.invariant c.loop-a-test.true in
    let es = c.step_of-step.ensures p c.requires.placed.2 known in
    let em = sym c.in-Some.is ∙ c.assigned.ensures in
    let there = c.requires.placed.1.assigned a c.in-Some.m (with_machine (g.assigned a) c.in-Some.m em) in
    let from : c.machine_from-from.result < p.machines = rw c.machine_from-from.ensures (from_known p g c.requires.placed.1 (assigned_to g) (λ q k. assigned_known c.requires.placed.1 q) c.loop-a.invariant.sound (p.task_of a) es) in
    omega (arith, from, there, c.requires.placed.1.machines.1)

pub bounds-ways-from : goal.bounds-ways-from
bounds-ways-from c = let p = problem_of (words c.args.s.now) c.args.z in
    let g = genes_of (words c.args.s.now) c.args.z in
    let a = get_or c.args.ready.now c.loop-a.a-index 0 in
    let known = here c.loop-a.invariant c.loop-a-test.true in
    let es = c.step_of-step.ensures p c.requires.placed.2 known in
    let em = sym c.in-Some.is ∙ c.assigned.ensures in
    let there = c.requires.placed.1.assigned a c.in-Some.m (with_machine (g.assigned a) c.in-Some.m em) in
    let from : c.machine_from-from.result < p.machines = rw c.machine_from-from.ensures (from_known p g c.requires.placed.1 (assigned_to g) (λ q k. assigned_known c.requires.placed.1 q) c.loop-a.invariant.sound (p.task_of a) es) in
    omega (arith, from, there, c.requires.placed.1.machines.1)

pub bounds-ways-m : goal.bounds-ways-m
bounds-ways-m c = let p = problem_of (words c.args.s.now) c.args.z in
    let g = genes_of (words c.args.s.now) c.args.z in
    let a = get_or c.args.ready.now c.loop-a.a-index 0 in
    let known = here c.loop-a.invariant c.loop-a-test.true in
    let es = c.step_of-step.ensures p c.requires.placed.2 known in
    let em = sym c.in-Some.is ∙ c.assigned.ensures in
    let there = c.requires.placed.1.assigned a c.in-Some.m (with_machine (g.assigned a) c.in-Some.m em) in
    let from : c.machine_from-from.result < p.machines = rw c.machine_from-from.ensures (from_known p g c.requires.placed.1 (assigned_to g) (λ q k. assigned_known c.requires.placed.1 q) c.loop-a.invariant.sound (p.task_of a) es) in
    omega (arith, from, there, c.requires.placed.1.machines.1)

pub place_one-requires-clause-coming : goal.place_one-requires-clause-coming
place_one-requires-clause-coming c = let p = problem_of (words c.args.s.now) c.args.z in
    let g = genes_of (words c.args.s.now) c.args.z in
    let a = get_or c.args.ready.now c.loop-a.a-index 0 in
    let known = here c.loop-a.invariant c.loop-a-test.true in
    let es = c.step_of-step.ensures p c.requires.placed.2 known in
    let em = sym c.in-Some.is ∙ c.assigned.ensures in
    let there = c.requires.placed.1.assigned a c.in-Some.m (with_machine (g.assigned a) c.in-Some.m em) in
    let from : c.machine_from-from.result < p.machines = rw c.machine_from-from.ensures (from_known p g c.requires.placed.1 (assigned_to g) (λ q k. assigned_known c.requires.placed.1 q) c.loop-a.invariant.sound (p.task_of a) es) in
    let ew = way_is p g c.requires.placed.1 c.requires.placed.3 c.machine_from-from.result c.in-Some.m from there in
    let coming = coming_next p g c.loop-a.invariant.sound known there (unsettled c.loop-a.invariant c.loop-a-test.true) es c.machine_from-from.ensures ew in
    (coming, has_room c.loop-a.invariant c.loop-a-test.true)

pub loop-a-preserved : goal.loop-a-preserved
loop-a-preserved c = let p = problem_of (words c.args.s.now) c.args.z in
    let g = genes_of (words c.args.s.now) c.args.z in
    let a = get_or c.args.ready.now c.loop-a.a-index 0 in
    let known = here c.loop-a.invariant c.loop-a-test.true in
    let es = c.step_of-step.ensures p c.requires.placed.2 known in
    let em = sym c.in-Some.is ∙ c.assigned.ensures in
    let there = c.requires.placed.1.assigned a c.in-Some.m (with_machine (g.assigned a) c.in-Some.m em) in
    let from : c.machine_from-from.result < p.machines = rw c.machine_from-from.ensures (from_known p g c.requires.placed.1 (assigned_to g) (λ q k. assigned_known c.requires.placed.1 q) c.loop-a.invariant.sound (p.task_of a) es) in
    let ew = way_is p g c.requires.placed.1 c.requires.placed.3 c.machine_from-from.result c.in-Some.m from there in
    let coming = coming_next p g c.loop-a.invariant.sound known there (unsettled c.loop-a.invariant c.loop-a-test.true) es c.machine_from-from.ensures ew in
    placed_next c.loop-a.invariant c.loop-a-test.true c.in-Some.m em c.place_one.ensures.board (placed_sound p g c.requires.placed.1 coming) c.place_one.ensures.order

pub returns : goal.returns
returns c = let e = seat_end c.loop-a.invariant c.loop-a-test.false in
    record { board = e; order = seat-listed c.loop-a.invariant e refl }
