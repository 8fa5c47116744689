-- `active::scanning::scan` meets its contract. Both loops' invariants: what is left to scan gives, upon what was scanned, what the whole does.
use Prim.Native.Nat.{◌≤◌, ◌<◌}
use mathlib.Core.Path.{refl, sym, ap, ◌∙◌}
use native.Mathlib.Omega.{arith}
use lib.ListN.{length, length-set}
use lib.Seq.{length-take-le}
use Rattle.genes.proofs.TaskLaws.{task_within}
use Rattle.active.proofs.ScanLaws.{pass_begin, pass_again, scan_begin, scan_end, free_if_held, left-at_end, left-waiting, left_found}
use Rattle.active.proofs.scanning.scan.Goals as goal

pub tasks-init : goal.tasks-init
tasks-init c = scan_begin c.requires.settled_len.1 c.args.offered.now

pub loop-a-init : goal.loop-a-init
loop-a-init c = record { passing = pass_begin c.args.on.now c.tasks.settled _ _ (omega (arith, c.tasks.invariant.keeping.fronts.last c.tasks.task c.tasks-test.true, c.tasks.invariant.keeping.fronts.below c.tasks.task c.tasks-test.true)); keeps = refl; offers = refl; finds = refl }

pub stops-requires : goal.stops-requires
stops-requires c = let k = c.tasks.invariant.keeping.fronts.last c.tasks.task c.tasks-test.true in
    let n = task_within c.requires.placed.1 c.tasks.task c.tasks-test.true in
    (omega (arith, c.loop-a-test.true, k, n, c.requires.manned.0.sized, c.requires.placed.1.activities.1), omega (arith, c.loop-a-test.true, k, n, c.loop-a.invariant.passing.sized, c.tasks.invariant.flags, c.requires.settled_len.0))

pub offset_bounds-settled-a : goal.offset_bounds-settled-a
offset_bounds-settled-a c = let k = c.tasks.invariant.keeping.fronts.last c.tasks.task c.tasks-test.true in
    let n = task_within c.requires.placed.1 c.tasks.task c.tasks-test.true in
    omega (arith, c.loop-a-test.true, k, n, c.loop-a.invariant.passing.sized, c.tasks.invariant.flags, c.requires.settled_len.0, c.requires.placed.1.activities.1)

pub bounds-settled-a : goal.bounds-settled-a
bounds-settled-a c = let k = c.tasks.invariant.keeping.fronts.last c.tasks.task c.tasks-test.true in
    let n = task_within c.requires.placed.1 c.tasks.task c.tasks-test.true in
    omega (arith, c.loop-a-test.true, k, n, c.loop-a.invariant.passing.sized, c.tasks.invariant.flags, c.requires.settled_len.0, c.requires.placed.1.activities.1)

pub loop-a-preserved : goal.loop-a-preserved
loop-a-preserved c = let k = c.tasks.invariant.keeping.fronts.last c.tasks.task c.tasks-test.true in
    let n = task_within c.requires.placed.1 c.tasks.task c.tasks-test.true in
    record { passing = pass_again c.loop-a.invariant.passing c.loop-a-test.true (omega (arith, k, n, c.tasks.invariant.flags, c.requires.settled_len.0)) (sym c.stops.ensures ∙ c.if-not-stops.true); keeps = c.loop-a.invariant.keeps; offers = c.loop-a.invariant.offers; finds = c.loop-a.invariant.finds }

pub waits-requires : goal.waits-requires
waits-requires c = let k = c.tasks.invariant.keeping.fronts.last c.tasks.task c.tasks-test.true in
    let n = task_within c.requires.placed.1 c.tasks.task c.tasks-test.true in
    let here : c.loop-a.a < c.args.z.activities = omega (arith, c.loop-a-test.true, k, n) in
    record { accepted = (c.requires.placed.1, c.requires.placed.2, here, omega (arith, c.tasks-test.true, c.requires.placed.1.tasks.1)); settled_len = (omega (arith, c.loop-a.invariant.passing.sized, c.tasks.invariant.flags, c.requires.settled_len.0), length-set c.loop-a.kept c.tasks.task c.loop-a.a ∙ ap length c.loop-a.invariant.keeps ∙ c.tasks.invariant.keeping.sized); a_value = free_if_held c.requires.placed.1 c.tasks.invariant c.tasks-test.true c.requires.manned.0 c.loop-a.invariant here }

pub tasks-preserved-then-waits : goal.tasks-preserved-then-waits
tasks-preserved-then-waits c = left-waiting c.requires.placed.1 c.tasks.invariant c.tasks-test.true c.requires.manned.0 c.loop-a.invariant c.loop-a-test.true (sym c.stops.ensures ∙ c.if-not-stops.false) (sym c.waits.ensures ∙ c.if-waits.true)

pub keep_seat-requires : goal.keep_seat-requires
keep_seat-requires c = let k = c.tasks.invariant.keeping.fronts.last c.tasks.task c.tasks-test.true in
    let n = task_within c.requires.placed.1 c.tasks.task c.tasks-test.true in
    record { placed = c.requires.placed; a_lt_activities = (omega (arith, c.loop-a-test.true, k, n), c.requires.manned.1, length-set c.loop-a.kept c.tasks.task c.loop-a.a ∙ ap length c.loop-a.invariant.keeps ∙ c.tasks.invariant.keeping.sized, omega (arith, c.tasks-test.true, c.requires.placed.1.tasks.1)) }

pub tasks-preserved-in-loop-a : goal.tasks-preserved-in-loop-a
tasks-preserved-in-loop-a c = left_found c.requires.placed.1 c.tasks.invariant c.tasks-test.true c.requires.manned.0 c.loop-a.invariant c.loop-a-test.true (sym c.stops.ensures ∙ c.if-not-stops.false) (sym c.waits.ensures ∙ c.if-waits.false) (omega (arith, c.tasks-test.true, c.requires.placed.1.tasks.1, c.tasks.invariant.fewer, c.loop-a.invariant.finds, c.tasks.invariant.cells, ap length c.loop-a.invariant.offers, c.requires.manned.2)) c.keep_seat.ensures

pub tasks-preserved : goal.tasks-preserved
tasks-preserved c = left-at_end c.requires.placed.1 c.tasks.invariant c.tasks-test.true c.requires.manned.0 c.loop-a.invariant c.loop-a-test.false

pub returns : goal.returns
returns c = let few : c.tasks.found ≤ 32 = omega (arith, c.tasks.invariant.fewer, c.tasks.invariant.within, c.requires.placed.1.tasks.1) in
    (scan_end c.requires.placed.1 c.tasks.invariant c.tasks-test.false, omega (arith, few), sym (length-take-le c.tasks.found c.tasks.offered (omega (arith, few, c.tasks.invariant.cells, c.requires.manned.2))))
