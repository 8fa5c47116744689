use Prim.Native.Nat.{◌≤◌, ◌<◌}
use mathlib.Core.Path.{ap, ◌∙◌}
use native.Mathlib.Omega.{arith}
use lib.ListN.{length, get_or}
use Rattle.words.specs.Words.{words}
use Rattle.plan.specs.Input.{problem_of, genes_of}
use Rattle.bounds.specs.Bounds.{setup_of}
use Rattle.lines.specs.Lines.{lines_in}
use Rattle.timing.proofs.TimedLaws.{set_next, all_set, seat_known}
use Rattle.timing.proofs.placing.fill_setups.Goals as goal

pub setup_of-requires-clause-a_lt_activities : goal.setup_of-requires-clause-a_lt_activities
setup_of-requires-clause-a_lt_activities c = let h : c.loop-a.a < c.args.z.activities = omega (arith, c.loop-a-test.true, c.requires.well_formed.1.length-machines) in
    let seat = seat_known c.requires.well_formed.0 c.requires.well_formed.1 c.loop-a.a h in
    (h, seat.0, rw c.link_of-line.ensures seat.1)

pub loop-a-preserved : goal.loop-a-preserved
loop-a-preserved c = let h : c.loop-a.a < length c.loop-a.setups = omega (arith, c.loop-a-test.true, c.requires.well_formed.1.length-machines, c.loop-a.invariant.sized) in
    set_next (problem_of (words c.args.s.now) c.args.z) (genes_of (words c.args.s.now) c.args.z) c.requires.placed.1 c.loop-a.invariant h
    (c.setup_of.ensures ∙ ap (setup_of (problem_of (words c.args.s.now) c.args.z) c.loop-a.a (get_or c.args.machines.now c.loop-a.a 0)) c.link_of-line.ensures)

pub returns : goal.returns
returns c = let h : length c.loop-a.setups ≤ c.loop-a.a = omega (arith, c.loop-a-test.false, c.requires.well_formed.1.length-machines, c.loop-a.invariant.sized) in
    all_set (problem_of (words c.args.s.now) c.args.z) (genes_of (words c.args.s.now) c.args.z) c.requires.placed.1 c.loop-a.invariant h (lines_in c.args.cells.now c.args.lens) c.requires.well_formed.1
