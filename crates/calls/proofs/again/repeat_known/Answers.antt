use mathlib.Core.Path.{sym, ap, ◌∙◌}
use native.Mathlib.Omega.{arith}
use Rattle.words.specs.Words.{words}
use Rattle.plan.specs.Input.{problem_of, genes_of}
use Rattle.lines.specs.Lines.{lines_in, well_formed}
use Rattle.lines.proofs.TestLaws.{test_sound}
use Rattle.timing.specs.Timing.{contradicts}
use Rattle.fitness.specs.declared.Sums.{Sums}
use Rattle.calls.proofs.SheetLaws.{not_not, ended}
use Rattle.calls.proofs.AgainLaws.{last_is, makespan_is, fit}
use Rattle.calls.proofs.again.repeat_known.Goals as goal

pub time_sequences-requires-clause-cells_len : goal.time_sequences-requires-clause-cells_len
time_sequences-requires-clause-cells_len c = (c.requires.1, test_sound (problem_of (words c.args.s.now) c.args.z).n (problem_of (words c.args.s.now) c.args.z).machines (lines_in c.args.cells.now c.args.lens) (sym c.well_formed-2.ensures ∙ c.if-not-well_formed.false), c.loop.invariant.rooms)

pub loop-preserved : goal.loop-preserved
loop-preserved c = record {
  within = omega arith;
  rooms = record { length_before = c.time_sequences.auto.before ∙ c.loop.invariant.rooms.length_before; length-after = c.time_sequences.auto.after ∙ c.loop.invariant.rooms.length-after; length-machines = c.time_sequences.auto.machines ∙ c.loop.invariant.rooms.length-machines; length-places = c.time_sequences.auto.places ∙ c.loop.invariant.rooms.length-places; length_order = c.time_sequences.auto.order ∙ c.loop.invariant.rooms.length_order; length_starts = c.time_sequences.auto.starts ∙ c.loop.invariant.rooms.length_starts; length-ends = c.time_sequences.auto.ends ∙ c.loop.invariant.rooms.length-ends };
  agreed = λ _. not_not (contradicts (problem_of (words c.args.s.now) c.args.z) (lines_in c.args.cells.now c.args.lens)) c.time_sequences.ensures.answer c.if-not-time_sequences.false;
  timed = λ _. c.time_sequences.ensures.timed c.if-not-time_sequences.false;
}

pub sums_of-sums-requires-clause-ended : goal.sums_of-sums-requires-clause-ended
sums_of-sums-requires-clause-ended c = ended (problem_of (words c.args.s.now) c.args.z) (genes_of (words c.args.s.now) c.args.z) c.requires.0.accepted (lines_in c.args.cells.now c.args.lens) (test_sound (problem_of (words c.args.s.now) c.args.z).n (problem_of (words c.args.s.now) c.args.z).machines (lines_in c.args.cells.now c.args.lens) (sym c.well_formed-2.ensures ∙ c.if-not-well_formed.false)) (c.loop.invariant.timed (omega arith))

pub returns : goal.returns
returns c = last_is (problem_of (words c.args.s.now) c.args.z) (lines_in c.args.cells.now c.args.lens) c.args.times (contradicts (problem_of (words c.args.s.now) c.args.z) (lines_in c.args.cells.now c.args.lens)) c.if-times-eq0.false (c.loop.invariant.agreed (omega arith)) (ap (λ (x : Sums). x.makespan) c.sums_of-sums.ensures.0 ∙ makespan_is (problem_of (words c.args.s.now) c.args.z) (lines_in c.args.cells.now c.args.lens) (c.loop.invariant.timed (omega arith))) ∙ fit (problem_of (words c.args.s.now) c.args.z) (lines_in c.args.cells.now c.args.lens) (well_formed c.args.z.activities c.args.z.machines (lines_in c.args.cells.now c.args.lens)) c.args.times (sym c.well_formed-2.ensures ∙ c.if-not-well_formed.false)
