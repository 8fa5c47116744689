use mathlib.Core.Path.{refl, ap, ◌∙◌}
use lib.Ieee.{to_bits, binary64}
use Rattle.words.specs.Words.{words}
use Rattle.plan.specs.Input.{problem_of, genes_of}
use Rattle.lines.specs.Lines.{lines_in}
use Rattle.timing.specs.Timing.{contradicts}
use Rattle.timing.proofs.TimedLaws.{seated}
use Rattle.calls.proofs.PrefixLaws.{lent}
use Rattle.calls.proofs.SheetLaws.{eight_answer, eight_leaves, sheet_answer, sheet_leaves, not_not, not_false, ended, fitness_is}
use Rattle.calls.proofs.timed.time_lines.Goals as goal

pub returns-then-not-time_sequences : goal.returns-then-not-time_sequences
returns-then-not-time_sequences c = let b = not_false (contradicts (problem_of (words c.args.s.now) c.args.z) (lines_in c.args.cells.now c.args.lens)) c.time_sequences.ensures.answer c.if-not-time_sequences.true in
    record { answer = eight_answer (problem_of (words c.args.s.now) c.args.z) (lines_in c.args.cells.now c.args.lens) (contradicts (problem_of (words c.args.s.now) c.args.z) (lines_in c.args.cells.now c.args.lens)) b; rows = eight_leaves (problem_of (words c.args.s.now) c.args.z) (lines_in c.args.cells.now c.args.lens) (contradicts (problem_of (words c.args.s.now) c.args.z) (lines_in c.args.cells.now c.args.lens)) b }

pub write_sheet-requires-clause-seated : goal.write_sheet-requires-clause-seated
write_sheet-requires-clause-seated c = ((seated c.time_sequences.ensures.linked (c.time_sequences.auto.before ∙ lent c.args.z.activities c.requires.taken.0.accepted.activities.1) (c.time_sequences.auto.machines ∙ lent c.args.z.activities c.requires.taken.0.accepted.activities.1)), (c.time_sequences.ensures.timed c.if-not-time_sequences.false))

pub fitness_bits-requires-clause-ended : goal.fitness_bits-requires-clause-ended
fitness_bits-requires-clause-ended c = ended (problem_of (words c.args.s.now) c.args.z) (genes_of (words c.args.s.now) c.args.z) c.requires.taken.0.accepted (lines_in c.args.cells.now c.args.lens) c.requires.taken.2 (c.time_sequences.ensures.timed c.if-not-time_sequences.false)

pub returns : goal.returns
returns c = let b = not_not (contradicts (problem_of (words c.args.s.now) c.args.z) (lines_in c.args.cells.now c.args.lens)) c.time_sequences.ensures.answer c.if-not-time_sequences.false in
    record { answer = sheet_answer (problem_of (words c.args.s.now) c.args.z) (lines_in c.args.cells.now c.args.lens) (contradicts (problem_of (words c.args.s.now) c.args.z) (lines_in c.args.cells.now c.args.lens)) b refl (c.fitness_bits.ensures ∙ ap (to_bits binary64) (fitness_is (problem_of (words c.args.s.now) c.args.z) (lines_in c.args.cells.now c.args.lens) (c.time_sequences.ensures.timed c.if-not-time_sequences.false))); rows = sheet_leaves (problem_of (words c.args.s.now) c.args.z) (lines_in c.args.cells.now c.args.lens) (contradicts (problem_of (words c.args.s.now) c.args.z) (lines_in c.args.cells.now c.args.lens)) b c.write_sheet.ensures }
