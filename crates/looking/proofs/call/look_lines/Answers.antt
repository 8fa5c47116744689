-- `looking::call::look_lines` meets its contract.
use mathlib.Core.Path.{ap, ◌∙◌}
use Rattle.words.specs.Words.{words}
use Rattle.plan.specs.Input.{problem_of}
use Rattle.lines.specs.Lines.{lines_in}
use Rattle.timing.specs.Timing.{contradicts}
use Rattle.calls.proofs.SheetLaws.{not_not, not_false}
use Rattle.looking.specs.Looking.{answer_of}
use Rattle.looking.proofs.CallLaws.{eight, not_eight, leaves_as, refused}
use Rattle.looking.proofs.call.look_lines.Goals as goal

pub returns-then-not-time_sequences-clause-left : goal.returns-then-not-time_sequences-clause-left
returns-then-not-time_sequences-clause-left c = refused (eight (problem_of (words c.args.s.now) c.args.z) (lines_in c.args.cells.now c.args.lens) (contradicts (problem_of (words c.args.s.now) c.args.z) (lines_in c.args.cells.now c.args.lens)) (not_false (contradicts (problem_of (words c.args.s.now) c.args.z) (lines_in c.args.cells.now c.args.lens)) c.time_sequences.ensures.answer c.if-not-time_sequences.true))

pub see-requires-clause-ready : goal.see-requires-clause-ready
see-requires-clause-ready c = (record { placed = c.requires.taken.0.placed; accepted = c.requires.taken.0.accepted; weighed = c.requires.taken.0.weighed; tabled = c.requires.taken.0.tabled; transports = c.transports-ways.ensures }, record { roomy = c.requires.taken.1; sixteen = c.well_formed.1.1.1.1.0.1.0.1; well = c.requires.taken.2 }, c.time_sequences.ensures.timed c.if-not-time_sequences.false)

pub returns : goal.returns
returns c = let e = not_eight (problem_of (words c.args.s.now) c.args.z) (lines_in c.args.cells.now c.args.lens) (contradicts (problem_of (words c.args.s.now) c.args.z) (lines_in c.args.cells.now c.args.lens)) (not_not (contradicts (problem_of (words c.args.s.now) c.args.z) (lines_in c.args.cells.now c.args.lens)) c.time_sequences.ensures.answer c.if-not-time_sequences.false) in
    record { answer = c.see.ensures.answer ∙ ap answer_of e; left = leaves_as e c.see.ensures.left }
