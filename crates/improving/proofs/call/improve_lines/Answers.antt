use mathlib.Core.Path.{ap, ◌∙◌}
use Rattle.words.specs.Words.{words}
use Rattle.plan.specs.Input.{problem_of}
use Rattle.search.specs.Search.{Improved}
use Rattle.improving.specs.Improving.{tasks_over, machines_over}
use Rattle.improving.proofs.CallLaws.{not_twelve}
use Rattle.lines.specs.Lines.{lines_in}
use Rattle.timing.specs.Timing.{contradicts}
use Rattle.calls.proofs.SheetLaws.{not_not}
use Rattle.improving.proofs.call.improve_lines.Goals as goal

pub search_and_tell-requires-clause-ready : goal.search_and_tell-requires-clause-ready
search_and_tell-requires-clause-ready c = (record { placed = c.requires.taken.0.placed; accepted = c.requires.taken.0.accepted; weighed = c.requires.taken.0.weighed; tabled = c.requires.taken.0.tabled; transports = c.transports-ways.ensures }, record { roomy = c.requires.taken.1; sixteen = c.well_formed.1.1.1.1.0.1.0.1; well = c.requires.taken.2 }, c.time_sequences.ensures.timed c.if-not-time_sequences.false)

pub returns-clause-tasks : goal.returns-clause-tasks
returns-clause-tasks c = c.search_and_tell.ensures.tasks ∙ ap (λ (i : Improved). tasks_over i c.args.tasks.now) (not_twelve (problem_of (words c.args.s.now) c.args.z) (lines_in c.args.cells.now c.args.lens) (contradicts (problem_of (words c.args.s.now) c.args.z) (lines_in c.args.cells.now c.args.lens)) (not_not (contradicts (problem_of (words c.args.s.now) c.args.z) (lines_in c.args.cells.now c.args.lens)) c.time_sequences.ensures.answer c.if-not-time_sequences.false))

pub returns-clause-machines : goal.returns-clause-machines
returns-clause-machines c = c.search_and_tell.ensures.machines ∙ ap (λ (i : Improved). machines_over i c.args.machines.now) (not_twelve (problem_of (words c.args.s.now) c.args.z) (lines_in c.args.cells.now c.args.lens) (contradicts (problem_of (words c.args.s.now) c.args.z) (lines_in c.args.cells.now c.args.lens)) (not_not (contradicts (problem_of (words c.args.s.now) c.args.z) (lines_in c.args.cells.now c.args.lens)) c.time_sequences.ensures.answer c.if-not-time_sequences.false))
