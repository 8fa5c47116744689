use mathlib.Core.Path.{sym, ap, ◌∙◌}
use native.Mathlib.Omega.{arith}
use Rattle.words.specs.Words.{words}
use Rattle.plan.specs.Input.{problem_of, genes_of}
use Rattle.lines.specs.Lines.{lines_in}
use Rattle.timing.proofs.TimedLaws.{neighbours}
use Rattle.path.specs.Path.{critical_path}
use Rattle.path.specs.Tails.{tails}
use Rattle.search.proofs.SurveyLaws.{placing_is, followed, walks}
use Rattle.search.proofs.survey.survey.Goals as goal

pub critical_path-at-requires : goal.critical_path-at-requires
critical_path-at-requires c = (record { problem = (problem_of (words c.args.s.now) c.args.z); lines = (lines_in c.args.cells.now c.args.lens); walkable = (walks (problem_of (words c.args.s.now) c.args.z) (genes_of (words c.args.s.now) c.args.z) c.requires.ready.0.accepted (lines_in c.args.cells.now c.args.lens) c.requires.ready.1.well c.requires.ready.2 c.requires.ready.0.tabled (neighbours c.requires.lines_held.0 c.requires.lines_held.1 c.requires.lines_held.2) c.args.machines.now c.args.places.now c.requires.lines_held.3 c.requires.lines_held.4 c.requires.lines_held.0.on c.requires.lines_held.0.at c.requires.ready.0.transports) }, c.requires.lines_held.5 ∙ sym c.requires.ready.2.whole.all)

pub tails-requires : goal.tails-requires
tails-requires c = record { problem = (problem_of (words c.args.s.now) c.args.z); lines = (lines_in c.args.cells.now c.args.lens); followed = (followed (problem_of (words c.args.s.now) c.args.z) (genes_of (words c.args.s.now) c.args.z) c.requires.ready.0.accepted (lines_in c.args.cells.now c.args.lens) c.requires.ready.1.well c.requires.ready.2 c.requires.ready.0.tabled (neighbours c.requires.lines_held.0 c.requires.lines_held.1 c.requires.lines_held.2)); sized = c.requires.lines_held.6 }

pub returns : goal.returns
returns c = let e = placing_is (problem_of (words c.args.s.now) c.args.z) (genes_of (words c.args.s.now) c.args.z) c.requires.ready.0.accepted (lines_in c.args.cells.now c.args.lens) c.requires.ready.1.well c.requires.ready.2 in
    record { walked = (c.critical_path-at.ensures.path_after (problem_of (words c.args.s.now) c.args.z) (lines_in c.args.cells.now c.args.lens) (walks (problem_of (words c.args.s.now) c.args.z) (genes_of (words c.args.s.now) c.args.z) c.requires.ready.0.accepted (lines_in c.args.cells.now c.args.lens) c.requires.ready.1.well c.requires.ready.2 c.requires.ready.0.tabled (neighbours c.requires.lines_held.0 c.requires.lines_held.1 c.requires.lines_held.2) c.args.machines.now c.args.places.now c.requires.lines_held.3 c.requires.lines_held.4 c.requires.lines_held.0.on c.requires.lines_held.0.at c.requires.ready.0.transports) ∙ ap (critical_path (problem_of (words c.args.s.now) c.args.z) (lines_in c.args.cells.now c.args.lens)) e, omega (arith, c.critical_path-at.ensures.upper_bound.0, c.requires.lines_held.5)); tailed = c.tails.ensures (problem_of (words c.args.s.now) c.args.z) (lines_in c.args.cells.now c.args.lens) (followed (problem_of (words c.args.s.now) c.args.z) (genes_of (words c.args.s.now) c.args.z) c.requires.ready.0.accepted (lines_in c.args.cells.now c.args.lens) c.requires.ready.1.well c.requires.ready.2 c.requires.ready.0.tabled (neighbours c.requires.lines_held.0 c.requires.lines_held.1 c.requires.lines_held.2)) c.requires.lines_held.6 ∙ ap (tails (problem_of (words c.args.s.now) c.args.z) (lines_in c.args.cells.now c.args.lens)) e }
