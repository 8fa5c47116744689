-- `looking::sight::see_path` meets its contract.
use mathlib.Core.Path.{ap, ◌∙◌}
use native.Mathlib.Omega.{arith}
use lib.ListN.{length, length-drop}
use Rattle.words.specs.Words.{words}
use Rattle.plan.specs.Input.{problem_of, genes_of}
use Rattle.lines.specs.Lines.{lines_in}
use Rattle.timing.proofs.TimedLaws.{neighbours}
use Rattle.blocks.proofs.PathLaws.{scanned}
use Rattle.rows.specs.Rows.{over}
use Rattle.search.proofs.SurveyLaws.{searched, part_is}
use Rattle.looking.proofs.SightLaws.{part_short, moves_listed, moves_counted}
use Rattle.looking.proofs.sight.see_path.Goals as goal

pub survey-at-requires : goal.survey-at-requires
survey-at-requires c = record { ready = c.requires.ready; lines_held = (c.requires.lines_held.0, c.requires.lines_held.1, c.requires.lines_held.2, c.requires.lines_held.3, c.requires.lines_held.4, c.requires.lines_held.5, c.requires.lines_held.6) }

pub offset_bounds-trail-at : goal.offset_bounds-trail-at
offset_bounds-trail-at c = omega (arith, c.survey-at.ensures.walked.1, c.requires.ready.0.accepted.activities.1, c.survey-at.auto.path, c.requires.lines_held.5)

pub slice_bounds-copy_over-count : goal.slice_bounds-copy_over-count
slice_bounds-copy_over-count c = omega (arith, c.survey-at.ensures.walked.1, c.requires.ready.0.accepted.activities.1, c.survey-at.auto.path, c.requires.lines_held.5)

pub slice_bounds-copy_over-start : goal.slice_bounds-copy_over-start
slice_bounds-copy_over-start c = omega (arith, c.survey-at.ensures.walked.1, c.requires.ready.0.accepted.activities.1, c.survey-at.auto.path, c.requires.lines_held.5)

pub copy_over-requires : goal.copy_over-requires
copy_over-requires c = omega (arith, c.requires.lines_held.7, ap length (part_is c.survey-at.new.path c.survey-at.result (omega (arith, c.survey-at.ensures.walked.1, c.requires.ready.0.accepted.activities.1, c.survey-at.auto.path, c.requires.lines_held.5))), length-drop c.survey-at.result c.survey-at.new.path, c.survey-at.ensures.walked.1, c.requires.ready.0.accepted.activities.1, c.survey-at.auto.path, c.requires.lines_held.5)

pub offset_bounds-trail-at-2 : goal.offset_bounds-trail-at-2
offset_bounds-trail-at-2 c = omega (arith, c.survey-at.ensures.walked.1, c.requires.ready.0.accepted.activities.1, c.survey-at.auto.path, c.requires.lines_held.5)

pub slice_bounds-list_moves-count : goal.slice_bounds-list_moves-count
slice_bounds-list_moves-count c = omega (arith, c.survey-at.ensures.walked.1, c.requires.ready.0.accepted.activities.1, c.survey-at.auto.path, c.requires.lines_held.5)

pub slice_bounds-list_moves-start : goal.slice_bounds-list_moves-start
slice_bounds-list_moves-start c = omega (arith, c.survey-at.ensures.walked.1, c.requires.ready.0.accepted.activities.1, c.survey-at.auto.path, c.requires.lines_held.5)

pub list_moves-listed-requires : goal.list_moves-listed-requires
list_moves-listed-requires c = (scanned (searched (problem_of (words c.args.s.now) c.args.z) (genes_of (words c.args.s.now) c.args.z) c.requires.ready.0.accepted (lines_in c.args.cells.now c.args.lens) c.requires.ready.1.well c.requires.ready.2 c.requires.ready.0.tabled (neighbours c.requires.lines_held.0 c.requires.lines_held.1 c.requires.lines_held.2) c.args.machines.now c.args.places.now c.requires.lines_held.3 c.requires.lines_held.4 c.requires.lines_held.0.on c.requires.lines_held.0.at c.survey-at.ensures.tailed ((part_is c.survey-at.new.path c.survey-at.result (omega (arith, c.survey-at.ensures.walked.1, c.requires.ready.0.accepted.activities.1, c.survey-at.auto.path, c.requires.lines_held.5))) ∙ c.survey-at.ensures.walked.0)).pathed c.requires.ready.0.accepted.activities.1, (omega (arith, ap length (part_is c.survey-at.new.path c.survey-at.result (omega (arith, c.survey-at.ensures.walked.1, c.requires.ready.0.accepted.activities.1, c.survey-at.auto.path, c.requires.lines_held.5))), length-drop c.survey-at.result c.survey-at.new.path, c.survey-at.ensures.walked.1, c.requires.ready.0.accepted.activities.1, c.survey-at.auto.path, c.requires.lines_held.5)), c.requires.lines_held.8)

pub returns : goal.returns
returns c = let e = ((part_is c.survey-at.new.path c.survey-at.result (omega (arith, c.survey-at.ensures.walked.1, c.requires.ready.0.accepted.activities.1, c.survey-at.auto.path, c.requires.lines_held.5))) ∙ c.survey-at.ensures.walked.0) in
    let pathed = (searched (problem_of (words c.args.s.now) c.args.z) (genes_of (words c.args.s.now) c.args.z) c.requires.ready.0.accepted (lines_in c.args.cells.now c.args.lens) c.requires.ready.1.well c.requires.ready.2 c.requires.ready.0.tabled (neighbours c.requires.lines_held.0 c.requires.lines_held.1 c.requires.lines_held.2) c.args.machines.now c.args.places.now c.requires.lines_held.3 c.requires.lines_held.4 c.requires.lines_held.0.on c.requires.lines_held.0.at c.survey-at.ensures.tailed ((part_is c.survey-at.new.path c.survey-at.result (omega (arith, c.survey-at.ensures.walked.1, c.requires.ready.0.accepted.activities.1, c.survey-at.auto.path, c.requires.lines_held.5))) ∙ c.survey-at.ensures.walked.0)).pathed in
    let short = part_short c.survey-at.new.path c.survey-at.result (omega (arith, c.survey-at.ensures.walked.1, c.requires.ready.0.accepted.activities.1, c.survey-at.auto.path, c.requires.lines_held.5)) (omega (arith, c.survey-at.ensures.walked.1, c.requires.ready.0.accepted.activities.1, c.survey-at.auto.path, c.requires.lines_held.5)) in
    record { counts = (omega (arith, ap length e, ap length (part_is c.survey-at.new.path c.survey-at.result (omega (arith, c.survey-at.ensures.walked.1, c.requires.ready.0.accepted.activities.1, c.survey-at.auto.path, c.requires.lines_held.5))), length-drop c.survey-at.result c.survey-at.new.path, c.survey-at.ensures.walked.1, c.requires.ready.0.accepted.activities.1, c.survey-at.auto.path, c.requires.lines_held.5), moves_counted (problem_of (words c.args.s.now) c.args.z) pathed e short c.list_moves-listed.ensures); path = c.copy_over.ensures ∙ ap (λ l. over l c.args.path.now) e; moves = moves_listed (problem_of (words c.args.s.now) c.args.z) pathed e short c.list_moves-listed.ensures c.requires.lines_held.8 }
