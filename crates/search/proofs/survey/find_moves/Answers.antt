use Prim.Native.Nat.{ℕ}
use mathlib.Core.Path.{◌∙◌, subst}
use mathlib.Core.List.{List}
use Rattle.graph.specs.Counting.{Below}
use Rattle.moves.proofs.CellLaws.{many_in}
use Rattle.blocks.specs.Scanning.{Pathed}
use Rattle.search.proofs.StepLaws.{blocks_allowed, others_allowed}
use native.Mathlib.Omega.{arith}
use Rattle.words.specs.Words.{words}
use Rattle.plan.specs.Input.{problem_of, genes_of}
use Rattle.lines.specs.Lines.{lines_in}
use Rattle.lines.proofs.LinkingLoops.{fit_well}
use Rattle.timing.proofs.TimedLaws.{neighbours}
use Rattle.reassign.proofs.MetLaws.{accepted_open}
use Rattle.search.proofs.SurveyLaws.{searched, seen, path_known, blocks_are, others_are, part_is}
use Rattle.search.proofs.survey.find_moves.Goals as goal

pub survey-at-requires : goal.survey-at-requires
survey-at-requires c = record { ready = (c.requires.ready.0, c.requires.ready.1, c.requires.ready.2); lines_held = (c.requires.lines_held.0, c.requires.lines_held.1.length_before, c.requires.lines_held.1.length-after, c.requires.lines_held.1.length-machines, c.requires.lines_held.1.length-places, c.requires.lines_held.1.length_path, c.requires.lines_held.1.length_tail) }

pub offset_bounds-path-at : goal.offset_bounds-path-at
offset_bounds-path-at c = omega (arith, c.survey-at.ensures.walked.1, c.requires.ready.0.accepted.activities.1, c.survey-at.auto.path, c.requires.lines_held.1.length_path)

pub slice_bounds-block_moves-count : goal.slice_bounds-block_moves-count
slice_bounds-block_moves-count c = omega (arith, c.survey-at.ensures.walked.1, c.requires.ready.0.accepted.activities.1, c.survey-at.auto.path, c.requires.lines_held.1.length_path)

pub slice_bounds-block_moves-start : goal.slice_bounds-block_moves-start
slice_bounds-block_moves-start c = omega (arith, c.survey-at.ensures.walked.1, c.requires.ready.0.accepted.activities.1, c.survey-at.auto.path, c.requires.lines_held.1.length_path)

pub block_moves-blocks-requires : goal.block_moves-blocks-requires
block_moves-blocks-requires c = (record { problem = (problem_of (words c.args.s.now) c.args.z); searched = (searched (problem_of (words c.args.s.now) c.args.z) (genes_of (words c.args.s.now) c.args.z) c.requires.ready.0.accepted (lines_in c.args.cells.now c.args.lens) c.requires.ready.1.well c.requires.ready.2 c.requires.ready.0.tabled (neighbours c.requires.lines_held.0 c.requires.lines_held.1.length_before c.requires.lines_held.1.length-after) c.args.machines.now c.args.places.now c.requires.lines_held.1.length-machines c.requires.lines_held.1.length-places c.requires.lines_held.0.on c.requires.lines_held.0.at c.survey-at.ensures.tailed (part_is c.survey-at.new.path c.survey-at.result (omega (arith, c.survey-at.ensures.walked.1, c.requires.ready.0.accepted.activities.1, c.survey-at.auto.path, c.requires.lines_held.1.length_path)) ∙ c.survey-at.ensures.walked.0)) }, record { roomy = c.requires.ready.1.roomy; sixteen = c.requires.ready.1.sixteen; fit = fit_well c.args.cells.now c.args.lens c.requires.ready.1.well }, c.requires.lines_held.1.length_heads)

pub offset_bounds-path-at-2 : goal.offset_bounds-path-at-2
offset_bounds-path-at-2 c = omega (arith, c.survey-at.ensures.walked.1, c.requires.ready.0.accepted.activities.1, c.survey-at.auto.path, c.requires.lines_held.1.length_path)

pub slice_bounds-reassignments-count : goal.slice_bounds-reassignments-count
slice_bounds-reassignments-count c = omega (arith, c.survey-at.ensures.walked.1, c.requires.ready.0.accepted.activities.1, c.survey-at.auto.path, c.requires.lines_held.1.length_path)

pub slice_bounds-reassignments-start : goal.slice_bounds-reassignments-start
slice_bounds-reassignments-start c = omega (arith, c.survey-at.ensures.walked.1, c.requires.ready.0.accepted.activities.1, c.survey-at.auto.path, c.requires.lines_held.1.length_path)

pub reassignments-others-requires : goal.reassignments-others-requires
reassignments-others-requires c = record { choices_value = (c.requires.ready.3, c.requires.ready.0.placed, record { roomy = c.requires.ready.1.roomy; sixteen = c.requires.ready.1.sixteen; fit = fit_well c.args.cells.now c.args.lens c.requires.ready.1.well }, accepted_open c.requires.ready.0.accepted c.requires.ready.1.well, path_known (problem_of (words c.args.s.now) c.args.z) (genes_of (words c.args.s.now) c.args.z) c.requires.ready.0.accepted (lines_in c.args.cells.now c.args.lens) c.requires.ready.1.well c.requires.ready.2 c.requires.ready.0.tabled (neighbours c.requires.lines_held.0 c.requires.lines_held.1.length_before c.requires.lines_held.1.length-after) c.args.machines.now c.args.places.now c.requires.lines_held.1.length-machines c.requires.lines_held.1.length-places c.requires.lines_held.0.on c.requires.lines_held.0.at c.requires.ready.0.transports (part_is c.survey-at.new.path c.survey-at.result (omega (arith, c.survey-at.ensures.walked.1, c.requires.ready.0.accepted.activities.1, c.survey-at.auto.path, c.requires.lines_held.1.length_path)) ∙ c.survey-at.ensures.walked.0)); seen = seen (problem_of (words c.args.s.now) c.args.z) (genes_of (words c.args.s.now) c.args.z) c.requires.ready.0.accepted (lines_in c.args.cells.now c.args.lens) c.requires.ready.1.well c.requires.ready.2 c.requires.ready.0.tabled (neighbours c.requires.lines_held.0 c.requires.lines_held.1.length_before c.requires.lines_held.1.length-after) c.args.machines.now c.args.places.now c.requires.lines_held.1.length-machines c.requires.lines_held.1.length-places c.requires.lines_held.0.on c.requires.lines_held.0.at c.survey-at.ensures.tailed }

pub shape_of-path : goal.shape_of-path
shape_of-path c = c.survey-at.auto.path

pub shape_of-tail : goal.shape_of-tail
shape_of-tail c = c.survey-at.auto.tail

pub returns : goal.returns
returns c = let bs = blocks_are (problem_of (words c.args.s.now) c.args.z) (genes_of (words c.args.s.now) c.args.z) c.requires.ready.0.accepted (lines_in c.args.cells.now c.args.lens) c.requires.ready.1.well c.requires.ready.2 c.survey-at.ensures.tailed (part_is c.survey-at.new.path c.survey-at.result (omega (arith, c.survey-at.ensures.walked.1, c.requires.ready.0.accepted.activities.1, c.survey-at.auto.path, c.requires.lines_held.1.length_path)) ∙ c.survey-at.ensures.walked.0) (c.block_moves-blocks.ensures (problem_of (words c.args.s.now) c.args.z) c.args.order.now (searched (problem_of (words c.args.s.now) c.args.z) (genes_of (words c.args.s.now) c.args.z) c.requires.ready.0.accepted (lines_in c.args.cells.now c.args.lens) c.requires.ready.1.well c.requires.ready.2 c.requires.ready.0.tabled (neighbours c.requires.lines_held.0 c.requires.lines_held.1.length_before c.requires.lines_held.1.length-after) c.args.machines.now c.args.places.now c.requires.lines_held.1.length-machines c.requires.lines_held.1.length-places c.requires.lines_held.0.on c.requires.lines_held.0.at c.survey-at.ensures.tailed (part_is c.survey-at.new.path c.survey-at.result (omega (arith, c.survey-at.ensures.walked.1, c.requires.ready.0.accepted.activities.1, c.survey-at.auto.path, c.requires.lines_held.1.length_path)) ∙ c.survey-at.ensures.walked.0))) in
    let os = others_are (problem_of (words c.args.s.now) c.args.z) (genes_of (words c.args.s.now) c.args.z) c.requires.ready.0.accepted (lines_in c.args.cells.now c.args.lens) c.requires.ready.1.well c.requires.ready.2 c.survey-at.ensures.tailed (part_is c.survey-at.new.path c.survey-at.result (omega (arith, c.survey-at.ensures.walked.1, c.requires.ready.0.accepted.activities.1, c.survey-at.auto.path, c.requires.lines_held.1.length_path)) ∙ c.survey-at.ensures.walked.0) (c.reassignments-others.ensures c.args.order.now) in
    let known = path_known (problem_of (words c.args.s.now) c.args.z) (genes_of (words c.args.s.now) c.args.z) c.requires.ready.0.accepted (lines_in c.args.cells.now c.args.lens) c.requires.ready.1.well c.requires.ready.2 c.requires.ready.0.tabled (neighbours c.requires.lines_held.0 c.requires.lines_held.1.length_before c.requires.lines_held.1.length-after) c.args.machines.now c.args.places.now c.requires.lines_held.1.length-machines c.requires.lines_held.1.length-places c.requires.lines_held.0.on c.requires.lines_held.0.at c.requires.ready.0.transports (part_is c.survey-at.new.path c.survey-at.result (omega (arith, c.survey-at.ensures.walked.1, c.requires.ready.0.accepted.activities.1, c.survey-at.auto.path, c.requires.lines_held.1.length_path)) ∙ c.survey-at.ensures.walked.0) in
    record {
      blocks = bs;
      others = os;
      allowed = (
        blocks_allowed (problem_of (words c.args.s.now) c.args.z) (lines_in c.args.cells.now c.args.lens) (subst (λ (l : List ℕ). Pathed (problem_of (words c.args.s.now) c.args.z).n (lines_in c.args.cells.now c.args.lens) l c.args.machines.now c.args.places.now) (part_is c.survey-at.new.path c.survey-at.result (omega (arith, c.survey-at.ensures.walked.1, c.requires.ready.0.accepted.activities.1, c.survey-at.auto.path, c.requires.lines_held.1.length_path)) ∙ c.survey-at.ensures.walked.0) (searched (problem_of (words c.args.s.now) c.args.z) (genes_of (words c.args.s.now) c.args.z) c.requires.ready.0.accepted (lines_in c.args.cells.now c.args.lens) c.requires.ready.1.well c.requires.ready.2 c.requires.ready.0.tabled (neighbours c.requires.lines_held.0 c.requires.lines_held.1.length_before c.requires.lines_held.1.length-after) c.args.machines.now c.args.places.now c.requires.lines_held.1.length-machines c.requires.lines_held.1.length-places c.requires.lines_held.0.on c.requires.lines_held.0.at c.survey-at.ensures.tailed (part_is c.survey-at.new.path c.survey-at.result (omega (arith, c.survey-at.ensures.walked.1, c.requires.ready.0.accepted.activities.1, c.survey-at.auto.path, c.requires.lines_held.1.length_path)) ∙ c.survey-at.ensures.walked.0)).pathed) c.block_moves-blocks.result bs,
        others_allowed (problem_of (words c.args.s.now) c.args.z) (lines_in c.args.cells.now c.args.lens) c.requires.ready.0.accepted (many_in c.args.cells.now c.args.lens ∙ c.requires.ready.1.sixteen) c.requires.ready.1.well (subst (λ (l : List ℕ). Below (problem_of (words c.args.s.now) c.args.z).n l) (part_is c.survey-at.new.path c.survey-at.result (omega (arith, c.survey-at.ensures.walked.1, c.requires.ready.0.accepted.activities.1, c.survey-at.auto.path, c.requires.lines_held.1.length_path)) ∙ c.survey-at.ensures.walked.0) known) c.reassignments-others.result os,
      );
    }
