use Rattle.std.specs.Prelude.{is_some}
use mathlib.Core.Path.{ap, ◌∙◌}
use Rattle.words.specs.Words.{words}
use Rattle.plan.specs.Input.{problem_of, genes_of}
use Rattle.genes.specs.Indexed.{misses}
use Rattle.genes.proofs.LinesLaws.{genes-well_formed}
use Rattle.calls.specs.Outcome.{answer_of}
use Rattle.calls.proofs.SheetLaws.{not_not, not_false, missed_answer, missed_leaves, dealt_on, leaves_as}
use Rattle.calls.proofs.timed.time_genes.Goals as goal

pub returns-in_default : goal.returns-in_default
returns-in_default c = let b = not_false (misses (problem_of (words c.args.s.now) c.args.z) (genes_of (words c.args.s.now) c.args.z)) c.deal_lines.ensures.whole (ap is_some c.in_default.is) in
    record { answer = missed_answer (problem_of (words c.args.s.now) c.args.z) (genes_of (words c.args.s.now) c.args.z) (misses (problem_of (words c.args.s.now) c.args.z) (genes_of (words c.args.s.now) c.args.z)) b; rows = missed_leaves (problem_of (words c.args.s.now) c.args.z) (genes_of (words c.args.s.now) c.args.z) (misses (problem_of (words c.args.s.now) c.args.z) (genes_of (words c.args.s.now) c.args.z)) b }

pub time_lines-requires : goal.time_lines-requires
time_lines-requires c = record { taken = (c.requires.0, c.deal_lines.auto.cells, rw (c.deal_lines.ensures.held _ c.in-Some.is) (genes-well_formed c.requires.0.accepted (not_not (misses (problem_of (words c.args.s.now) c.args.z) (genes_of (words c.args.s.now) c.args.z)) c.deal_lines.ensures.whole (ap is_some c.in-Some.is)))); roomy = c.requires.1 }

pub returns : goal.returns
returns c = let e = dealt_on (problem_of (words c.args.s.now) c.args.z) (genes_of (words c.args.s.now) c.args.z) (misses (problem_of (words c.args.s.now) c.args.z) (genes_of (words c.args.s.now) c.args.z)) (not_not (misses (problem_of (words c.args.s.now) c.args.z) (genes_of (words c.args.s.now) c.args.z)) c.deal_lines.ensures.whole (ap is_some c.in-Some.is)) (c.deal_lines.ensures.held _ c.in-Some.is) in
    record { answer = c.time_lines.ensures.answer ∙ ap answer_of e; rows = leaves_as e c.time_lines.ensures.rows }
