use mathlib.Core.Path.{refl, sym}
use native.Mathlib.Omega.{arith}
use lib.ListN.{replicate}
use lib.Seq.{length-take-le}
use Rattle.words.specs.Words.{words}
use Rattle.plan.specs.Input.{problem_of, genes_of}
use Rattle.genes.proofs.LinesLaws.{misses_machine, misses-naming, misses_nothing, genes_dealable, genes-dealt}
use Rattle.genes.proofs.MachineLaws.{manned_whole}
use Rattle.graph.proofs.BoolLaws.{denied, granted}
use Rattle.genes.proofs.LotLaws.{no_lines, whole_lines, zeros_below}
use Rattle.genes.proofs.deal_lines.Goals as goal

pub returns-then-not-all : goal.returns-then-not-all
returns-then-not-all c = no_lines (problem_of (words c.args.s.now) c.args.z) (genes_of (words c.args.s.now) c.args.z) (misses_machine (problem_of (words c.args.s.now) c.args.z) (genes_of (words c.args.s.now) c.args.z) c.fill_machines-all.ensures.value c.indexed-count.ensures.listed.whole c.if-not-all.true)

pub returns-then-count-z : goal.returns-then-count-z
returns-then-count-z c = no_lines (problem_of (words c.args.s.now) c.args.z) (genes_of (words c.args.s.now) c.args.z) (misses-naming (problem_of (words c.args.s.now) c.args.z) (genes_of (words c.args.s.now) c.args.z) c.fill_machines-all.ensures.value c.indexed-count.ensures.listed.whole c.if-count-z.true)

pub slice_bounds-deal-end : goal.slice_bounds-deal-end
slice_bounds-deal-end c = sym (length-take-le c.indexed-count.result c.indexed-count.new.activities (omega (arith, c.indexed-count.ensures.upper_bound, c.requires.1.activities.1, c.indexed-count.auto.activities)))

pub deal-requires : goal.deal-requires
deal-requires c = genes_dealable c.requires.1 c.indexed-count.ensures.listed.listed (manned_whole c.requires.1 (replicate 128 0) c.requires.1.activities.1 c.fill_machines-all.ensures.machines_after (zeros_below 128 16 (omega arith))) c.requires.2

pub returns : goal.returns
returns c = whole_lines (problem_of (words c.args.s.now) c.args.z) (genes_of (words c.args.s.now) c.args.z) _ (misses_nothing (problem_of (words c.args.s.now) c.args.z) (genes_of (words c.args.s.now) c.args.z) c.fill_machines-all.ensures.value c.indexed-count.ensures.listed.whole c.if-not-all.false c.if-count-z.false) (genes-dealt c.requires.1 c.indexed-count.ensures.listed.listed (manned_whole c.requires.1 (replicate 128 0) c.requires.1.activities.1 c.fill_machines-all.ensures.machines_after (zeros_below 128 16 (omega arith))) c.deal.ensures)
