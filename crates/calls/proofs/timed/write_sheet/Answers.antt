use Prim.Native.Nat.{ℕ}
use mathlib.Core.Path.{sym, ◌∙◌, subst}
use lib.ListN.{drop, replicate}
use Rattle.words.specs.Words.{words}
use Rattle.graph.specs.Counting.{Below}
use Rattle.plan.specs.Input.{problem_of, genes_of}
use Rattle.lines.specs.Lines.{lines_in}
use Rattle.calls.proofs.PrefixLaws.{lent, prefix_is, prefix_length}
use Rattle.calls.proofs.SheetLaws.{order_known, begun-length, done_length, sheet_is, written_as}
use Rattle.calls.proofs.timed.write_sheet.Goals as goal

pub write-requires-clause-below : goal.write-requires-clause-below
write-requires-clause-below c = let known = order_known (problem_of (words c.args.s.now) c.args.z) (genes_of (words c.args.s.now) c.args.z) c.requires.taken.0.accepted (lines_in c.args.cells.now c.args.lens) c.requires.taken.1 c.requires.seated.0 c.requires.seated.1 in (
  subst (λ (k : ℕ). Below k c.args.order.now) (sym c.requires.seated.0.length-machines) known,
  subst (λ (k : ℕ). Below k c.args.order.now) (sym (begun-length (problem_of (words c.args.s.now) c.args.z) (genes_of (words c.args.s.now) c.args.z) c.requires.taken.0.accepted (lines_in c.args.cells.now c.args.lens) c.requires.taken.1 c.requires.seated.0 c.requires.seated.1)) known,
  subst (λ (k : ℕ). Below k c.args.order.now) (sym (done_length (problem_of (words c.args.s.now) c.args.z) (genes_of (words c.args.s.now) c.args.z) c.requires.taken.0.accepted (lines_in c.args.cells.now c.args.lens) c.requires.taken.1 c.requires.seated.0 c.requires.seated.1)) known,
  subst (λ (k : ℕ). Below k c.args.order.now) (prefix_length c.args.z.activities c.fill_setups.new.setups (drop c.args.z.activities (replicate 128 0)) (c.fill_setups.auto.setups ∙ lent c.args.z.activities c.requires.taken.0.accepted.activities.1)) known,
)

pub returns : goal.returns
returns c = let e = sheet_is (problem_of (words c.args.s.now) c.args.z) (genes_of (words c.args.s.now) c.args.z) c.requires.taken.0.accepted (lines_in c.args.cells.now c.args.lens) c.requires.taken.1 c.requires.seated.0 c.requires.seated.1 (prefix_is c.args.z.activities c.fill_setups.new.setups (drop c.args.z.activities (replicate 128 0)) (c.fill_setups.auto.setups ∙ lent c.args.z.activities c.requires.taken.0.accepted.activities.1) ∙ c.fill_setups.ensures) in
    written_as e c.write.ensures
