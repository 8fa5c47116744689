-- `ranking::keep` meets its contract. Assumes nothing.
use mathlib.Core.Path.{sym, ◌∙◌}
use Rattle.ranking.proofs.KeepLaws.{goes_first, goes_second, goes_third, falls_out}
use Rattle.ranking.proofs.keep.Goals as goal

pub returns-then-goes_at : goal.returns-then-goes_at
returns-then-goes_at c = rw c.grown-count.ensures (goes_first c.args.rated c.args.three.first c.args.three.second c.args.three.third c.args.three.count c.args.three.few (sym c.goes_at.ensures ∙ c.if-goes_at.true))

pub returns-then-goes_at-2 : goal.returns-then-goes_at-2
returns-then-goes_at-2 c = rw c.grown-count.ensures (goes_second c.args.rated c.args.three.first c.args.three.second c.args.three.third c.args.three.count c.args.three.few (sym c.goes_at.ensures ∙ c.if-goes_at.false) (sym c.goes_at-2.ensures ∙ c.if-goes_at-2.true))

pub returns-then-goes_at-3 : goal.returns-then-goes_at-3
returns-then-goes_at-3 c = rw c.grown-count.ensures (goes_third c.args.rated c.args.three.first c.args.three.second c.args.three.third c.args.three.count c.args.three.few (sym c.goes_at.ensures ∙ c.if-goes_at.false) (sym c.goes_at-2.ensures ∙ c.if-goes_at-2.false) (sym c.goes_at-3.ensures ∙ c.if-goes_at-3.true))

pub returns : goal.returns
returns c = falls_out c.args.rated c.args.three.first c.args.three.second c.args.three.third c.args.three.count c.args.three.few (sym c.goes_at.ensures ∙ c.if-goes_at.false) (sym c.goes_at-2.ensures ∙ c.if-goes_at-2.false) (sym c.goes_at-3.ensures ∙ c.if-goes_at-3.false)
