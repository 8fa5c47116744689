-- `tables::lookups::before_of` meets its contract: the activity before is the step before where both have one owner.
use mathlib.Core.Path.{sym, ◌∙◌}
use native.Mathlib.Omega.{arith}
use Rattle.tables.proofs.TaskLaws.{before_none, before_to, before_other}
use Rattle.tables.proofs.lookups.before_of.Goals as goal

pub returns-then-a-eq0 : goal.returns-then-a-eq0
returns-then-a-eq0 c = λ p t h. before_none p _ c.if-a-eq0.true

pub returns-then-owner : goal.returns-then-owner
returns-then-owner c = λ p t h.
    before_to p c.args.a c.if-a-eq0.false (sym (c.owner.ensures p t (omega arith)) ∙ c.if-owner.true ∙ c.owner-2.ensures p t h)

pub returns : goal.returns
returns c = λ p t h.
    before_other p c.args.a (λ e. c.if-owner.false (c.owner.ensures p t (omega arith) ∙ e ∙ sym (c.owner-2.ensures p t h)))
