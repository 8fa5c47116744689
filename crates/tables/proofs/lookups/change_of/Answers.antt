-- `tables::lookups::change_of` meets its contract: a code of 0 is no entry.
use Rattle.tables.proofs.ChangeLaws.{own_of, change_to, code_at}
use Rattle.tables.proofs.lookups.change_of.Goals as goal

pub returns-then-code-eq0 : goal.returns-then-code-eq0
returns-then-code-eq0 c = λ p t.
    own_of (p.change c.args.m c.args.before c.args.own) _ (code_at p c.args.table.now c.args.m c.args.before c.args.own t c.requires.0 c.requires.1 c.requires.2) c.if-code-eq0.true

pub returns : goal.returns
returns c = λ p t.
    change_to (p.change c.args.m c.args.before c.args.own) _ (code_at p c.args.table.now c.args.m c.args.before c.args.own t c.requires.0 c.requires.1 c.requires.2) c.if-code-eq0.false
