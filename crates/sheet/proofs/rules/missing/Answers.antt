-- `sheet::missing` meets its contract. The loop's invariant: the first without a row of the activities from a on is the first of all.
use lib.ListN.{get_or}
use borrow.Author.Tests.{eq-eqb, ne_eqb}
use Rattle.sheet.proofs.RuleLaws.{found, seeks_on, none_found}
use Rattle.sheet.proofs.rules.missing.Goals as goal

pub returns-then-firsts-a : goal.returns-then-firsts-a
returns-then-firsts-a c = found c.loop-a.invariant c.loop-a-test.true (eq-eqb (get_or c.args.firsts.now c.loop-a.a 0) c.args.count c.if-firsts-a.true)

pub loop-a-preserved : goal.loop-a-preserved
loop-a-preserved c = seeks_on c.loop-a.invariant c.loop-a-test.true (ne_eqb (get_or c.args.firsts.now c.loop-a.a 0) c.args.count c.if-firsts-a.false)

pub returns : goal.returns
returns c = none_found c.loop-a.invariant c.loop-a-test.false
