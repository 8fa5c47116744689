-- `sheet::after_named` meets its contract. The loop's invariant: what is left of those named decides as all of them do.
use native.Mathlib.Omega.{arith}
use mathlib.Core.Path.{sym, ◌∙◌}
use Prim.Native.Nat.{◌<◌}
use lib.ListN.{get_or}
use Rattle.graph.proofs.CountingLaws.{below_at}
use Rattle.sheet.proofs.RuleLaws.{asked, refused, goes_on}
use Rattle.sheet.proofs.rules.after_named.Goals as goal

pub offset_bounds-firsts-b : goal.offset_bounds-firsts-b
offset_bounds-firsts-b c = let bound : get_or c.args.named.now c.loop-b.b-index 0 < 128 = below_at 128 c.args.named.now c.loop-b.b-index c.requires.3 c.loop-b-test.true in
    let l = bound in omega arith

pub bounds-firsts-b : goal.bounds-firsts-b
bounds-firsts-b c = let bound : get_or c.args.named.now c.loop-b.b-index 0 < 128 = below_at 128 c.args.named.now c.loop-b.b-index c.requires.3 c.loop-b-test.true in
    let l = bound in omega arith

pub returns-then-not-ends_by : goal.returns-then-not-ends_by
returns-then-not-ends_by c = refused c.loop-b.invariant c.loop-b-test.true (sym c.ends_by.ensures ∙ c.if-not-ends_by.true)

pub loop-b-preserved : goal.loop-b-preserved
loop-b-preserved c = goes_on c.loop-b.invariant c.loop-b-test.true (sym c.ends_by.ensures ∙ c.if-not-ends_by.false)

pub returns : goal.returns
returns c = asked c.loop-b.invariant c.loop-b-test.false
