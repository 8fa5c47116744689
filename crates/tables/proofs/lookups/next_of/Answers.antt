-- `tables::lookups::next_of` meets its contract: a number below n is the next step, n is none.
use Prim.Native.Nat.{◌+◌}
use mathlib.Core.Path.{sym, ◌∙◌}
use native.Mathlib.Omega.{arith}
use lib.ListN.{get_or}
use Rattle.tables.proofs.TaskLaws.{next_to, next_none}
use Rattle.tables.proofs.RegionLaws.{region_at}
use Rattle.tables.proofs.lookups.next_of.Goals as goal

pub returns-then-b-n : goal.returns-then-b-n
returns-then-b-n c = λ p t e h.
    next_to p c.args.a (get_or c.args.table.now (128 + c.args.a) 0) (sym (region_at c.args.table.now 128 128 c.args.a c.requires.0) ∙ t.followed c.args.a h) (omega (arith, e, c.if-b-n.true))

pub returns : goal.returns
returns c = λ p t e h.
    next_none p c.args.a (get_or c.args.table.now (128 + c.args.a) 0) (sym (region_at c.args.table.now 128 128 c.args.a c.requires.0) ∙ t.followed c.args.a h) (omega (arith, e, c.if-b-n.false))
