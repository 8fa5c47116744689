-- `sheet::missing` meets its contract. The loop's invariant: the first without a row of the activities from a on is the first of all.
use lib.Dec.{eqb}
use lib.ListN.{get_or}
use Rattle.sheet.proofs.RuleLaws.{Seeking}
use Rattle.sheet.proofs.rules.missing.Given as goal

abbrev pub invariant-loop-a : goal.invariant-loop-a
invariant-loop-a l = Seeking (λ x. eqb (get_or l.firsts x 0) l.count) l.n l.a
