-- `lines::dealing::deal` meets its contract. The loop's invariant: what is left deals from here what all deals from the start. Assumes nothing.
use Rattle.lines.proofs.DealLaws.{Dealing}
use Rattle.lines.proofs.dealing.deal.Given as goal

abbrev pub invariant-loop-a : goal.invariant-loop-a
invariant-loop-a l = Dealing l.activities l.machines l.initial.cells l.cells l.lens l.a-index
