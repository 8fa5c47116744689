-- `in_order::ready::skip_taken` meets its contract. The loop's invariant: all passed so far are taken.
use Rattle.in_order.proofs.ReadyLaws.{Skipping}
use Rattle.in_order.proofs.ready.skip_taken.Given as goal

abbrev pub invariant-loop-i : goal.invariant-loop-i
invariant-loop-i l = Skipping l.pending l.activities l.from l.i
