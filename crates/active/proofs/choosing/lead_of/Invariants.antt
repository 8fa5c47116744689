-- `active::choosing::lead_of` meets its contract. The loop's invariant: the lead of the rest and the best so far is the lead of all.
use Prim.Native.Nat.{◌+◌}
use Rattle.active.specs.Kept.{seat_in}
use Rattle.active.proofs.ChoiceLaws.{Leading}
use Rattle.active.proofs.choosing.lead_of.Given as goal

abbrev pub invariant-loop-t : goal.invariant-loop-t
invariant-loop-t l = Leading l.ranks (seat_in l.kept) l.n l.tasks l.best (l.t-index + 1)
