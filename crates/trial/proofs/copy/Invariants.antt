-- `trial::copy` meets its contract. The loop's invariant: the first i are copied. Assumes nothing.
use mathlib.Core.Path.{◌≡◌}
use lib.ListN.{length}
use Rattle.trial.proofs.CopyLaws.{copied}
use Rattle.trial.proofs.copy.Given as goal

abbrev pub invariant-loop-i : goal.invariant-loop-i
invariant-loop-i g l = (length l.to ≡ length l.from) × (l.to ≡ copied l.i l.from l.initial.to)
