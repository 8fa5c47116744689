-- `path::following::tails` meets its contract. The loop's invariant, for whatever problem and lines are followed: setting what is left
-- gives all tails.
use Prim.Native.Nat.{◌≤◌}
use mathlib.Core.Path.{◌≡◌}
use lib.ListN.{length}
use Rattle.plan.specs.Problem.{Problem}
use Rattle.lines.specs.Lines.{Lines}
use Rattle.path.specs.Placing.{placed}
use Rattle.path.specs.Following.{Followed}
use Rattle.path.proofs.SettingLaws.{Setting}
use Rattle.path.proofs.following.tails.Given as goal

abbrev pub invariant-loop-i : goal.invariant-loop-i
invariant-loop-i l = (l.i ≤ length l.order)
    × (length l.tail ≡ length l.initial.tail)
    × ((p : Problem) (lines : Lines) → Followed p lines l.table l.after (placed l.order l.starts l.ends) → length l.initial.tail ≡ p.n → Setting p lines (placed l.order l.starts l.ends) l.tail l.i)
