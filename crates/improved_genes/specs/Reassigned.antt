-- Document 01, "One search step": moves whose lines contradict do not count. A reassignment's lines never do.
use Rattle.std.specs.Prelude.{ℕ, ◌<◌, ◌≡◌, false, List, length, get_or}
use Rattle.plan.specs.Problem.{Problem}
use Rattle.lines.specs.Lines.{Lines}
use Rattle.moves.specs.Moves.{applied}
use Rattle.ranking.specs.declared.held.Rated.{Rated}
use Rattle.timing.specs.Timing.{contradicts}
use Rattle.path.specs.Path.{critical_path}
use Rattle.path.specs.Tails.{tails}
use Rattle.reassign.specs.Reassignments.{reassignments}
use Rattle.search.specs.Step.{placing_of, others_by}

-- all reassignments of a step's path
abbrev pub reassignments_of : Problem → Lines → List Rated
reassignments_of p lines =
    reassignments p lines (placing_of p lines) (tails p lines (placing_of p lines)) (critical_path p lines (placing_of p lines))

-- the lines of each of a list's moves can be timed
abbrev pub AllPossible : Problem → Lines → List Rated → Type 0
AllPossible p lines l = (k : ℕ) (other : Rated) → k < length l → contradicts p (applied (get_or l k other).made lines) ≡ false

pub record NeverContradict (p : Problem) (lines : Lines) : Type 0 where
  pub all : AllPossible p lines (reassignments_of p lines)
  pub tried : AllPossible p lines (others_by p lines (placing_of p lines))
