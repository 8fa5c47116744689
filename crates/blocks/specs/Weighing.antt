-- What estimates are worked out from.
use Rattle.std.specs.Prelude.{ℕ, ◌+◌, ◌-◌, ◌^◌, ◌≤◌, ◌<◌, ◌≡◌, List, length, get_or}
use Rattle.graph.specs.Counting.{Below}
use Rattle.plan.specs.Problem.{Problem}
use Rattle.tables.specs.Tabled.{Tabled}
use Rattle.tables.specs.Found.{Held}
use Rattle.path.specs.Placing.{Placing}
use Rattle.blocks.specs.Estimates.{head_of, ready_after}

-- The tables of a problem, with a start and an end of each activity: none is late, no span is long.
pub record Weighed (p : Problem) (table starts ends : List ℕ) : Type 0 where
  pub tabled : Tabled p table
  pub few : p.n ≤ 128
  pub started : length starts ≡ p.n
  pub ended : length ends ≡ p.n
  pub upright : (a : ℕ) → a < p.n → get_or starts a 0 ≤ get_or ends a 0
  pub early : (a : ℕ) → get_or ends a 0 < 2 ^ 41
  pub short : (a : ℕ) → a < p.n → get_or ends a 0 - get_or starts a 0 < 2 ^ 34
  pub released : (a : ℕ) → p.release a < 2 ^ 32

-- A tail of each activity, none long.
pub record Low (n : ℕ) (tail : List ℕ) : Type 0 where
  pub tailed : length tail ≡ n
  pub low : (a : ℕ) → get_or tail a 0 ≤ 2 ^ 41

-- Activities on a line that fits its stretch of cells.
pub record Lined (n : ℕ) (line : List ℕ) : Type 0 where
  pub standing : Below n line
  pub short : length line ≤ 128

-- One goes from a position of a line to another; both lie among positions first..last.
pub record Reordering (line : List ℕ) (from to first last : ℕ) : Type 0 where
  pub leaves : from < length line
  pub enters : to < length line
  pub rising : first ≤ last
  pub within : last < length line

-- The table holds some problem that has the activity, and there is an end of each.
pub record Known (table ends : List ℕ) (a : ℕ) : Type 0 where
  pub held : Held table a
  pub ended : length ends ≡ held.problem.n

-- Some problem is so weighed, and the line's activities are its own.
pub record Headed (table starts ends line : List ℕ) : Type 0 where
  pub problem : Problem
  pub weighed : Weighed problem table starts ends
  pub lined : Lined problem.n line

pub record Estimable (table starts ends tail line : List ℕ) : Type 0 where
  pub problem : Problem
  pub weighed : Weighed problem table starts ends
  pub low : Low problem.n tail
  pub lined : Lined problem.n line

-- The head of each activity in positions first..last of a line, where `ready` is the head plus span before them.
pub record HeadsHeld (p : Problem) (s : Placing) (line : List ℕ) (ready first last : ℕ) (heads : List ℕ) : Type 0 where
  pub at : (j : ℕ) → first + j ≤ last → get_or heads (first + j) 0 ≡ head_of p s (ready_after p s line ready first j) (get_or line (first + j) 0)
