-- What reassignments are worked out from.
use Rattle.std.specs.Prelude.{ℕ, ◌≤◌, ◌<◌, ◌^◌, ◌≡◌, List, [], length, get_or}
use Rattle.graph.specs.Counting.{Below}
use Rattle.plan.specs.Problem.{Problem}
use Rattle.tables.specs.Tabled.{Tabled}
use Rattle.tables.specs.Found.{Held}
use Rattle.lines.specs.Lines.{Lines, machine_of, position_of}
use Rattle.moves.specs.Moves.{line_of}
use Rattle.path.specs.Placing.{Placing, placed}
use Rattle.path.specs.Following.{Addable}
use Rattle.reassign.specs.declared.Way.{Way}
use Rattle.reassign.specs.declared.Leaving.{Leaving}
use Rattle.reassign.specs.Reassignments.{time_on}

-- A placing by its starts and ends: what reassignments are does not depend on the order.
abbrev pub unordered : (starts ends : List ℕ) → Placing
unordered starts ends = placed [] starts ends

-- The table holds some problem of n activities.
pub record Counted (table : List ℕ) (n : ℕ) : Type 0 where
  pub problem : Problem
  pub tabled : Tabled problem table
  pub all : n ≡ problem.n
  pub few : problem.n ≤ 128

-- The table holds some problem that has the activity, with a tail for each, and only activities wait for it.
pub record Awaited (table tail : List ℕ) (a : ℕ) : Type 0 where
  pub held : Held table a
  pub tailed : length tail ≡ held.problem.n
  pub waiting : Below held.problem.n (held.problem.waiting a)

-- Starts, ends and tails that can be reckoned with.
pub record Reckoned (starts ends tail : List ℕ) : Type 0 where
  pub addable : Addable (length tail) starts ends tail
  pub early : (a : ℕ) → get_or ends a 0 < 2 ^ 62

-- A way short enough to be added up.
pub record Short (way : Way) : Type 0 where
  pub head : way.head < 2 ^ 62
  pub time : way.time < 2 ^ 34
  pub rest : way.rest < 2 ^ 62

-- One of n activities that leaves its machine.
pub record Ready (n : ℕ) (l : Leaving) : Type 0 where
  pub known : l.activity < n
  pub machine : l.machine < 16
  pub head : l.head < 2 ^ 62
  pub rest : l.rest < 2 ^ 62

-- A problem in its tables, an activity of it, and machines of it on which the activity's time is not long.
pub record Able (p : Problem) (table : List ℕ) (a : ℕ) (machines : List ℕ) : Type 0 where
  pub tabled : Tabled p table
  pub known : a < p.n
  pub few : p.n ≤ 128
  pub sixteen : p.machines ≤ 16
  pub own : Below p.machines machines
  pub short : (m : ℕ) → m < p.machines → time_on p a m < 2 ^ 34

-- Some problem is so able.
pub record SomeAble (table : List ℕ) (a : ℕ) (machines : List ℕ) : Type 0 where
  pub problem : Problem
  pub able : Able problem table a machines

-- The tables of a problem, each activity's machine and position on lines, and starts, ends and tails of all.
pub record Seen (p : Problem) (lines : Lines) (table machines places starts ends tail : List ℕ) : Type 0 where
  pub tabled : Tabled p table
  pub few : p.n ≤ 128
  pub named : (a : ℕ) → a < p.n → Below p.n (p.predecessors a)
  pub waiting : (a : ℕ) → a < p.n → Below p.n (p.waiting a)
  pub released : (a : ℕ) → a < p.n → p.release a < 2 ^ 62
  pub standing : length machines ≡ p.n
  pub positions : length places ≡ p.n
  pub on : (a : ℕ) → a < p.n → get_or machines a 0 ≡ machine_of lines a
  pub at : (a : ℕ) → a < p.n → get_or places a 0 ≡ position_of lines a
  pub tailed : length tail ≡ p.n
  pub reckoned : Reckoned starts ends tail

-- Some problem and lines of it are so seen.
pub record SomeSeen (table machines places starts ends tail : List ℕ) (a : ℕ) : Type 0 where
  pub problem : Problem
  pub lines : Lines
  pub seen : Seen problem lines table machines places starts ends tail
  pub known : a < problem.n

-- Candidates are machines, no time on one is long, activities stand on machines, and lines are of activities.
pub record Open (p : Problem) (lines : Lines) : Type 0 where
  pub sixteen : p.machines ≤ 16
  pub candidates : (a : ℕ) → a < p.n → Below p.machines (p.candidates a)
  pub short : (a m : ℕ) → a < p.n → m < p.machines → time_on p a m < 2 ^ 34
  pub standing : (a : ℕ) → a < p.n → machine_of lines a < 16
  pub lined : (m : ℕ) → Below p.n (line_of lines m)

-- A problem and its lines so seen and open, and a path of its activities.
pub record Movable (p : Problem) (lines : Lines) (table machines places starts ends tail path : List ℕ) : Type 0 where
  pub seen : Seen p lines table machines places starts ends tail
  pub opened : Open p lines
  pub known : Below p.n path

pub record SomeMovable (lines : Lines) (table machines places starts ends tail path : List ℕ) : Type 0 where
  pub problem : Problem
  pub movable : Movable problem lines table machines places starts ends tail path
