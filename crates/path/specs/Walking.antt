-- What the walk back looks things up in, and why it comes to an end.
use Rattle.std.specs.Prelude.{ℕ, ◌^◌, ◌≤◌, ◌<◌, ◌≡◌, List, length, get_or, Some}
use Rattle.graph.specs.Counting.{Below}
use Rattle.graph.specs.Links.{link_of}
use Rattle.plan.specs.Problem.{Problem}
use Rattle.plan.specs.Found.{transports_of}
use Rattle.tables.specs.Tabled.{Tabled}
use Rattle.tables.specs.Found.{Held}
use Rattle.lines.specs.Lines.{Lines, line_pred, machine_of}
use Rattle.path.specs.Placing.{Placing}
use Rattle.path.specs.Path.{back_of}

-- Each step back falls to an activity of a lower rank, so that the walk is no longer than there are ranks.
pub record Falling (p : Problem) (lines : Lines) (s : Placing) : Type 0 where
  pub rank : ℕ → ℕ
  pub low : (a : ℕ) → a < p.n → rank a < p.n
  pub falls : (a q : ℕ) → a < p.n → back_of p lines s a ≡ Some q → rank q < rank a

-- The table holds some problem that has the activity, which names activities only, and there is an end for each of them.
pub record Backed (table ends : List ℕ) (a : ℕ) : Type 0 where
  pub held : Held table a
  pub ended : length ends ≡ held.problem.n
  pub named : Below held.problem.n (held.problem.predecessors a)

-- The tables of a problem, links to the line predecessors of its lines, each activity's machine there, and the transports.
pub record Shown (p : Problem) (lines : Lines) (table before machines : List ℕ) (ways : List (List ℕ)) : Type 0 where
  pub tabled : Tabled p table
  pub few : p.n ≤ 128
  pub named : (a : ℕ) → a < p.n → Below p.n (p.predecessors a)
  pub linked : length before ≡ p.n
  pub preds : (a : ℕ) → a < p.n → link_of before a ≡ line_pred lines a
  pub standing : length machines ≡ p.n
  pub owned : (a : ℕ) → a < p.n → get_or machines a 0 ≡ machine_of lines a
  pub known : (a : ℕ) → a < p.n → machine_of lines a < p.machines
  pub machines_few : p.machines ≤ 16
  pub transports : ways ≡ transports_of p

-- .. and a placing of all its activities, from whose ends a walk back comes to an end.
pub record Walkable (p : Problem) (lines : Lines) (table before machines : List ℕ) (ways : List (List ℕ)) (s : Placing) : Type 0 where
  pub shown : Shown p lines table before machines ways
  pub some : 0 < p.n
  pub ordered : length s.order ≡ p.n
  pub started : length s.starts ≡ p.n
  pub ended : length s.ends ≡ p.n
  pub activities : Below p.n s.order
  pub early : (a : ℕ) → get_or s.ends a 0 < 2 ^ 62
  pub falling : Falling p lines s

-- Some problem and lines of it are so shown.
pub record Walked (table before machines : List ℕ) (ways : List (List ℕ)) (s : Placing) : Type 0 where
  pub problem : Problem
  pub lines : Lines
  pub walkable : Walkable problem lines table before machines ways s
