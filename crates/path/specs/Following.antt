-- What tails are worked out from.
use Rattle.std.specs.Prelude.{ℕ, ◌+◌, ◌-◌, ◌^◌, ◌≤◌, ◌<◌, ◌≡◌, List, length, get_or}
use Rattle.graph.specs.Counting.{Below}
use Rattle.graph.specs.Links.{link_of}
use Rattle.plan.specs.Problem.{Problem}
use Rattle.tables.specs.Tabled.{Tabled}
use Rattle.tables.specs.Found.{Held}
use Rattle.lines.specs.Lines.{Lines, line_succ}
use Rattle.path.specs.Placing.{Placing, start_at, end_at, span_in}

-- Spans and tails of n activities, small enough to be added.
pub record Addable (n : ℕ) (starts ends tail : List ℕ) : Type 0 where
  pub started : length starts ≡ n
  pub ended : length ends ≡ n
  pub tailed : length tail ≡ n
  pub upright : (a : ℕ) → a < n → get_or starts a 0 ≤ get_or ends a 0
  pub small : (a : ℕ) → a < n → get_or ends a 0 - get_or starts a 0 + get_or tail a 0 < 2 ^ 62

-- The table holds some problem that has the activity, for which activities only wait, with a link to each one's line successor and a tail
-- of each.
pub record Freed (table after tail : List ℕ) (a : ℕ) : Type 0 where
  pub held : Held table a
  pub linked : length after ≡ held.problem.n
  pub tailed : length tail ≡ held.problem.n
  pub waiting : Below held.problem.n (held.problem.waiting a)

-- The tables of a problem, links to the line successors of its lines, and a placing of all its activities whose spans are short.
pub record Followed (p : Problem) (lines : Lines) (table after : List ℕ) (s : Placing) : Type 0 where
  pub tabled : Tabled p table
  pub few : p.n ≤ 128
  pub waiting : (a : ℕ) → a < p.n → Below p.n (p.waiting a)
  pub linked : length after ≡ p.n
  pub succs : (a : ℕ) → a < p.n → link_of after a ≡ line_succ lines a
  pub ordered : length s.order ≡ p.n
  pub started : length s.starts ≡ p.n
  pub ended : length s.ends ≡ p.n
  pub activities : Below p.n s.order
  pub upright : (a : ℕ) → a < p.n → start_at s a ≤ end_at s a
  pub short : (a : ℕ) → a < p.n → span_in s a < 2 ^ 34

-- Some problem and lines of it are so followed, with a tail for each activity.
pub record Tailed (table after tail : List ℕ) (s : Placing) : Type 0 where
  pub problem : Problem
  pub lines : Lines
  pub followed : Followed problem lines table after s
  pub sized : length tail ≡ problem.n
