-- What the lookups answer, and what they ask.
use Rattle.std.specs.Prelude.{ℕ, ◌≤◌, ◌<◌, List}
use Rattle.plan.specs.Problem.{Problem}
use Rattle.tables.specs.Tabled.{Tabled}

-- The table holds some problem that has the activity.
pub record Held (table : List ℕ) (a : ℕ) : Type 0 where
  pub problem : Problem
  pub tabled : Tabled problem table
  pub known : a < problem.n
  pub few : problem.n ≤ 128
