-- A plan of four activities: a line link and a task link for each, and at most three pairs of an activity and one that it names.
use Rattle.std.specs.Prelude.{◌≡◌, List, ℕ, ◌≤◌, length}
use Rattle.graph.specs.Counting.{Below}

pub record Plan (line task acts preds : List ℕ) : Type 0 where
  pub lined : length line ≡ 4
  pub tasked : length task ≡ 4
  pub even : length preds ≡ length acts
  pub few : length acts ≤ 3
  pub known : Below 4 acts
  pub named : Below 4 preds
