-- Ends to reckon with: one for each activity, none later than any placing of an accepted plan can be.
use Rattle.std.specs.Prelude.{ℕ, ◌≤◌, ◌<◌, List, length, get_or}

abbrev pub latest_end : ℕ
latest_end = 1_101_659_110_911

pub record Ended (n : ℕ) (ends : List ℕ) : Type 0 where
  pub each : n ≤ length ends
  pub bounded : (a : ℕ) → a < n → get_or ends a 0 ≤ latest_end
