-- Timed lines, as one search step looks at them: the timing order, and each activity's start and end. What gave them is no part of it.
use Rattle.std.specs.Prelude.{ℕ, ◌-◌, List, get_or}

pub record Placing : Type 0 where
  pub order : List ℕ
  pub starts : List ℕ
  pub ends : List ℕ

abbrev pub placed : (order starts ends : List ℕ) → Placing
placed order starts ends = record { order = order; starts = starts; ends = ends }

abbrev pub start_at : Placing → ℕ → ℕ
start_at s a = get_or s.starts a 0

abbrev pub end_at : Placing → ℕ → ℕ
end_at s a = get_or s.ends a 0

-- The old span of an activity: how long it took in these lines.
abbrev pub span_in : Placing → ℕ → ℕ
span_in s a = end_at s a - start_at s a
