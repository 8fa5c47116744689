-- Document 01, "Timing and fitness": a task is complete at the latest of its placed ends, at 0 if none is placed, and the makespan is the
-- latest completion. A task's tardiness is its completion less its deadline, never negative. The fitness is (1 - w) times the makespan plus w
-- times the sum of the tardinesses; that sum is exact, and each of the four float operations rounds once.
-- An activity that is not placed has the end 0.
use Rattle.std.specs.Prelude.{ℕ, zero, suc, ◌+◌, max, Bool, false, ◌&&◌, pos, Float}
use Rattle.std.specs.Float.{fin, binary64}
use Rattle.std.specs.Float.Ieee.{add, sub, mul, of_int, le}
use Rattle.plan.specs.Problem.{Problem}
use Rattle.bounds.specs.Bounds.{tardiness_of}
use Rattle.fitness.specs.declared.Sums.{Sums}

-- The greatest of f at k numbers from `from` on, 0 of none.
unfoldable pub latest : (f : ℕ → ℕ) → (from k : ℕ) → ℕ
latest f from zero = 0
latest f from (suc k) = max (latest f from k) (f (from + k))

-- The sum of f at the first k numbers.
unfoldable pub sum_to : (f : ℕ → ℕ) → (k : ℕ) → ℕ
sum_to f zero = 0
sum_to f (suc k) = sum_to f k + f k

module _ (p : Problem) (ends : ℕ → ℕ) where
  abbrev pub completion_of : (task : ℕ) → ℕ
  completion_of t = latest ends (p.first t) (p.steps t)

  abbrev pub makespan_of : ℕ
  makespan_of = latest completion_of 0 p.tasks

  abbrev pub lateness : (task : ℕ) → ℕ
  lateness t = tardiness_of (completion_of t) (p.deadline t)

  abbrev pub late_of : ℕ
  late_of = sum_to lateness p.tasks

  -- Both numbers, as one pass over the tasks gives them.
  abbrev pub sums_of : Sums
  sums_of = record { makespan = makespan_of; late = late_of }

-- 0 and 1 as floats.
abbrev pub zero_f : Float
zero_f = fin false 0 (pos 0)

abbrev pub one_f : Float
one_f = fin false 1 (pos 0)

-- (1 - w) * makespan + w * late, each operation rounded once.
abbrev pub weighted : (w : Float) → (makespan late : ℕ) → Float
weighted w makespan late =
    add binary64 (mul binary64 (sub binary64 one_f w) (of_int binary64 (pos makespan)))
    (mul binary64 w (of_int binary64 (pos late)))

abbrev pub fitness_of : Problem → (ends : ℕ → ℕ) → Float
fitness_of p ends = weighted p.weight (makespan_of p ends) (late_of p ends)

-- From 0 to 1, -0 among them; no NaN is.
abbrev pub in_unit : Float → Bool
in_unit w = le zero_f w && le w one_f
