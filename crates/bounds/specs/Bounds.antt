-- Document 01, "Timing and fitness": what an activity's setup, span, arrival and tardiness are.
use Rattle.std.specs.Prelude.{ℕ, ◌+◌, ℤ, pos, ◌-ℤ◌, Some, None, Option, unwrap_or}
use Rattle.words.specs.Signed.{clamp}
use Rattle.plan.specs.Problem.{Problem}

-- The category of an activity's task; 8 where nothing ran before.
abbrev pub category_before : Problem → Option ℕ → ℕ
category_before p None = 8
category_before p (Some a) = p.category (p.task_of a)

-- The Setups entry for the machine, what ran before on it, and the activity's own category, if present; else the activity's own setup.
abbrev pub setup_of : Problem → (activity machine : ℕ) → (before : Option ℕ) → ℕ
setup_of p a m before = unwrap_or (p.change m (category_before p before) (p.category (p.task_of a))) (p.setup a m)

-- Setup, process and teardown on its machine, after the setup given.
abbrev pub span_of : Problem → (activity machine setup : ℕ) → ℕ
span_of p a m setup = setup + p.process a m + p.teardown a m

-- When an activity can be at its machine: the end of the step before plus the way from there; 0 with no step before.
abbrev pub arrival_of : Option ℕ → (ends : ℕ → ℕ) → (way : ℕ) → ℕ
arrival_of None ends way = 0
arrival_of (Some t) ends way = ends t + way

-- Completion less deadline, 0 if negative or without a deadline.
abbrev pub tardiness_of : ℕ → Option ℤ → ℕ
tardiness_of completion None = 0
tardiness_of completion (Some d) = clamp (pos completion -ℤ d)
