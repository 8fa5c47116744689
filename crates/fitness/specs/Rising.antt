-- Ends as timing leaves them: within a task no step ends before the one that it follows.
use Rattle.std.specs.Prelude.{ℕ, ◌+◌, ◌≤◌, ◌<◌, ◌≡◌, List, get_or}
use Rattle.plan.specs.Problem.{Problem}
use Rattle.fitness.specs.declared.Row.{Row}

pub record Rising (p : Problem) (ends : List ℕ) : Type 0 where
  pub rises : (a : ℕ) → a + 1 < p.n → p.task_of a ≡ p.task_of (a + 1) → get_or ends a 0 ≤ get_or ends (a + 1) 0

-- The three words of a task's row from `at` on.
abbrev pub row_from : (words : List ℕ) → (at : ℕ) → Row
row_from ws at = record { dated = get_or ws at 0; deadline = get_or ws (at + 1) 0; steps = get_or ws (at + 2) 0 }
