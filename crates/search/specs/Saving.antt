-- Document 01, "One search step": a new strict best saves timing order and assignment. The order is saved as task numbers.
use Rattle.std.specs.Prelude.{ℕ, List, [], ◌∷◌}
use Rattle.plan.specs.Problem.{Problem}

unfoldable pub tasks_of : Problem → (order : List ℕ) → List ℕ
tasks_of p [] = []
tasks_of p (a ∷ order) = p.task_of a ∷ tasks_of p order
