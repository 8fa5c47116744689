-- What is looked up answers, and how lent cells hold what the genes give.
use Rattle.std.specs.Prelude.{ℕ, zero, suc, ◌≤◌, ◌≡◌, Bool, true, false, List, ltb, length, get_or, set, take, Some, None, Option}
use Rattle.plan.specs.Problem.{Problem}

-- the task that a word of the order names
abbrev pub task_if : Bool → ℕ → Option ℕ
task_if true t = Some t
task_if false t = None

abbrev pub task_named : Problem → ℕ → Option ℕ
task_named p t = task_if (ltb t p.tasks) t

-- f at each of the first k cells, the others as they were
unfoldable pub filled_to : (ℕ → ℕ) → ℕ → List ℕ → List ℕ
filled_to f zero cells = cells
filled_to f (suc k) cells = set (filled_to f k cells) k (f k)

-- the first `count` cells hold a list, the others are as they were
pub record Listed (list before after : List ℕ) (count : ℕ) : Type 0 where
  pub whole : count ≡ length list
  pub listed : take count after ≡ list
  pub kept : (i : ℕ) → count ≤ i → get_or after i 0 ≡ get_or before i 0
