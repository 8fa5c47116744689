-- Document 01, number 4: task order and predecessors alone close a circle, self included. "Task order" is the order of steps in a task.
use Rattle.std.specs.Prelude.{ℕ, zero, suc, ◌≤◌, ◌<◌, ◌≡◌, Bool, List, [], ◌∷◌, ◌++◌, ltb, length, take, replicate, Some}
use Rattle.graph.specs.Counting.{count_of}
use Rattle.graph.specs.Order.{order_of}
use Rattle.graph.specs.Links.{linked}
use Rattle.plan.specs.Problem.{Problem}
use Rattle.tables.specs.Tabled.{task_pred, task_succ, waits_of}

-- q comes before a: it is the step before it in its task, or a names it.
pub data Before (p : Problem) (q a : ℕ) : Type 0 where
  step : a < p.n → task_pred p a ≡ Some q → Before p q a
  name : a < p.n → 0 < count_of q (p.predecessors a) → Before p q a

-- f at each of the m numbers from k on.
unfoldable pub each : (ℕ → ℕ) → (m k : ℕ) → List ℕ
each f zero k = []
each f (suc m) k = f k ∷ each f m (suc k)

-- The timing order without lines: whom an activity frees, and how many each waits for.
abbrev pub frees : Problem → ℕ → List ℕ
frees p a = linked (task_succ p a) ++ p.waiting a

abbrev pub order_without_lines : Problem → List ℕ
order_without_lines p = order_of (frees p) p.n (each (waits_of p) p.n 0)

-- That order leaves an activity out.
abbrev pub closes_circle : Problem → Bool
closes_circle p = ltb (length (order_without_lines p)) p.n

-- Slices to work in: a link to nowhere for each of n activities, and room for counts, a stack and an order.
pub record Room (n : ℕ) (none counts stack order : List ℕ) : Type 0 where
  pub unlinked : none ≡ take n (replicate 128 n)
  pub counted : length counts ≡ n
  pub roomy : n ≤ length stack
  pub ordered : length order ≡ n
