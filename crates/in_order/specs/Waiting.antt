-- What the order's functions ask of their slices.
use Rattle.std.specs.Prelude.{ℕ, suc, ◌≤◌, ◌<◌, Bool, false, cond, ◌≡◌, List, [], ◌∷◌, length, get_or, Some, None, Option}
use Rattle.graph.specs.Counting.{count_of, Below}
use Rattle.plan.specs.Problem.{Problem, Genes}
use Rattle.tables.specs.Tabled.{Tabled, task_pred}
use Rattle.timing.specs.Placing.{machine_before}
use Rattle.genes.specs.Indexed.{assigned_to}
use Rattle.board.specs.Board.{Board, empty_board, last_of}
use Rattle.in_order.specs.InOrder.{is_pending, earlier_pending}
use Rattle.board.specs.Sound.{Sized, Sound}

-- The step before is pending.
abbrev pub link_pending : (pending : List ℕ) → Option ℕ → Bool
link_pending pending None = false
link_pending pending (Some b) = is_pending pending b

abbrev pub step_pending : Problem → (pending : List ℕ) → ℕ → Bool
step_pending p pending a = link_pending pending (task_pred p a)

-- The step before tells of all earlier ones: where it is taken, so are they.
abbrev pub Told : Problem → (pending : List ℕ) → ℕ → Type 0
Told p pending a = step_pending p pending a ≡ earlier_pending p pending a

-- An order that has a step of a task has the step before it.
abbrev pub Stepwise : Problem → (activities : List ℕ) → Type 0
Stepwise p activities = (a : ℕ) → 0 < count_of (suc a) activities → p.task_of a ≡ p.task_of (suc a) → 0 < count_of a activities

-- The table holds a problem of no more than 128 activities, who name each other.
pub record Naming (p : Problem) (table : List ℕ) : Type 0 where
  pub tabled : Tabled p table
  pub few : p.n ≤ 128
  pub named : (a : ℕ) → Below p.n (p.predecessors a)

-- .. and there are an activity of it, or some, and a flag for each.
pub record Flagged (table pending : List ℕ) (a : ℕ) : Type 0 where
  pub problem : Problem
  pub naming : Naming problem table
  pub roomy : problem.n ≤ length pending
  pub here : a < problem.n
  pub told : Told problem pending a

pub record Waiting (table activities pending : List ℕ) : Type 0 where
  pub problem : Problem
  pub naming : Naming problem table
  pub roomy : problem.n ≤ length pending
  pub known : Below problem.n activities
  pub told : (a : ℕ) → 0 < count_of a activities → Told problem pending a

pub record Ordered (table activities : List ℕ) : Type 0 where
  pub problem : Problem
  pub naming : Naming problem table
  pub known : Below problem.n activities
  pub stepwise : Stepwise problem activities

-- How many of a list come before the first that is pending.
unfoldable pub taken_before : (pending : List ℕ) → List ℕ → ℕ
taken_before pending [] = 0
taken_before pending (a ∷ l) = cond (is_pending pending a) 0 (suc (taken_before pending l))

-- An activity that comes next upon a board, on machine m: `step` is the last placed of its task, `way` that from its machine.
pub record Coming (p : Problem) (g : Genes) (b : Board) (a m : ℕ) (step : Option ℕ) (way : ℕ) : Type 0 where
  pub sound : Sound p.n b
  pub here : a < p.n
  pub there : m < p.machines
  pub unsettled : get_or b.settled a 0 ≡ 0
  pub after : step ≡ last_of p b (p.task_of a)
  pub moved : way ≡ p.transport (machine_before step (assigned_to g)) m

-- The table holds some problem that has the activity, and there is a cell for its task.
pub record Owned (table steps : List ℕ) (a : ℕ) : Type 0 where
  pub problem : Problem
  pub tabled : Tabled problem table
  pub few : problem.n ≤ 128
  pub here : a < problem.n
  pub owned : problem.task_of a < length steps

-- Activities to be placed upon an empty board, none of them twice, and room for them in the order.
pub record Upon (n : ℕ) (ready order : List ℕ) (b : Board) : Type 0 where
  pub known : Below n ready
  pub once : (a : ℕ) → count_of a ready ≤ 1
  pub roomy : length ready ≤ length order
  pub empty : b ≡ empty_board n

-- .. upon a board whose cells may hold anything.
pub record Given (n : ℕ) (ready order : List ℕ) (b : Board) : Type 0 where
  pub known : Below n ready
  pub once : (a : ℕ) → count_of a ready ≤ 1
  pub roomy : length ready ≤ length order
  pub sized : Sized n b

-- Cells for n rows and for n starts, ends and setups.
pub record Rooms (n : ℕ) (order starts ends setups : List ℕ) : Type 0 where
  pub ordered : n ≤ length order
  pub begun : length starts ≡ n
  pub ended : length ends ≡ n
  pub prepared : length setups ≡ n

-- The cells hold a board's times.
pub record Timed (b : Board) (starts ends setups : List ℕ) : Type 0 where
  pub begun : starts ≡ b.starts
  pub ended : ends ≡ b.ends
  pub prepared : setups ≡ b.setups
