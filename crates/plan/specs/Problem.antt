-- Document 01, "The input, word by word": what a plan says, in the workshop's words. A problem is numbers and functions; the words that gave
-- them are no part of it, and no later rule knows of them. An opening time for each machine (L2) would be one more function.
use Rattle.std.specs.Prelude.{ℕ, List, ℤ, Float, Option}

pub record Problem : Type 0 where
  -- how many tasks, activities, machines
  pub tasks : ℕ
  pub n : ℕ
  pub machines : ℕ
  -- of a task: its category, its deadline, its first activity, how many activities it has
  pub category : ℕ → ℕ
  pub deadline : ℕ → Option ℤ
  pub first : ℕ → ℕ
  pub steps : ℕ → ℕ
  -- of an activity: its task; its release, the greater of its task's and its own, a negative one as 0
  pub task_of : ℕ → ℕ
  pub release : ℕ → ℕ
  -- the machines it may run on, the activities that it names and those that name it, as listed
  pub candidates : ℕ → List ℕ
  pub predecessors : ℕ → List ℕ
  pub waiting : ℕ → List ℕ
  -- of an activity on a machine
  pub setup : ℕ → ℕ → ℕ
  pub process : ℕ → ℕ → ℕ
  pub teardown : ℕ → ℕ → ℕ
  -- from a machine to a machine
  pub transport : ℕ → ℕ → ℕ
  -- the Setups entry of a machine, a previous category (8: none before) and a category
  pub change : ℕ → ℕ → ℕ → Option ℕ
  -- of the search: the weight of tardiness, and how many steps it may take
  pub weight : Float
  pub limit : ℕ

-- What the search improves: the task numbers of the Order, and each activity's machine, if any.
pub record Genes : Type 0 where
  pub order : List ℕ
  pub assigned : ℕ → Option ℕ
