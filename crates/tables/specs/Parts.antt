-- What the larger parts of the table hold, each by places of its own.
use Rattle.std.specs.Prelude.{ℕ, ◌+◌, List}
use Rattle.graph.specs.Counting.{count_of}
use Rattle.graph.specs.Filing.{Filed}
use Rattle.plan.specs.Problem.{Problem}
use Rattle.tables.specs.Regions.{region}
use Rattle.tables.specs.Tabled.{next_of, waits_of, Listed}
use Rattle.tables.specs.Columns.{Filled, before_in}

-- Owners, the next steps, releases and categories: 512 cells.
pub record Activities (p : Problem) (part : List ℕ) : Type 0 where
  pub owned : Filled p.n p.task_of (region part 0 128)
  pub followed : Filled p.n (next_of p) (region part 128 128)
  pub released : Filled p.n p.release (region part 256 128)
  pub sorted : Filled p.n (λ a. p.category (p.task_of a)) (region part 384 128)

-- How many each waits for, whom each names, and those that name it: 898 cells.
pub record Namings (p : Problem) (part : List ℕ) : Type 0 where
  pub waiting_for : Filled p.n (waits_of p) (region part 0 128)
  pub naming : Listed p.n p.predecessors (region part 128 129) (region part 257 256)
  pub named_by : Listed p.n p.waiting (region part 513 129) (region part 642 256)

-- .. as they are filled from pairs, of an activity and one that it names.
pub record Pairings (n : ℕ) (owners acts preds part : List ℕ) : Type 0 where
  pub waits : Filled n (λ a. before_in owners a + count_of a acts) (region part 0 128)
  pub naming : Filed preds acts (region part 128 129) (region part 257 256)
  pub named_by : Filed acts preds (region part 513 129) (region part 642 256)

-- Both: 1,410 cells.
pub record Steps (p : Problem) (part : List ℕ) : Type 0 where
  pub activities : Activities p (region part 0 512)
  pub namings : Namings p (region part 512 898)
