-- What each region holds, by the problem's functions.
use Rattle.std.specs.Prelude.{ℕ, zero, suc, ◌+◌, ◌*◌, ◌≤◌, ◌<◌, ◌≡◌, Bool, cond, ◌&&◌, List, eqb, ltb, length, get_or, None, Option, Some}
use Rattle.graph.specs.Links.{to_if, linked, part_of}
use Rattle.plan.specs.Problem.{Problem}
use Rattle.tables.specs.Regions.{owners, nexts, releases, categories, waits, named_at, named, waiting_at, waiting, candidates_at, candidates, changes, spans, cells}

-- The step before and the step after in the same task.
abbrev pub task_pred : Problem → ℕ → Option ℕ
task_pred p zero = None
task_pred p (suc a) = to_if (eqb (p.task_of a) (p.task_of (suc a))) a

abbrev pub is_next : Problem → ℕ → Bool
is_next p a = ltb (a + 1) p.n && eqb (p.task_of (a + 1)) (p.task_of a)

abbrev pub task_succ : Problem → ℕ → Option ℕ
task_succ p a = to_if (is_next p a) (a + 1)

-- The step after as a number; n where there is none.
abbrev pub next_of : Problem → ℕ → ℕ
next_of p a = cond (is_next p a) (a + 1) p.n

-- How many an activity waits for, its line apart: the step before, and one for each naming.
abbrev pub waits_of : Problem → ℕ → ℕ
waits_of p a = length (linked (task_pred p a)) + length (p.predecessors a)

-- A Setups entry as a number: 0 where there is none, else one more than its setup.
abbrev pub change_code : Option ℕ → ℕ
change_code None = 0
change_code (Some x) = x + 1

-- How long an activity takes on a machine with its own setup.
abbrev pub own_span : Problem → (activity machine : ℕ) → ℕ
own_span p a m = p.setup a m + p.process a m + p.teardown a m

-- A list for each of n activities, as the part of one list between two offsets.
pub record Listed (n : ℕ) (f : ℕ → List ℕ) (at list : List ℕ) : Type 0 where
  pub parts : (a : ℕ) → a < n → part_of at list a ≡ f a
  pub rising : (a : ℕ) → a < n → get_or at a 0 ≤ get_or at (a + 1) 0
  pub within : (a : ℕ) → a ≤ n → get_or at a 0 ≤ length list

pub record Tabled (p : Problem) (table : List ℕ) : Type 0 where
  pub sized : length table ≡ cells
  pub owned : (a : ℕ) → a < p.n → get_or (owners table) a 0 ≡ p.task_of a
  pub followed : (a : ℕ) → a < p.n → get_or (nexts table) a 0 ≡ next_of p a
  pub released : (a : ℕ) → a < p.n → get_or (releases table) a 0 ≡ p.release a
  pub sorted : (a : ℕ) → a < p.n → get_or (categories table) a 0 ≡ p.category (p.task_of a)
  pub waiting_for : (a : ℕ) → a < p.n → get_or (waits table) a 0 ≡ waits_of p a
  pub naming : Listed p.n p.predecessors (named_at table) (named table)
  pub named_by : Listed p.n p.waiting (waiting_at table) (waiting table)
  pub able : Listed p.n p.candidates (candidates_at table) (candidates table)
  pub changed : (m before own : ℕ) → m < 16 → before < 9 → own < 8
      → get_or (changes table) (72 * m + 8 * before + own) 0 ≡ change_code (p.change m before own)
  pub spanned : (a m : ℕ) → a < p.n → m < p.machines → get_or (spans table) (16 * a + m) 0 ≡ own_span p a m
