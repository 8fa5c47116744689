-- What is worked out on the way: columns of a section of pairs, cells filled one after the other, neighbours in a list of owners.
use Rattle.std.specs.Prelude.{ℕ, zero, suc, ◌+◌, ◌*◌, ◌-◌, ◌≤◌, ◌<◌, ◌≡◌, cond, ◌&&◌, List, [], ◌∷◌, eqb, ltb, get_or, set}
use Rattle.graph.specs.Counting.{bit}
use Rattle.grammar.specs.Rules.{total_from}
use Rattle.plan.specs.Problem.{Problem}
use Rattle.plan.specs.Input.{change_from}
use Rattle.plan.specs.declared.Layout.{Layout}
use Rattle.tables.specs.Tabled.{change_code, own_span}
use Rattle.tables.specs.declared.Place.{Place}

-- Every second word from `at` on, n of them.
unfoldable pub column : (words : List ℕ) → (n at : ℕ) → List ℕ
column ws zero at = []
column ws (suc n) at = get_or ws at 0 ∷ column ws n (at + 2)

-- The first n cells of a list hold what a function says.
pub record Filled (n : ℕ) (f : ℕ → ℕ) (list : List ℕ) : Type 0 where
  pub at : (a : ℕ) → a < n → get_or list a 0 ≡ f a

-- The first activity of a task.
abbrev pub first_of : (words : List ℕ) → Layout → ℕ → ℕ
first_of ws z t = total_from ws t (z.at.tasks + 1)

-- A task that has begun by activity a, and where it ends, which a has not passed.
pub record Begun (ws : List ℕ) (z : Layout) (p : Place) (a : ℕ) : Type 0 where
  pub first : first_of ws z p.task ≤ a
  pub ends : p.end ≡ first_of ws z (p.task + 1)
  pub within : a ≤ p.end

-- Of n activities with their owners: the next of the same task, n where there is none; and whether the one before is of the same task.
abbrev pub next_in : (owners : List ℕ) → (n a : ℕ) → ℕ
next_in os n a = cond (ltb (a + 1) n && eqb (get_or os (a + 1) 0) (get_or os a 0)) (a + 1) n

abbrev pub before_in : (owners : List ℕ) → ℕ → ℕ
before_in os a = cond (eqb a 0) 0 (bit (eqb (get_or os (a - 1) 0) (get_or os a 0)))

-- The cell of a machine, a previous category and a category; a Setups entry put into its cell, from its first word on.
abbrev pub cell_of : (machine previous category : ℕ) → ℕ
cell_of m b c = 72 * m + 8 * b + c

abbrev pub change_put : (words : List ℕ) → ℕ → List ℕ → List ℕ
change_put ws at l = set l (cell_of (get_or ws at 0) (get_or ws (at + 1) 0) (get_or ws (at + 2) 0)) (get_or ws (at + 3) 0 + 1)

-- Every cell holds the code of its triple among n Setups entries from `at` on.
pub record Coded (ws : List ℕ) (n at : ℕ) (list : List ℕ) : Type 0 where
  pub codes : (m before own : ℕ) → m < 16 → before < 9 → own < 8
      → get_or list (cell_of m before own) 0 ≡ change_code (change_from ws n at m before own)

-- The sum of three words that follow each other.
abbrev pub row_sum : (words : List ℕ) → ℕ → ℕ
row_sum ws at = get_or ws at 0 + get_or ws (at + 1) 0 + get_or ws (at + 2) 0

-- Sixteen cells for each of the first k activities hold how long it takes on each machine.
pub record Spanned (p : Problem) (k : ℕ) (list : List ℕ) : Type 0 where
  pub at : (a m : ℕ) → a < k → m < p.machines → get_or list (16 * a + m) 0 ≡ own_span p a m
