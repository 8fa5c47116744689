-- What an accepted sheet is, in plain sentences about its rows. `accepts_exactly` in proofs/Theorem says that the check accepts these sheets and no
-- others. No number of such a sheet is negative, so its rows are natural numbers; that is rule 3 and a part of rule 1.
use Rattle.std.specs.Prelude.{ℕ, ◌+◌, ◌*◌, ◌≤◌, ◌<◌, ◌≡◌, List, length, get_or, ℤ, pos, Some, None, Option}
use Rattle.graph.specs.Counting.{count_of}
use Rattle.plan.specs.Problem.{Problem}
use Rattle.tables.specs.Tabled.{task_pred}
use Rattle.bounds.specs.Bounds.{setup_of, span_of}

-- Row j is the line predecessor of row i: an earlier row on the same machine, with none of that machine between them.
pub record Precedes (machine : ℕ → ℕ) (j i : ℕ) : Type 0 where
  pub earlier : j < i
  pub together : machine j ≡ machine i
  pub next : (k : ℕ) → j < k → k < i → machine k ≡ machine i → ⊥

-- How long an activity takes on a machine after another, or first.
abbrev pub span_from : Problem → (activity machine : ℕ) → Option ℕ → ℕ
span_from p a m before = span_of p a m (setup_of p a m before)

pub record Lawful (p : Problem) (l : List ℤ) : Type 0 where
  pub count : ℕ
  pub activity : ℕ → ℕ
  pub machine : ℕ → ℕ
  pub start : ℕ → ℕ
  pub end : ℕ → ℕ
  -- every four numbers are a row, and there are no others
  pub whole : length l ≡ 4 * count
  pub reads : (i : ℕ) → i < count
      → (get_or l (4 * i) (pos 0) ≡ pos (activity i))
      × (get_or l (4 * i + 1) (pos 0) ≡ pos (machine i))
      × (get_or l (4 * i + 2) (pos 0) ≡ pos (start i))
      × (get_or l (4 * i + 3) (pos 0) ≡ pos (end i))
  -- 1
  pub known : (i : ℕ) → i < count → (activity i < p.n) × (machine i < p.machines)
  -- 2
  pub once : (j i : ℕ) → j < i → i < count → activity j ≡ activity i → ⊥
  -- 4
  pub in_time : (i : ℕ) → i < count → end i ≤ 1101659110911
  -- 5, for the first row on a machine and for the others
  pub lasts-first : (i : ℕ) → i < count → ((j : ℕ) → j < i → machine j ≡ machine i → ⊥)
      → end i ≡ start i + span_from p (activity i) (machine i) None
  pub lasts_after : (j i : ℕ) → i < count → Precedes machine j i → end i ≡ start i + span_from p (activity i) (machine i) (Some (activity j))
  -- 6
  pub released : (i : ℕ) → i < count → p.release (activity i) ≤ start i
  -- 7
  pub lined : (j i : ℕ) → i < count → Precedes machine j i → end j ≤ start i
  -- 8
  pub stepped : (j i : ℕ) → j < count → i < count → task_pred p (activity i) ≡ Some (activity j) → end j ≤ start i
  -- 9
  pub named : (j i : ℕ) → j < count → i < count → 0 < count_of (activity j) (p.predecessors (activity i)) → end j ≤ start i
  -- 10
  pub everyone : (a : ℕ) → a < p.n → (i : ℕ) × (i < count) × (activity i ≡ a)
