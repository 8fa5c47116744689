-- Document 01, "The sheet check (ours)": rows of activity, machine, start, end, signed 64-bit, one after the other in a list of numbers. A last
-- row of fewer than four numbers is a row too.
use Rattle.std.specs.Prelude.{ℕ, zero, suc, ◌+◌, ◌*◌, ◌/◌, ◌<◌, ◌≡◌, Bool, true, false, cond, ◌&&◌, List, eqb, ltb, length, get_or, ℤ, pos, negsuc, Some, None, Option}
use Rattle.words.specs.Signed.{clamp}
use Rattle.sheet.specs.declared.Subject.{Subject}

-- How many rows there are, counted from 0, and whether a row has all its four numbers.
abbrev pub rows_in : List ℤ → ℕ
rows_in l = (length l + 3) / 4

abbrev pub is_whole : List ℤ → ℕ → Bool
is_whole l i = ltb (4 * i + 3) (length l)

-- The numbers of a row.
abbrev pub activity_in : List ℤ → ℕ → ℤ
activity_in l i = get_or l (4 * i) (pos 0)

abbrev pub machine_in : List ℤ → ℕ → ℤ
machine_in l i = get_or l (4 * i + 1) (pos 0)

abbrev pub start_in : List ℤ → ℕ → ℤ
start_in l i = get_or l (4 * i + 2) (pos 0)

abbrev pub end_in : List ℤ → ℕ → ℤ
end_in l i = get_or l (4 * i + 3) (pos 0)

-- Of k numbers from i on, the first that passes a test; the number after them where none does.
unfoldable pub first : (ℕ → Bool) → (k i : ℕ) → ℕ
first test zero i = i
first test (suc k) i = cond (test i) i (first test k (suc i))

-- Of the numbers below k, the last that passes a test; `none` where none does.
unfoldable pub last : (ℕ → Bool) → (none k : ℕ) → ℕ
last test none zero = none
last test none (suc k) = cond (test k) k (last test none k)

-- ---- rule 1

abbrev pub is_below : ℕ → ℤ → Bool
is_below n (pos x) = ltb x n
is_below n (negsuc x) = false

-- What a row speaks of where both are known.
abbrev pub row_of : (activity machine : ℕ) → Option Subject
row_of a m = Some (record { activity = a; machine = m })

abbrev pub subject_if : Bool → ℤ → ℤ → Option Subject
subject_if true a m = row_of (clamp a) (clamp m)
subject_if false a m = None

-- The activity and the machine of a row, of n activities and R machines, if both are known.
abbrev pub subject_of : (n R : ℕ) → List ℤ → ℕ → Option Subject
subject_of n R l i = subject_if (is_whole l i && (is_below n (activity_in l i) && is_below R (machine_in l i))) (activity_in l i) (machine_in l i)

-- ---- rows that meet rule 1

abbrev pub is_of : ℕ → Option Subject → Bool
is_of b (Some s) = eqb s.activity b
is_of b None = false

abbrev pub is_on : ℕ → Option Subject → Bool
is_on k (Some s) = eqb s.machine k
is_on k None = false

abbrev pub activity_of : Option Subject → Option ℕ
activity_of (Some s) = Some s.activity
activity_of None = None

abbrev pub is_row : (n R : ℕ) → List ℤ → (b i : ℕ) → Bool
is_row n R l b i = is_of b (subject_of n R l i)

abbrev pub is_row_on : (n R : ℕ) → List ℤ → (machine i : ℕ) → Bool
is_row_on n R l m i = is_on m (subject_of n R l i)

-- The first row of an activity, among all; the row count where it has none.
abbrev pub first_row : (n R : ℕ) → List ℤ → ℕ → ℕ
first_row n R l b = first (is_row n R l b) (rows_in l) 0

-- The last row on a machine before row i; the row count where there is none.
abbrev pub row_before : (n R : ℕ) → List ℤ → (machine i : ℕ) → ℕ
row_before n R l m i = last (is_row_on n R l m) (rows_in l) i

-- The first row of each of the 128 activities that there can be.
pub record FirstRows (n R : ℕ) (l : List ℤ) (rows : List ℕ) : Type 0 where
  pub sized : length rows ≡ 128
  pub at : (b : ℕ) → b < 128 → get_or rows b 0 ≡ first_row n R l b
