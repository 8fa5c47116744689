-- Document 01, "Forms that must change" and number 7: one buffer of 2,048 cells holds the lines of sixteen machines, each in its own stretch of
-- 128, and sixteen lengths say how much of each stretch is used. Lines are refused that miss an activity, repeat one, name one of n or above,
-- are longer than 128 or use a machine of R or above. "Timing": a line predecessor is the one right before an activity on its line; an
-- activity's machine is the one whose line holds it.
use Rattle.std.specs.Prelude.{◌≡◌, Bool, true, ◌&&◌, cond, List, [], ◌∷◌, ◌++◌, ℕ, zero, suc, ◌+◌, ◌≤◌, ◌<◌, eqb, ltb, length, get_or, drop, Some, None, Option}
use Rattle.graph.specs.Counting.{count_of}
use Rattle.graph.specs.Filing.{naming}

-- the activities of each machine, in turn
abbrev pub Lines : Type 0
Lines = List (List ℕ)

-- ---- how a buffer holds them

-- so many cells from one place on; a length that no stretch has room for still gives a line of that length, which is too long
unfoldable pub cells_from : List ℕ → (at len : ℕ) → List ℕ
cells_from cells at zero = []
cells_from cells at (suc len) = get_or cells at 0 ∷ cells_from cells (at + 1) len

-- a line for each length, their stretches one after the other
unfoldable pub lines_from : List ℕ → ℕ → List ℕ → Lines
lines_from cells at [] = []
lines_from cells at (len ∷ lens) = cells_from cells at len ∷ lines_from cells (at + 128) lens

abbrev pub lines_in : (cells lens : List ℕ) → Lines
lines_in cells lens = lines_from cells 0 lens

-- no line is longer than its stretch
abbrev pub Fit : List ℕ → Type 0
Fit lens = (m : ℕ) → get_or lens m 0 ≤ 128

-- ---- who stands where

-- how often an activity stands in the lines
unfoldable pub standing : Lines → ℕ → ℕ
standing [] a = 0
standing (l ∷ lines) a = count_of a l + standing lines a

abbrev pub rest : List ℕ → List ℕ
rest [] = []
rest (x ∷ l) = l

-- all that stand right before an activity, and right after it, on some line
unfoldable pub befores : Lines → ℕ → List ℕ
befores [] a = []
befores (l ∷ lines) a = naming a l (rest l) ++ befores lines a

unfoldable pub afters : Lines → ℕ → List ℕ
afters [] a = []
afters (l ∷ lines) a = naming a (rest l) l ++ afters lines a

abbrev pub first_of : List ℕ → Option ℕ
first_of [] = None
first_of (x ∷ l) = Some x

abbrev pub line_pred : Lines → ℕ → Option ℕ
line_pred lines a = first_of (befores lines a)

abbrev pub line_succ : Lines → ℕ → Option ℕ
line_succ lines a = first_of (afters lines a)

abbrev pub has : ℕ → List ℕ → Bool
has a l = ltb 0 (count_of a l)

-- the machine whose line holds an activity, counted from m
unfoldable pub holder : ℕ → Lines → ℕ → ℕ
holder m [] a = m
holder m (l ∷ lines) a = cond (has a l) m (holder (m + 1) lines a)

abbrev pub machine_of : Lines → ℕ → ℕ
machine_of lines a = holder 0 lines a

-- how many stand before an activity on a line, and on its line
unfoldable pub place_on : List ℕ → ℕ → ℕ
place_on [] a = 0
place_on (x ∷ l) a = cond (eqb x a) 0 (place_on l a + 1)

unfoldable pub position_of : Lines → ℕ → ℕ
position_of [] a = 0
position_of (l ∷ lines) a = cond (has a l) (place_on l a) (position_of lines a)

-- ---- number 7

-- lines that can be timed: each activity stands once and nothing else does, no line is longer than its stretch, and only machines below R
-- have one
pub record WellFormed (n R : ℕ) (lines : Lines) : Type 0 where
  pub once : (a : ℕ) → a < n → standing lines a ≡ 1
  pub known : (a : ℕ) → 0 < standing lines a → a < n
  pub short : (m : ℕ) → length (get_or lines m []) ≤ 128
  pub idle : (m : ℕ) → R ≤ m → length (get_or lines m []) ≡ 0

-- the same as a test
unfoldable pub all : (ℕ → Bool) → List ℕ → Bool
all test [] = true
all test (x ∷ l) = test x && all test l

abbrev pub lengths : Lines → List ℕ
lengths [] = []
lengths (l ∷ lines) = length l ∷ lengths lines

unfoldable pub all_known : ℕ → Lines → Bool
all_known n [] = true
all_known n (l ∷ lines) = all (λ a. ltb a n) l && all_known n lines

-- how often each of so many activities from a on stands
unfoldable pub standings : Lines → ℕ → ℕ → List ℕ
standings lines a zero = []
standings lines a (suc n) = standing lines a ∷ standings lines (a + 1) n

abbrev pub all_short : List ℕ → Bool
all_short lens = all (λ len. ltb len 129) lens

abbrev pub all_zero : List ℕ → Bool
all_zero lens = all (λ len. eqb len 0) lens

abbrev pub all_one : List ℕ → Bool
all_one counts = all (λ k. eqb k 1) counts

-- each line fits its stretch, and no machine of R or above has one
abbrev pub all_fit : ℕ → List ℕ → Bool
all_fit R lens = all_short lens && all_zero (drop R lens)

unfoldable pub well_formed : ℕ → ℕ → Lines → Bool
well_formed n R lines = all_fit R (lengths lines) && (all_known n lines && all_one (standings lines 0 n))

-- the answer says whether all that stand are activities; if so, it was counted how often each stands
pub record CountedLines (n : ℕ) (lines : Lines) (seen : List ℕ) (answer : Bool) : Type 0 where
  pub told : answer ≡ all_known n lines
  pub counted : answer ≡ true → (a : ℕ) → get_or seen a 0 ≡ standing lines a
