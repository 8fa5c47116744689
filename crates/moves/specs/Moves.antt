-- Document 01, "One search step": a move swaps two neighbours of a line, shifts an activity to another position of its line, or puts it on
-- another machine's line. A block move's pair is the activity moved (the first of a swap) and the one at the target; a reassignment lists the
-- activity and the machine that it leaves.
use Rattle.std.specs.Prelude.{◌≡◌, List, [], ◌∷◌, ℕ, zero, suc, ◌+◌, ◌≤◌, ◌<◌, length, get_or, set, replicate}
use Rattle.lines.specs.Lines.{Lines, lines_in, Fit}
use Rattle.moves.specs.declared.Move.{Move}
use Rattle.moves.specs.declared.Move.TheVariants.{Swap, Shift, Reassign}
use Rattle.moves.specs.declared.Pairing.{Pairing}

-- ---- on one line

-- those at i and i + 1 change places
unfoldable pub swap_at : List ℕ → ℕ → List ℕ
swap_at l i = set (set l i (get_or l (suc i) 0)) (suc i) (get_or l i 0)

-- without the one at i
abbrev pub remove_at : List ℕ → ℕ → List ℕ
remove_at [] i = []
remove_at (x ∷ l) zero = l
remove_at (x ∷ l) (suc i) = x ∷ remove_at l i

-- with a at i, and those from there on one place further back
abbrev pub insert_at : List ℕ → ℕ → ℕ → List ℕ
insert_at l zero a = a ∷ l
insert_at [] (suc i) a = a ∷ []
insert_at (x ∷ l) (suc i) a = x ∷ insert_at l i a

-- the one at `from` taken out and put in again at `to`
unfoldable pub shifted : List ℕ → (from to : ℕ) → List ℕ
shifted l from to = insert_at (remove_at l from) to (get_or l from 0)

-- ---- on the lines of all machines

abbrev pub line_of : Lines → ℕ → List ℕ
line_of lines m = get_or lines m []

-- the activity at i leaves machine m's line
abbrev pub left : Lines → (m i : ℕ) → Lines
left lines m i = set lines m (remove_at (line_of lines m) i)

-- a joins machine m's line at i
abbrev pub joined : Lines → (m i a : ℕ) → Lines
joined lines m i a = set lines m (insert_at (line_of lines m) i a)

abbrev pub applied : Move → Lines → Lines
applied (Swap m i) lines = set lines m (swap_at (line_of lines m) i)
applied (Shift m i j) lines = set lines m (shifted (line_of lines m) i j)
applied (Reassign a r i q j) lines = joined (left lines r i) q j a

-- the move that takes a move back
abbrev pub reversed : Move → Move
reversed (Swap m i) = Swap m i
reversed (Shift m i j) = Shift m j i
reversed (Reassign a r i q j) = Reassign a q j r i

abbrev pub two : ℕ → ℕ → Pairing
two x y = record { first = x; second = y }

abbrev pub pair_of : Lines → Move → Pairing
pair_of lines (Swap m i) = two (get_or (line_of lines m) i 0) (get_or (line_of lines m) (suc i) 0)
pair_of lines (Shift m i j) = two (get_or (line_of lines m) i 0) (get_or (line_of lines m) j 0)
pair_of lines (Reassign a r i q j) = two a r

-- ---- what a move needs

-- cells and lengths with a stretch for each of sixteen lines
pub record Holds (cells lens : List ℕ) : Type 0 where
  pub roomy : length cells ≡ 2048
  pub sixteen : length lens ≡ 16
  pub fit : Fit lens

pub record SwapFits (m i : ℕ) (lines : Lines) : Type 0 where
  pub machine : m < 16
  pub next : i + 1 < length (line_of lines m)

pub record ShiftFits (m i j : ℕ) (lines : Lines) : Type 0 where
  pub machine : m < 16
  pub from : i < length (line_of lines m)
  pub to : j < length (line_of lines m)

-- a stands at i on r's line, and q's line has a place j, and room
pub record ReassignFits (a r i q j : ℕ) (lines : Lines) : Type 0 where
  pub old : r < 16
  pub new : q < 16
  pub other : r ≡ q → ⊥
  pub from : i < length (line_of lines r)
  pub named : get_or (line_of lines r) i 0 ≡ a
  pub to : j ≤ length (line_of lines q)
  pub room : length (line_of lines q) < 128

abbrev pub Fits : Move → Lines → Type 0
Fits (Swap m i) lines = SwapFits m i lines
Fits (Shift m i j) lines = ShiftFits m i j lines
Fits (Reassign a r i q j) lines = ReassignFits a r i q j lines

-- a reassignment's new machine is below R; the others change no machine
abbrev pub Within : ℕ → Move → Type 0
Within R (Swap m i) = Unit {0}
Within R (Shift m i j) = Unit {0}
Within R (Reassign a r i q j) = q < R

-- ---- a pair read from the cells: a position of a line is one of its stretch, however long the line is

-- the sixteen stretches, as lines that use all of them
abbrev pub stretches : List ℕ → Lines
stretches cells = lines_in cells (replicate 16 128)

-- the positions that its pair is read at lie in a stretch
abbrev pub Reads : Move → Type 0
Reads (Swap m i) = (m < 16) × (i + 1 < 128)
Reads (Shift m i j) = (m < 16) × (i < 128) × (j < 128)
Reads (Reassign a r i q j) = Unit {0}

-- ---- lines linked again: a swap or a shift changes its own, a reassignment the one left and the one joined

-- the machines that it names are among the sixteen
abbrev pub Known : Move → Type 0
Known (Swap m i) = m < 16
Known (Shift m i j) = m < 16
Known (Reassign a r i q j) = (r < 16) × (q < 16)
