-- Document 01, "One search step": a block is a maximal run of the path on one machine at successive positions f..l, l > f. Moves, in this order:
-- Swap f; Swap l-1; Shift from f+2..l to f; Shift from f..l-2 to l. Equal moves count once.
use Rattle.std.specs.Prelude.{ℕ, zero, suc, ◌+◌, ◌-◌, Bool, false, cond, ◌&&◌, ◌||◌, List, [], ◌∷◌, ◌++◌, eqb, ltb}
use Rattle.lines.specs.Lines.{Lines, machine_of, position_of}
use Rattle.moves.specs.declared.Move.{Move}
use Rattle.moves.specs.declared.Move.TheVariants.{Swap, Shift, Reassign}

-- ---- blocks

-- Positions first..last of a machine.
pub record Block : Type 0 where
  pub machine : ℕ
  pub first : ℕ
  pub last : ℕ

abbrev pub block : (machine first last : ℕ) → Block
block m f l = record { machine = m; first = f; last = l }

abbrev pub block_if : Bool → Block → List Block
block_if b run = cond b (run ∷ []) []

-- A run is a block where l > f.
abbrev pub closed : Block → List Block
closed run = block_if (ltb run.first run.last) run

-- By the machine and the position of each activity:
module _ (machine position : ℕ → ℕ) where
  -- activity b stands on the run's machine, right behind it.
  abbrev pub goes_on' : Block → ℕ → Bool
  goes_on' run b = eqb (machine b) run.machine && eqb (position b) (suc run.last)

  -- A run with its next activity, or a new one that begins there.
  abbrev pub begun : ℕ → Block
  begun b = block (machine b) (position b) (position b)

  abbrev pub longer : Block → ℕ → Block
  longer run b = block (machine b) (cond (goes_on' run b) run.first (position b)) (position b)

  -- The maximal runs of a path, the first of them begun already.
  unfoldable pub blocks_from : Block → List ℕ → List Block
  blocks_from run [] = closed run
  blocks_from run (b ∷ path) = cond (goes_on' run b) [] (closed run) ++ blocks_from (longer run b) path

  abbrev pub blocks_by : List ℕ → List Block
  blocks_by [] = []
  blocks_by (a ∷ path) = blocks_from (begun a) path

abbrev pub blocks : Lines → List ℕ → List Block
blocks lines path = blocks_by (machine_of lines) (position_of lines) path

-- ---- moves

-- Shifts to one position, from so many others in turn.
unfoldable pub shifts : (m to from count : ℕ) → List Move
shifts m to from zero = []
shifts m to from (suc count) = Shift m from to ∷ shifts m to (suc from) count

abbrev pub moves_of : Block → List Move
moves_of b =
    Swap b.machine b.first
    ∷ Swap b.machine (b.last - 1)
    ∷ (shifts b.machine b.first (b.first + 2) (b.last - b.first - 1)
    ++ shifts b.machine b.last b.first (b.last - b.first - 1))

unfoldable pub moves_of_all : List Block → List Move
moves_of_all [] = []
moves_of_all (b ∷ l) = moves_of b ++ moves_of_all l

abbrev pub same : Move → Move → Bool
same (Swap m i) (Swap r j) = eqb m r && eqb i j
same (Swap m i) (Shift r j k) = false
same (Swap m i) (Reassign a r j s k) = false
same (Shift m i h) (Swap r j) = false
same (Shift m i h) (Shift r j k) = eqb m r && (eqb i j && eqb h k)
same (Shift m i h) (Reassign a r j s k) = false
same (Reassign b m i q h) (Swap r j) = false
same (Reassign b m i q h) (Shift r j k) = false
same (Reassign b m i q h) (Reassign a r j s k) = eqb b a && (eqb m r && (eqb i j && (eqb q s && eqb h k)))

unfoldable pub is_among : Move → List Move → Bool
is_among x [] = false
is_among x (y ∷ l) = same x y || is_among x l

-- Equal moves count once, at their first place; `earlier` are those that count.
unfoldable pub once : (earlier : List Move) → List Move → List Move
once earlier [] = earlier
once earlier (x ∷ l) = once (cond (is_among x earlier) earlier (earlier ++ (x ∷ []))) l

abbrev pub block_moves : Lines → (path : List ℕ) → List Move
block_moves lines path = once [] (moves_of_all (blocks lines path))
