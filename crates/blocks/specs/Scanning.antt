-- What blocks are found in, and what their moves are offered from.
use Rattle.std.specs.Prelude.{ℕ, ◌+◌, ◌-◌, ◌^◌, ◌≤◌, ◌<◌, ◌≡◌, Bool, cond, List, [], ◌∷◌, ◌++◌, map, ltb, length, get_or, drop}
use Rattle.graph.specs.Counting.{Below, count_of}
use Rattle.plan.specs.Problem.{Problem}
use Rattle.lines.specs.Lines.{Lines, machine_of, position_of}
use Rattle.moves.specs.Moves.{line_of}
use Rattle.moves.specs.declared.Move.{Move}
use Rattle.moves.specs.declared.Move.TheVariants.{Swap}
use Rattle.ranking.specs.declared.held.Rated.{Rated}
use Rattle.ranking.specs.Ranking.{with_all}
use Rattle.path.specs.Placing.{Placing, placed}
use Rattle.blocks.specs.Estimates.{estimate}
use Rattle.blocks.specs.BlockMoves.{Block, block, blocks_by, closed, moves_of}
use Rattle.blocks.specs.Weighing.{Weighed, Low, Lined}

-- ---- blocks

-- A path over activities that have a machine and a place each.
pub record Scanned (path machines places : List ℕ) : Type 0 where
  pub known : Below (length machines) path
  pub placed : length places ≡ length machines
  pub low : (a : ℕ) → get_or places a 0 < 2 ^ 32
  pub few : length path < 2 ^ 32

-- The path's run from i on ends at r: both stand on one machine, as far apart as on the path, and the run is the first of the blocks from i on,
-- or no block where it is a single activity.
pub record Run (machine position : ℕ → ℕ) (path : List ℕ) (i r : ℕ) : Type 0 where
  pub rising : i ≤ r
  pub within : r < length path
  pub one_machine : machine (get_or path r 0) ≡ machine (get_or path i 0)
  pub apart : position (get_or path r 0) ≡ position (get_or path i 0) + (r - i)
  pub first_block : blocks_by machine position (drop i path)
      ≡ closed (block (machine (get_or path i 0)) (position (get_or path i 0)) (position (get_or path r 0))) ++ blocks_by machine position (drop (r + 1) path)

-- ---- moves, each once

-- A block's moves: its two swaps are one where it has two activities.
abbrev pub own_moves : Block → List Move
own_moves b = cond (ltb (b.first + 1) b.last) (moves_of b) (Swap b.machine b.first ∷ [])

unfoldable pub own_moves_of_all : List Block → List Move
own_moves_of_all [] = []
own_moves_of_all (b ∷ l) = own_moves b ++ own_moves_of_all l

-- How many those of a block are, by how far its last activity is from its first.
abbrev pub moves_in : ℕ → ℕ
moves_in far = cond (ltb far 2) far (far + far)

-- ---- ranks

-- A move as it is offered: where all are kept, none is sorted.
abbrev pub offered : (all : Bool) → Problem → Lines → Placing → (tail : List ℕ) → Move → Rated
offered all p lines s tail move = record { length = cond all 0 (estimate p lines s tail move); time = 0; made = move }

-- What the estimates of the moves on one machine's line are worked out from.
pub record Rateable (p : Problem) (lines : Lines) (m : ℕ) (table starts ends tail line : List ℕ) : Type 0 where
  pub weighed : Weighed p table starts ends
  pub low : Low p.n tail
  pub lined : Lined p.n line
  pub held : line_of lines m ≡ line

-- The best three after moves on one machine's line were offered in turn to those before.
pub record Offers (all : Bool) (m : ℕ) (moves : List Move) (table starts ends tail line : List ℕ) (before after : List Rated) : Type 0 where
  pub kept : (p : Problem) (lines : Lines) (order : List ℕ) → Rateable p lines m table starts ends tail line
      → after ≡ with_all before (map (offered all p lines (placed order starts ends) tail) moves)

-- ---- the whole

-- A path that names no activity twice, over lines on which each activity stands where the arrays say.
pub record Pathed (n : ℕ) (lines : Lines) (path machines places : List ℕ) : Type 0 where
  pub path_known : Below n path
  pub path_once : (a : ℕ) → count_of a path ≤ 1
  pub machined : length machines ≡ n
  pub placed : length places ≡ n
  pub on : (a : ℕ) → a < n → get_or machines a 0 ≡ machine_of lines a
  pub at : (a : ℕ) → a < n → get_or places a 0 ≡ position_of lines a
  pub known : (a : ℕ) → a < n → machine_of lines a < 16
  pub inside : (a : ℕ) → a < n → position_of lines a < length (line_of lines (machine_of lines a))
  pub found : (a : ℕ) → a < n → get_or (line_of lines (machine_of lines a)) (position_of lines a) 0 ≡ a
  pub lined : (m : ℕ) → Lined n (line_of lines m)

-- .. of a problem whose spans and tails are known.
pub record Searched (p : Problem) (lines : Lines) (table starts ends tail path machines places : List ℕ) : Type 0 where
  pub weighed : Weighed p table starts ends
  pub low : Low p.n tail
  pub pathed : Pathed p.n lines path machines places

pub record Searchable (lines : Lines) (table starts ends tail path machines places : List ℕ) : Type 0 where
  pub problem : Problem
  pub searched : Searched problem lines table starts ends tail path machines places

-- The best three after moves on these lines were offered in turn to those before.
pub record OffersAll (all : Bool) (moves : List Move) (lines : Lines) (table starts ends tail path machines places : List ℕ) (before after : List Rated) : Type 0 where
  pub kept : (p : Problem) (order : List ℕ) → Searched p lines table starts ends tail path machines places
      → after ≡ with_all before (map (offered all p lines (placed order starts ends) tail) moves)
