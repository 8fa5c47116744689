-- Document 01, "One search step" and "Forms that must change": the made move lists its pair, or the activity and the machine that it left,
-- until step + 6; an entry is live while until > step. A block move is forbidden if its pair is listed either way round, a reassignment if its
-- activity and target are listed. Each list has six places, and an outdated one is used again.
use Rattle.std.specs.Prelude.{ℕ, ◌+◌, ◌%◌, Bool, false, ◌&&◌, ◌||◌, List, [], ◌∷◌, eqb, ltb, set, replicate}
use Rattle.lines.specs.Lines.{Lines}
use Rattle.moves.specs.declared.Move.{Move}
use Rattle.moves.specs.declared.Move.TheVariants.{Swap, Shift, Reassign}
use Rattle.moves.specs.declared.Pairing.{Pairing}
use Rattle.moves.specs.Moves.{pair_of}
use Rattle.trial.specs.declared.Taboo.{Taboo}

abbrev pub entry : (first second until : ℕ) → Taboo
entry x y t = record { first = x; second = y; until = t }

-- live at no step
abbrev pub outdated : Taboo
outdated = entry 0 0 0

abbrev pub fresh : List Taboo
fresh = replicate 6 outdated

abbrev pub live : (step : ℕ) → Taboo → Bool
live step t = ltb step t.until

-- live, and names these two in this order
abbrev pub names : (step : ℕ) → Taboo → (x y : ℕ) → Bool
names step t x y = live step t && (eqb t.first x && eqb t.second y)

unfoldable pub listed : (step : ℕ) → List Taboo → (x y : ℕ) → Bool
listed step [] x y = false
listed step (t ∷ places) x y = names step t x y || listed step places x y

abbrev pub either_way : (step : ℕ) → List Taboo → Pairing → Bool
either_way step places p = listed step places p.first p.second || listed step places p.second p.first

-- the moved pairs, and the machines left
abbrev pub forbidden : (step : ℕ) → (pairs left : List Taboo) → Lines → Move → Bool
forbidden step pairs left lines (Swap m i) = either_way step pairs (pair_of lines (Swap m i))
forbidden step pairs left lines (Shift m i j) = either_way step pairs (pair_of lines (Shift m i j))
forbidden step pairs left lines (Reassign a r i q j) = listed step left a q

-- two more until step + 6, in the place that six steps ago was written
abbrev pub listing : (step : ℕ) → List Taboo → (x y : ℕ) → List Taboo
listing step places x y = set places (step % 6) (entry x y (step + 6))

abbrev pub listing_pair : (step : ℕ) → List Taboo → Pairing → List Taboo
listing_pair step places p = listing step places p.first p.second

-- both lists once a move of these lines is made
abbrev pub pairs_after : (step : ℕ) → (pairs : List Taboo) → Lines → Move → List Taboo
pairs_after step pairs lines (Swap m i) = listing_pair step pairs (pair_of lines (Swap m i))
pairs_after step pairs lines (Shift m i j) = listing_pair step pairs (pair_of lines (Shift m i j))
pairs_after step pairs lines (Reassign a r i q j) = pairs

abbrev pub left_after : (step : ℕ) → (left : List Taboo) → Move → List Taboo
left_after step left (Swap m i) = left
left_after step left (Shift m i j) = left
left_after step left (Reassign a r i q j) = listing step left a r
