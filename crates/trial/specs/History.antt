-- Document 01, "One search step": a step lists at most one entry, until step + 6. Here is what a list holds after some steps, in six places and
-- with every entry kept, so that the two can be compared. Steps are counted from 0.
use Rattle.std.specs.Prelude.{List, [], ◌∷◌, ℕ, ◌+◌, length, Some, None, Option}
use Rattle.lines.specs.Lines.{Lines}
use Rattle.moves.specs.declared.Move.{Move}
use Rattle.moves.specs.declared.Move.TheVariants.{Swap, Shift, Reassign}
use Rattle.moves.specs.declared.Pairing.{Pairing}
use Rattle.moves.specs.Moves.{pair_of}
use Rattle.trial.specs.declared.Taboo.{Taboo}
use Rattle.trial.specs.Taboo.{entry, fresh, listing_pair}

-- what the step lists that makes a move of these lines: its pair, or the activity and the machine left
abbrev pub pair_made : Lines → Move → Option Pairing
pair_made lines (Swap m i) = Some (pair_of lines (Swap m i))
pair_made lines (Shift m i j) = Some (pair_of lines (Shift m i j))
pair_made lines (Reassign a r i q j) = None

abbrev pub left_made : Lines → Move → Option Pairing
left_made lines (Swap m i) = None
left_made lines (Shift m i j) = None
left_made lines (Reassign a r i q j) = Some (pair_of lines (Reassign a r i q j))

-- with what a step lists
abbrev pub places_with : (step : ℕ) → List Taboo → Option Pairing → List Taboo
places_with step places None = places
places_with step places (Some p) = listing_pair step places p

abbrev pub entries_with : (step : ℕ) → List Taboo → Option Pairing → List Taboo
entries_with step entries None = entries
entries_with step entries (Some p) = entry p.first p.second (step + 6) ∷ entries

-- the six places after these steps, the latest first
unfoldable pub six_places : List (Option Pairing) → List Taboo
six_places [] = fresh
six_places (e ∷ steps) = places_with (length steps) (six_places steps) e

-- every entry of these steps
unfoldable pub all_entries : List (Option Pairing) → List Taboo
all_entries [] = []
all_entries (e ∷ steps) = entries_with (length steps) (all_entries steps) e
