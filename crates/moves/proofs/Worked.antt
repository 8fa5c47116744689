-- Small moves worked out by the rules themselves: P5's four, and a reassignment there and back. Assumes nothing.
use mathlib.Core.Path.{◌≡◌, refl}
use mathlib.Core.List.{[], ◌∷◌}
use Rattle.lines.specs.Lines.{Lines}
use Rattle.moves.specs.declared.Move.TheVariants.{Swap, Shift, Reassign}
use Rattle.moves.specs.Moves.{swap_at, shifted, applied, reversed, two, pair_of}

-- m0 a7 a8 a9, m1 a4
abbrev three : Lines
three = (7 ∷ 8 ∷ 9 ∷ []) ∷ (4 ∷ []) ∷ []

-- P5: the moves of positions 0..2
swaps : (applied (Swap 0 0) three ≡ (8 ∷ 7 ∷ 9 ∷ []) ∷ (4 ∷ []) ∷ []) × (applied (Swap 0 1) three ≡ (7 ∷ 9 ∷ 8 ∷ []) ∷ (4 ∷ []) ∷ [])
unfolding swap_at
swaps = (refl, refl)

shifts : (applied (Shift 0 2 0) three ≡ (9 ∷ 7 ∷ 8 ∷ []) ∷ (4 ∷ []) ∷ []) × (applied (Shift 0 0 2) three ≡ (8 ∷ 9 ∷ 7 ∷ []) ∷ (4 ∷ []) ∷ [])
unfolding shifted
shifts = (refl, refl)

-- a8 goes behind a4, and back
there : applied (Reassign 8 0 1 1 1) three ≡ (7 ∷ 9 ∷ []) ∷ (4 ∷ 8 ∷ []) ∷ []
there = refl

back : applied (reversed (Reassign 8 0 1 1 1)) (applied (Reassign 8 0 1 1 1) three) ≡ three
back = refl

-- the one moved and the one at the target; the activity and the machine that it leaves
pairs : (pair_of three (Swap 0 1) ≡ two 8 9) × (pair_of three (Shift 0 2 0) ≡ two 9 7) × (pair_of three (Shift 0 0 2) ≡ two 7 9) × (pair_of three (Reassign 8 0 1 1 1) ≡ two 8 0)
pairs = (refl, refl, refl, refl)
