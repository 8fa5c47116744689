-- P6 of document 01: made at step 0, forbidden at 1 to 5, free at 6. Assumes nothing.
use Prim.Native.Nat.{ℕ}
use mathlib.Core.Path.{◌≡◌, refl}
use mathlib.Core.Bool.{Bool, true, false, ◌&&◌, ◌||◌}
use mathlib.Core.List.{[], ◌∷◌}
use native.Mathlib.Omega.{arith}
use borrow.Author.Tests.{le-ltb, eq-eqb}
use lib.Dec.{ltb}
use Rattle.lines.specs.Lines.{Lines}
use Rattle.moves.specs.declared.Move.TheVariants.{Swap, Reassign}
use Rattle.moves.specs.Moves.{applied, swap_at}
use Rattle.trial.specs.Taboo.{fresh, listed, listing, forbidden, pairs_after, left_after}

-- what is listed at step 0 is live before step 6
pub first-listed : (x y step : ℕ) → listed step (listing 0 fresh x y) x y ≡ ltb step 6
unfolding listed
first-listed x y step = rw (le-ltb step 0 (omega arith), eq-eqb x x refl, eq-eqb y y refl) (closed (ltb step 6))
  where
    closed : (b : Bool) → ((b && (true && true)) || (false || (false || (false || (false || (false || false)))))) ≡ b
    closed true = refl
    closed false = refl

-- Plan S: the swap of a0 and a2 is made at step 0; whether the swap back is forbidden at steps 1 to 6
abbrev lines : Lines
lines = (0 ∷ 2 ∷ []) ∷ (1 ∷ 3 ∷ []) ∷ []

abbrev back : ℕ → Bool
back step = forbidden step (pairs_after 0 fresh lines (Swap 0 0)) (left_after 0 fresh (Swap 0 0)) (applied (Swap 0 0) lines) (Swap 0 0)

pub swap-back : (back 1 ∷ back 2 ∷ back 3 ∷ back 4 ∷ back 5 ∷ back 6 ∷ []) ≡ (true ∷ true ∷ true ∷ true ∷ true ∷ false ∷ [])
unfolding listed swap_at
swap-back = refl

-- a0 goes from machine 0 to machine 1 at step 0; whether it may go back to machine 0
abbrev returning : ℕ → Bool
returning step = forbidden step (pairs_after 0 fresh lines (Reassign 0 0 0 1 0)) (left_after 0 fresh (Reassign 0 0 0 1 0)) (applied (Reassign 0 0 0 1 0) lines) (Reassign 0 1 0 0 0)

pub reassigned_back : (returning 1 ∷ returning 2 ∷ returning 3 ∷ returning 4 ∷ returning 5 ∷ returning 6 ∷ []) ≡ (true ∷ true ∷ true ∷ true ∷ true ∷ false ∷ [])
unfolding listed
reassigned_back = refl
