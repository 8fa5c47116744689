-- The numbers on the screen, as document 01 lists them. Assumes nothing.
use Prim.Native.Nat.{ℕ}
use mathlib.Core.Path.{◌≡◌, refl}
use mathlib.Core.List.{List, [], ◌∷◌, map}
use Rattle.reader.specs.Refusals.{number_of}
use Rattle.reader.specs.declared.refusal.Reason.TheVariants.{Cut, Range, Rule, Circle, Rest, Room, Lines, Contradiction}

pub reasons_numbered : map number_of (Cut ∷ Range ∷ Rule ∷ Circle ∷ Rest ∷ Room ∷ Lines ∷ Contradiction ∷ []) ≡ 1 ∷ 2 ∷ 3 ∷ 4 ∷ 5 ∷ 6 ∷ 7 ∷ 8 ∷ []
reasons_numbered = refl
