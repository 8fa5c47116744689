-- Places looked through one after the other. Assumes nothing.
use Prim.Native.Nat.{ℕ, suc, ◌≤◌, ◌<◌}
use mathlib.Core.Path.{◌≡◌, refl, sym, ap, ◌∙◌}
use mathlib.Core.Bool.{Bool, true, false, ◌||◌}
use mathlib.Core.List.{List, [], ◌∷◌}
use native.Mathlib.Omega.{arith}
use lib.ListN.{length, get_or, drop, length-drop}
use lib.Seq.{drop-cons}
use Rattle.trial.specs.declared.Taboo.{Taboo}
use Rattle.trial.specs.Taboo.{outdated, names, listed}

module _ (step : ℕ) (places : List Taboo) (x y : ℕ) where
  at_place : (i : ℕ) → i < length places → listed step (drop i places) x y ≡ (names step (get_or places i outdated) x y || listed step (drop (suc i) places) x y)
  unfolding listed
  at_place i h = ap (λ (l : List Taboo). listed step l x y) (drop-cons places i outdated h)

  -- one that names them
  pub place-names : (i : ℕ) → i < length places → names step (get_or places i outdated) x y ≡ true → true ≡ listed step (drop i places) x y
  place-names i h e = sym (at_place i h ∙ ap (λ (t : Bool). t || listed step (drop (suc i) places) x y) e)

  -- one that does not
  pub place_passed : (i j : ℕ) → j ≡ suc i → i < length places → names step (get_or places i outdated) x y ≡ false → listed step (drop j places) x y ≡ listed step (drop i places) x y
  place_passed i j q h e =
      ap (λ (k : ℕ). listed step (drop k places) x y) q ∙ sym (at_place i h ∙ ap (λ (t : Bool). t || listed step (drop (suc i) places) x y) e)

no_place : (step : ℕ) (places : List Taboo) (x y : ℕ) → length places ≡ 0 → false ≡ listed step places x y
unfolding listed
no_place step [] x y e = refl
no_place step (t ∷ places) x y e = absurd (omega arith)

-- none left
pub places_done : (step : ℕ) (places : List Taboo) (x y i : ℕ) → length places ≤ i → false ≡ listed step (drop i places) x y
places_done step places x y i h = no_place step (drop i places) x y (omega (arith, length-drop i places))
