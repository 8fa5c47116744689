-- Six taboo places never lose a live entry of the search: after any number of steps it has come to where it would be had every entry been kept.
-- Assumes nothing.
use Rattle.std.specs.Prelude.{Option}
use Prim.Native.Nat.{ℕ, zero, suc}
use mathlib.Core.Path.{◌≡◌, refl, sym, ap, ap₂, ◌∙◌, subst}
use mathlib.Core.Bool.{Bool}
use mathlib.Core.List.{List, [], ◌∷◌}
use native.Mathlib.Omega.{arith}
use lib.Ieee.{Float, lt}
use lib.ListN.{length}
use Rattle.plan.specs.Problem.{Problem}
use Rattle.lines.specs.Lines.{Lines}
use Rattle.moves.specs.Moves.{applied}
use Rattle.moves.specs.declared.Move.{Move}
use Rattle.moves.specs.declared.Pairing.{Pairing}
use Rattle.trial.specs.Taboo.{forbidden, pairs_after, left_after}
use Rattle.trial.specs.History.{pair_made, left_made, entries_with, six_places, all_entries}
use Rattle.trial.specs.Trial.{tried, tried_all}
use Rattle.trial.specs.declared.Taboo.{Taboo}
use Rattle.trial.specs.declared.Best.{Best}
use Rattle.trial.specs.declared.Best.TheVariants.{Nothing, Found}
use Rattle.trial.proofs.SixPlaces.{pairs_made, left_made_lem, forbidden_by_all}
use Rattle.search.specs.Step.{moves_from}
use Rattle.search.specs.Search.{State, Saved, unsaved, genes_on, saved_if, lesser_if, best_from, made, steps_from, begun, searched_to}
use Rattle.improved_genes.specs.EveryEntry.{made_keeping, steps_keeping, begun_keeping, searched_keeping, Alike}

-- moves tried by two tests that agree
tried_alike : (p : Problem) (lines : Lines) (forbid other : Move → Bool) (best : Float) → ((m : Move) → forbid m ≡ other m) → (moves : List Move) (b : Best)
    → tried_all p lines forbid best moves b ≡ tried_all p lines other best moves b
unfolding tried_all
tried_alike p lines forbid other best h [] b = refl
tried_alike p lines forbid other best h (m ∷ moves) b =
    tried_alike p lines forbid other best h moves (tried p lines (forbid m) best m b)
    ∙ ap (λ (t : Bool). tried_all p lines other best moves (tried p lines t best m b)) (h m)

abbrev state_of : (lines : Lines) → (pairs left : List Taboo) → (best : Float) → Saved → State
state_of lines pairs left best found = record { lines = lines; pairs = pairs; left = left; best = best; found = found }

module _ (p : Problem) where
  -- with six places, and with every entry, of the same steps
  abbrev six : List (Option Pairing) → List (Option Pairing) → Lines → Float → Saved → State
  six pairs left lines best found = state_of lines (six_places pairs) (six_places left) best found

  abbrev every : List (Option Pairing) → List (Option Pairing) → Lines → Float → Saved → State
  every pairs left lines best found = state_of lines (all_entries pairs) (all_entries left) best found

  best_alike : (step : ℕ) (pairs left : List (Option Pairing)) (lines : Lines) (best : Float) (found : Saved) → length pairs ≡ step → length left ≡ step
      → best_from p step (six pairs left lines best found) ≡ best_from p step (every pairs left lines best found)
  best_alike step pairs left lines best found h k =
      tried_alike p lines (forbidden step (six_places pairs) (six_places left) lines) (forbidden step (all_entries pairs) (all_entries left) lines) best
      (λ m. forbidden_by_all pairs left step (omega (arith, h)) (omega (arith, k)) lines m) (moves_from p lines) Nothing

  steps_alike : (most step : ℕ) (pairs left : List (Option Pairing)) (lines : Lines) (best : Float) (found : Saved) (b : Best) → length pairs ≡ step → length left ≡ step
      → Alike (steps_from p most step b (six pairs left lines best found)) (steps_keeping p most step b (every pairs left lines best found))
  unfolding steps_from steps_keeping all_entries
  steps_alike zero step pairs left lines best found b h k = record { lines = refl; best = refl; found = refl }
  steps_alike (suc most) step pairs left lines best found Nothing h k = record { lines = refl; best = refl; found = refl }
  steps_alike (suc most) step pairs left lines best found (Found f m) h k =
      let lines' = applied m lines in
      let best' = lesser_if (lt f best) f best in
      let found' = saved_if (lt f best) (genes_on p lines') found in
      let pairs' = pair_made lines m ∷ pairs in
      let left' = left_made lines m ∷ left in
      let one : made p step (six pairs left lines best found) f m ≡ six pairs' left' lines' best' found' =
      ap₂ (λ (x y : List Taboo). state_of lines' x y best' found')
      (ap (λ (i : ℕ). pairs_after i (six_places pairs) lines m) (sym h) ∙ pairs_made pairs lines m)
      (ap (λ (i : ℕ). left_after i (six_places left) m) (sym k) ∙ left_made_lem left lines m) in
      let other : made_keeping p step (every pairs left lines best found) f m ≡ every pairs' left' lines' best' found' =
      ap₂ (λ (x y : List Taboo). state_of lines' x y best' found')
      (ap (λ (i : ℕ). entries_with i (all_entries pairs) (pair_made lines m)) (sym h))
      (ap (λ (i : ℕ). entries_with i (all_entries left) (left_made lines m)) (sym k)) in
      let next = best_from p (suc step) (every pairs' left' lines' best' found') in
      let same = best_alike (suc step) pairs' left' lines' best' found' (omega (arith, h)) (omega (arith, k)) in
      let x : steps_from p most (suc step) (best_from p (suc step) (made p step (six pairs left lines best found) f m)) (made p step (six pairs left lines best found) f m) ≡ steps_from p most (suc step) next (six pairs' left' lines' best' found') =
      ap (λ (s : State). steps_from p most (suc step) (best_from p (suc step) s) s) one ∙ ap (λ (b : Best). steps_from p most (suc step) b (six pairs' left' lines' best' found')) same in
      let y : steps_keeping p most (suc step) (best_from p (suc step) (made_keeping p step (every pairs left lines best found) f m)) (made_keeping p step (every pairs left lines best found) f m) ≡ steps_keeping p most (suc step) next (every pairs' left' lines' best' found') =
      ap (λ (s : State). steps_keeping p most (suc step) (best_from p (suc step) s) s) other in
      let deeper = steps_alike most (suc step) pairs' left' lines' best' found' next (omega (arith, h)) (omega (arith, k)) in
      subst (λ (s : State). Alike s (steps_keeping p (suc most) step (Found f m) (every pairs left lines best found))) (sym x) (subst (λ (s : State). Alike (steps_from p most (suc step) next (six pairs' left' lines' best' found')) s) (sym y) deeper)

  -- after any number of steps
  pub no-live-entry_lost : (limit : ℕ) (lines : Lines) → Alike (searched_to p limit lines) (searched_keeping p limit lines)
  unfolding six_places all_entries
  no-live-entry_lost limit lines =
      let f = (begun p lines).best in
      subst (λ (b : Best). Alike (searched_to p limit lines) (steps_keeping p limit 0 b (begun_keeping p lines)))
      (best_alike 0 [] [] lines f unsaved refl refl) (steps_alike limit 0 [] [] lines f unsaved (best_from p 0 (begun p lines)) refl refl)
