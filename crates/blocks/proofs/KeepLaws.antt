-- Three or fewer moves as given, else the three of least estimate: both are the best three of the moves as they are offered.
use Prim.Native.Nat.{ℕ, ◌≤◌}
use mathlib.Core.Path.{◌≡◌, refl, ◌∙◌}
use mathlib.Core.Bool.{Bool, true, false, cond}
use mathlib.Core.List.{List, [], ◌∷◌, map}
use native.Mathlib.Omega.{arith}
use borrow.Author.Tests.{leb-true, le-leb}
use lib.Dec.{leb}
use lib.ListN.{length}
use Rattle.plan.specs.Problem.{Problem}
use Rattle.lines.specs.Lines.{Lines}
use Rattle.moves.specs.declared.Move.{Move}
use Rattle.ranking.specs.Ranking.{insert_by, sort_into, best_three, with_all}
use Rattle.ranking.proofs.StreamLaws.{streamed_all}
use Rattle.path.specs.Placing.{Placing}
use Rattle.blocks.specs.Keeping.{as_given, estimated, keep_best_estimated}
use Rattle.blocks.specs.Scanning.{offered}

-- moves of equal rank stay as given
few_kept : (moves : List Move) → length moves ≤ 3 → best_three (map as_given moves) ≡ map as_given moves
unfolding insert_by sort_into
few_kept [] h = refl
few_kept (a ∷ []) h = refl
few_kept (a ∷ b ∷ []) h = refl
few_kept (a ∷ b ∷ c ∷ []) h = refl
few_kept (a ∷ b ∷ c ∷ d ∷ moves) h = absurd (omega arith)

module _ (p : Problem) (lines : Lines) (s : Placing) (tail : List ℕ) where
  by_test : (moves : List Move) (t : Bool) → leb (length moves) 3 ≡ t
      → with_all [] (map (offered t p lines s tail) moves) ≡ cond t (map as_given moves) (best_three (map (estimated p lines s tail) moves))
  by_test moves true e = streamed_all (map as_given moves) ∙ few_kept moves (leb-true _ _ e)
  by_test moves false e = streamed_all (map (estimated p lines s tail) moves)

  pub kept : (moves : List Move) → with_all [] (map (offered (leb (length moves) 3) p lines s tail) moves) ≡ keep_best_estimated p lines s tail moves
  kept moves = by_test moves (leb (length moves) 3) refl

-- Three or fewer stay as they are whatever the tails, so that none need be worked out for them.
pub few_any_tails : (p : Problem) (lines : Lines) (s : Placing) (tail other : List ℕ) (moves : List Move) → length moves ≤ 3
    → keep_best_estimated p lines s tail moves ≡ keep_best_estimated p lines s other moves
few_any_tails p lines s tail other moves h = rw (le-leb (length moves) 3 h)
