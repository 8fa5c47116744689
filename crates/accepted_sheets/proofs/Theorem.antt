-- A complete sheet of either decoder, and of the better of the two, is accepted by the sheet check; and where neither number 4 nor outcome 11 is
-- given, these sheets are complete.
use Prim.Native.Nat.{ℕ}
use mathlib.Core.Path.{◌≡◌}
use mathlib.Core.Bool.{Bool, true, false}
use mathlib.Core.List.{List}
use lib.Ieee.{lt}
use Rattle.graph.specs.Arcs.{Circle}
use Rattle.reader.specs.Answer.{Reading}
use Rattle.plan.specs.Problem.{Problem, Genes}
use Rattle.plan.specs.Accepted.{Accepted}
use Rattle.intake.specs.Circle.{Before}
use Rattle.intake.specs.Intake.{problem_in, genes_in}
use Rattle.intake.specs.Sound.{Sound}
use Rattle.genes.specs.Indexed.{misses}
use Rattle.board.specs.Board.{Board}
use Rattle.in_order.specs.InOrder.{place_in_order}
use Rattle.active.specs.Active.{place_active}
use Rattle.decode.specs.Decode.{sheet_fitness, pick_board, better_placement}
use Rattle.accepted_sheets.specs.Complete.{Complete, Passes, CompleteAccepted, NobodyLeftOut}
use Rattle.accepted_sheets.proofs.LawfulLaws.{orderly_passes}
use Rattle.accepted_sheets.proofs.InOrderLaws.{in_order_orderly}
use Rattle.accepted_sheets.proofs.ActiveLaws.{active_orderly}
use Rattle.accepted_sheets.proofs.WholeLaws.{in_order_whole, active_whole, all_manned}

pick-has : (P : Board → Type 0) (t : Bool) (x y : Board) → P x → P y → P (pick_board t x y)
pick-has P true x y h k = h
pick-has P false x y h k = k

module _ (p : Problem) (g : Genes) (ok : Accepted p g) where
  in_order_passes : Passes p g (place_in_order p g)
  in_order_passes full = orderly_passes ok (in_order_orderly ok full) full

  active_passes : Passes p g (place_active p g)
  active_passes = orderly_passes ok (active_orderly ok)

  -- the better of the two is one of the two
  shown-has : (P : Board → Type 0) → P (place_active p g) → P (place_in_order p g) → P (better_placement p g)
  shown-has P = pick-has P (lt (sheet_fitness p (place_active p g)) (sheet_fitness p (place_in_order p g))) (place_active p g) (place_in_order p g)

  pub complete_accepted : CompleteAccepted p g
  complete_accepted =
      record {
        in_order = in_order_passes;
        active = active_passes;
        shown = shown-has (Passes p g) active_passes in_order_passes;
      }

  pub nobody_left_out : (Circle p.n (Before p) → ⊥) → misses p g ≡ false → NobodyLeftOut p g
  nobody_left_out acyclic none =
      let full = in_order_whole ok acyclic none in
      let active_full = active_whole ok (all_manned ok none) acyclic in
      let shown_full = shown-has (Complete p) active_full full in
      record {
        in_order = full;
        active = active_full;
        shown = shown_full;
        accepted = complete_accepted.shown shown_full;
      }

-- Of a plan taken in, which has no circle.
pub taken_in_accepted : {s : List ℕ} {r : Reading} → Sound s r → misses (problem_in s r) (genes_in s r) ≡ false → NobodyLeftOut (problem_in s r) (genes_in s r)
taken_in_accepted {s} {r} taken none = nobody_left_out (problem_in s r) (genes_in s r) taken.accepted taken.acyclic none
