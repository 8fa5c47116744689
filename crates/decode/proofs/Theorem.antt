-- What is true of the sheet that is shown: it is one of the two decoders'.
use Prim.Native.Nat.{ℕ}
use mathlib.Core.Bool.{Bool, true, false}
use native.Mathlib.Omega.{arith}
use lib.Ieee.{lt}
use Rattle.plan.specs.Problem.{Problem, Genes}
use Rattle.plan.specs.Accepted.{Accepted}
use Rattle.board.specs.Board.{Board}
use Rattle.board.specs.Sound.{Sound}
use Rattle.board.proofs.BoardLaws.{ends_within}
use Rattle.in_order.specs.InOrder.{place_in_order}
use Rattle.in_order.proofs.Theorem.{well_placed}
use Rattle.active.specs.Active.{place_active}
use Rattle.active.proofs.Theorem.{active-placed}
use Rattle.decode.specs.Decode.{sheet_fitness, pick_board, better_placement}
use Rattle.decode.specs.WellDecoded.{WellDecoded}

pick_sound : (n : ℕ) (t : Bool) (x y : Board) → Sound n x → Sound n y → Sound n (pick_board t x y)
pick_sound n true x y h k = h
pick_sound n false x y h k = k

module _ (p : Problem) (g : Genes) (ok : Accepted p g) where
  sound : Sound p.n (better_placement p g)
  sound =
      pick_sound p.n (lt (sheet_fitness p (place_active p g)) (sheet_fitness p (place_in_order p g))) (place_active p g) (place_in_order p g) (active-placed p g ok).sound (well_placed p g ok).sound

  pub well_decoded : WellDecoded p g
  well_decoded =
      record {
        sound = sound;
        once = λ a. omega (arith, sound.once a, sound.flags a);
        within = ends_within ok.activities.1 sound;
      }
