-- What is true of the sheet that is placed actively.
use Rattle.std.specs.Prelude.{None, Option, Some}
use Prim.Native.Nat.{ℕ, zero, suc}
use mathlib.Core.Path.{◌≡◌, refl}
use mathlib.Core.List.{List}
use native.Mathlib.Omega.{arith}
use Rattle.plan.specs.Problem.{Problem, Genes}
use Rattle.plan.specs.Accepted.{Accepted}
use Rattle.genes.specs.Indexed.{indexed}
use Rattle.board.specs.Board.{Board, empty_board, sit}
use Rattle.board.specs.declared.Seat.{Seat}
use Rattle.board.specs.Sound.{Sound}
use Rattle.board.proofs.BoardLaws.{empty_sound, ends_within}
use Rattle.active.specs.Active.{ranks_of, scanned, choice_on, place_from, place_active}
use Rattle.active.specs.ActivePlaced.{ActivePlaced}
use Rattle.active.proofs.SeenLaws.{scan_seen}
use Rattle.active.proofs.PlacingLaws.{choice_fine}

module _ (p : Problem) (g : Genes) (ok : Accepted p g) where
  from_sound : (ranks : List ℕ) (fuel : ℕ) (c : Option Seat) (b : Board) → Sound p.n b → choice_on p g ranks b ≡ c → Sound p.n (place_from p g ranks fuel c (scanned p g b))
  unfolding place_from
  from_sound ranks zero c b w e = (scan_seen ok b w).sound
  from_sound ranks (suc fuel) None b w e = (scan_seen ok b w).sound
  from_sound ranks (suc fuel) (Some x) b w e =
      from_sound ranks fuel (choice_on p g ranks (sit p x (scanned p g b))) (sit p x (scanned p g b)) (choice_fine ok ranks w x e).sound refl

  sound : Sound p.n (place_active p g)
  sound =
      from_sound (ranks_of (indexed p g)) p.n (choice_on p g (ranks_of (indexed p g)) (empty_board p.n)) (empty_board p.n) (empty_sound p.n) refl

  pub active-placed : ActivePlaced p g
  active-placed =
      record {
        sound = sound;
        known = sound.known;
        once = λ a. omega (arith, sound.once a, sound.flags a);
        within = ends_within ok.activities.1 sound;
      }
