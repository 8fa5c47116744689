-- What is true of the sheet that is placed in order.
use native.Mathlib.Omega.{arith}
use Rattle.graph.proofs.NamingLaws.{zeros_at}
use Rattle.plan.specs.Problem.{Problem, Genes}
use Rattle.plan.specs.Accepted.{Accepted}
use Rattle.genes.specs.Indexed.{indexed}
use Rattle.genes.proofs.IndexedLaws.{indexed_below, indexed-once}
use Rattle.board.specs.Board.{empty_board}
use Rattle.board.specs.Sound.{Sound}
use Rattle.board.proofs.BoardLaws.{empty_sound, ends_within}
use Rattle.in_order.specs.InOrder.{ready_order, place_in_order}
use Rattle.in_order.specs.WellPlaced.{WellPlaced}
use Rattle.in_order.proofs.OrderLaws.{ready_below, ready_once}
use Rattle.in_order.proofs.SheetLaws.{all_sound, all_order}
use Rattle.in_order.proofs.CompleteLaws.{all_taken}

module _ (p : Problem) (g : Genes) (ok : Accepted p g) where
  sound : Sound p.n (place_in_order p g)
  sound =
      all_sound p g ok (ready_order p (indexed p g)) (empty_board p.n) (empty_sound p.n) (ready_below p (indexed p g) (indexed_below ok))
      (ready_once p (indexed p g) (indexed_below ok) ok.activities.1) (λ x h. zeros_at p.n x)

  pub well_placed : WellPlaced p g
  well_placed =
      record {
        sound = sound;
        rows = all_order p g ok (ready_order p (indexed p g)) (empty_board p.n);
        once = λ a. omega (arith, sound.once a, sound.flags a);
        within = ends_within ok.activities.1 sound;
        all = λ acyclic. all_taken p (indexed p g) (indexed_below ok) acyclic ok.activities.1 (indexed-once ok);
      }
