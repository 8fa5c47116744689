-- What is true of the sheet that is placed in order: its rows are the activities taken that have a machine, in the order in which they are
-- taken; none stands there twice; no end is later than document 01 says; and where task order and predecessors close no circle, every
-- activity of the order is taken, once.
use Rattle.std.specs.Prelude.{ℕ, ◌≤◌, ◌≡◌, get_or}
use Rattle.graph.specs.Counting.{count_of}
use Rattle.graph.specs.Arcs.{Circle}
use Rattle.plan.specs.Problem.{Problem, Genes}
use Rattle.intake.specs.Circle.{Before}
use Rattle.genes.specs.Indexed.{indexed, is_assigned}
use Rattle.board.specs.Board.{those}
use Rattle.board.specs.Sound.{Sound}
use Rattle.in_order.specs.InOrder.{ready_order, place_in_order}

pub record WellPlaced (p : Problem) (g : Genes) : Type 0 where
  pub sound : Sound p.n (place_in_order p g)
  pub rows : (place_in_order p g).order ≡ those (λ a. is_assigned (g.assigned a)) (ready_order p (indexed p g))
  pub once : (a : ℕ) → count_of a (place_in_order p g).order ≤ 1
  pub within : (a : ℕ) → get_or (place_in_order p g).ends a 0 ≤ 1101659110911
  pub all : (Circle p.n (Before p) → ⊥) → (a : ℕ) → count_of a (ready_order p (indexed p g)) ≡ count_of a (indexed p g)
