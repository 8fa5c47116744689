-- What is true of the sheet that is placed actively: none stands there twice, and no end is later than document 01 says.
use Rattle.std.specs.Prelude.{ℕ, ◌≤◌, get_or}
use Rattle.graph.specs.Counting.{count_of, Below}
use Rattle.plan.specs.Problem.{Problem, Genes}
use Rattle.board.specs.Sound.{Sound}
use Rattle.active.specs.Active.{place_active}

pub record ActivePlaced (p : Problem) (g : Genes) : Type 0 where
  pub sound : Sound p.n (place_active p g)
  pub known : Below p.n (place_active p g).order
  pub once : (a : ℕ) → count_of a (place_active p g).order ≤ 1
  pub within : (a : ℕ) → get_or (place_active p g).ends a 0 ≤ 1101659110911
