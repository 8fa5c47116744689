-- What is true of the sheet that is shown: none stands there twice, and no end is later than document 01 says.
use Rattle.std.specs.Prelude.{ℕ, ◌≤◌, get_or}
use Rattle.graph.specs.Counting.{count_of}
use Rattle.plan.specs.Problem.{Problem, Genes}
use Rattle.board.specs.Sound.{Sound}
use Rattle.decode.specs.Decode.{better_placement}

pub record WellDecoded (p : Problem) (g : Genes) : Type 0 where
  pub sound : Sound p.n (better_placement p g)
  pub once : (a : ℕ) → count_of a (better_placement p g).order ≤ 1
  pub within : (a : ℕ) → get_or (better_placement p g).ends a 0 ≤ 1101659110911
