-- The lines that the genes give, in cells and lengths; none where they miss an activity.
use Rattle.std.specs.Prelude.{◌≡◌, not, List, ℕ, Option, Some, is_some}
use Rattle.plan.specs.Problem.{Problem, Genes}
use Rattle.lines.specs.Lines.{lines_in}
use Rattle.genes.specs.Indexed.{misses, lines_of_genes}

pub record Lines (p : Problem) (g : Genes) (cells : List ℕ) (dealt : Option (List ℕ)) : Type 0 where
  pub whole : is_some dealt ≡ not (misses p g)
  pub held : (lens : List ℕ) → dealt ≡ Some lens → lines_in cells lens ≡ lines_of_genes p g
