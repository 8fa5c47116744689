-- All that a plan taken in promises, in one record: what acceptance says of the problem and the genes, how the words lie, and that task order
-- and predecessors close no circle. Later proofs lean on this and on nothing else of the reader.
use Rattle.std.specs.Prelude.{List, ℕ}
use Rattle.words.specs.Words.{words}
use Rattle.reader.specs.Answer.{Reading}
use Rattle.graph.specs.Arcs.{Circle}
use Rattle.plan.specs.Found.{Placed, Weighed, layout_of}
use Rattle.plan.specs.Laid.{Laid}
use Rattle.plan.specs.Accepted.{Accepted}
use Rattle.intake.specs.Circle.{Before}
use Rattle.intake.specs.Intake.{problem_in, genes_in}

pub record Sound (s : List ℕ) (r : Reading) : Type 0 where
  pub accepted : Accepted (problem_in s r) (genes_in s r)
  pub laid : Laid (words s) (layout_of r)
  pub placed : Placed (layout_of r)
  pub weighed : Weighed (words s) (layout_of r)
  pub acyclic : Circle (problem_in s r).n (Before (problem_in s r)) → ⊥
