-- Document 01, outcomes 13 and 14: what Improve's answer says of the genes that it was given, and of those that it writes.
use Rattle.std.specs.Prelude.{ℕ, ◌<◌, ◌≡◌, true, false, List, ◌⊎◌, Float, length, get_or, Some}
use Rattle.std.specs.Float.Ieee.{lt}
use Rattle.graph.specs.Counting.{count_of}
use Rattle.plan.specs.Problem.{Problem, Genes}
use Rattle.plan.specs.Accepted.{Accepted}
use Rattle.genes.specs.Indexed.{misses, lines_of_genes}
use Rattle.renewed.specs.Meaning.{genes_written}
use Rattle.timing.specs.Timing.{contradicts}
use Rattle.trial.specs.Trial.{line_fitness}
use Rattle.search.specs.Search.{nothing_better, improved, improve}

-- the fitness that the search begins with
abbrev pub first_fitness : Problem → Genes → Float
first_fitness p g = line_fitness p (lines_of_genes p g)

-- a machine for an activity: one of its candidates, or the one that it had
abbrev pub Able : Problem → Genes → (a m : ℕ) → Type 0
Able p g a m = (0 < count_of m (p.candidates a)) ⊎ (g.assigned a ≡ Some m)

-- each task is named as often as it has activities, and each activity has a machine
pub record WholeGenes (p : Problem) (g : Genes) (tasks machines : List ℕ) : Type 0 where
  pub all_named : length tasks ≡ p.n
  pub named_known : (i : ℕ) → i < p.n → get_or tasks i 0 < p.tasks
  pub as_often : (t : ℕ) → t < p.tasks → count_of t tasks ≡ p.steps t
  pub all_seated : length machines ≡ p.n
  pub known : (a : ℕ) → a < p.n → get_or machines a 0 < p.machines
  pub able : (a : ℕ) → a < p.n → Able p g a (get_or machines a 0)

-- what is so of a fitness and of the genes written with it: they can stand in the plan, and timed as they stand they have that fitness
pub record Better (p : Problem) (g : Genes) (f : Float) (tasks machines : List ℕ) : Type 0 where
  pub lower : lt f (first_fitness p g) ≡ true
  pub whole : WholeGenes p g tasks machines
  pub accepted : Accepted p (genes_written tasks machines)
  pub complete : misses p (genes_written tasks machines) ≡ false
  pub possible : contradicts p (lines_of_genes p (genes_written tasks machines)) ≡ false
  pub exact : first_fitness p (genes_written tasks machines) ≡ f

-- at 13 nothing was found below the fitness that the search began with; at 14 something was
pub record Improves (p : Problem) (g : Genes) : Type 0 where
  pub thirteen : (f : Float) → improve p g ≡ nothing_better f → f ≡ first_fitness p g
  pub fourteen : (f : Float) (tasks machines : List ℕ) → improve p g ≡ improved f tasks machines → Better p g f tasks machines
