-- What the inner functions ask: a plan that was taken in, with its tables, and buffers that are long enough.
use Rattle.std.specs.Prelude.{ℕ, List}
use Rattle.words.specs.Words.{words}
use Rattle.plan.specs.Input.{problem_of, genes_of}
use Rattle.plan.specs.Found.{Placed, Weighed}
use Rattle.plan.specs.Accepted.{Accepted}
use Rattle.plan.specs.declared.Layout.{Layout}
use Rattle.tables.specs.Tabled.{Tabled}

pub record Taken (s : List ℕ) (z : Layout) (table : List ℕ) : Type 0 where
  pub placed : Placed z
  pub accepted : Accepted (problem_of (words s) z) (genes_of (words s) z)
  pub weighed : Weighed (words s) z
  pub tabled : Tabled (problem_of (words s) z) table
