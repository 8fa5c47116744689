-- `graph_shown::p7` shows a plan. Assumes nothing.
use mathlib.Core.Path.{refl}
use native.Mathlib.Omega.{arith}
use Rattle.graph.specs.Counting.{Below}
use Rattle.graph_shown.proofs.p7.Goals as goal

pub show-requires : goal.show-requires
unfolding Below
show-requires g c = record { lined = refl; tasked = refl; even = refl; few = omega arith; known = tt; named = tt }
