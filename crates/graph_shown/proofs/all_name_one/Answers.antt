-- `graph_shown::all_name_one` shows a plan. Assumes nothing.
use mathlib.Core.Path.{refl}
use native.Mathlib.Omega.{arith}
use Rattle.graph.specs.Counting.{Below}
use Rattle.graph_shown.proofs.all_name_one.Goals as goal

pub show-requires : goal.show-requires
unfolding Below
show-requires g c = record { lined = refl; tasked = refl; even = refl; few = omega arith; known = (omega arith, (omega arith, (omega arith, tt))); named = (omega arith, (omega arith, (omega arith, tt))) }
