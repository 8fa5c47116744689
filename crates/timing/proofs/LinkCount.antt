-- A link names one activity at most.
use Rattle.std.specs.Prelude.{None, Option, Some, ℕ}
use Prim.Native.Nat.{ℕ, ◌≤◌}
use mathlib.Core.Path.{◌≡◌}
use mathlib.Core.List.{List}
use native.Mathlib.Omega.{arith}
use lib.ListN.{length}
use Rattle.graph.specs.Links.{linked, link_of}

pub link_length : (l : Option ℕ) → length (linked l) ≤ 1
link_length (Some b) = omega arith
link_length None = omega arith

pub one_at_most : (links : List ℕ) (a : ℕ) {more : ℕ} → more ≡ length (linked (link_of links a)) → more ≤ 1
one_at_most links a e = omega (arith, link_length (link_of links a))
