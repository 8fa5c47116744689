-- `words::text::decimal_places` meets its contract. The loop's invariant: the places counted and those of `rest` make one more than those of `v`, since the last is counted from the start.
use Prim.Native.Nat.{◌+◌}
use mathlib.Core.Path.{◌≡◌}
use Rattle.words.specs.Digits.{places}
use Rattle.words.proofs.text.decimal_places.Given as goal

abbrev pub invariant-loop-rest : goal.invariant-loop-rest
invariant-loop-rest l = l.n + places l.rest ≡ places l.v + 1

abbrev pub decreases-loop-rest : goal.decreases-loop-rest
decreases-loop-rest l = l.rest
