-- `grammar::comes_before` meets its contract. The loop's invariant: the words passed are equal, so the words left decide.
use Prim.Native.Nat.{◌+◌, ◌-◌}
use mathlib.Core.Path.{◌≡◌}
use Rattle.words.specs.Words.{words}
use Rattle.grammar.specs.Rules.{precedes}
use Rattle.grammar.proofs.comes_before.Given as goal

abbrev pub invariant-loop-k : goal.invariant-loop-k
invariant-loop-k l = precedes (words l.s) l.n l.i l.j ≡ precedes (words l.s) (l.n - l.k) (l.i + l.k) (l.j + l.k)
