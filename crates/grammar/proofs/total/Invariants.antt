use Prim.Native.Nat.{◌≤◌, ◌+◌, ◌*◌, ◌-◌}
use mathlib.Core.Path.{◌≡◌}
use Rattle.words.specs.Words.{words}
use Rattle.grammar.specs.Rules.{total_from}
use Rattle.grammar.proofs.total.Given as goal

abbrev pub invariant-loop-e : goal.invariant-loop-e
invariant-loop-e l = (l.sum ≤ l.e * 4294967295) × (total_from (words l.s) l.n l.at ≡ l.sum + total_from (words l.s) (l.n - l.e) (l.at + 5 * l.e))
