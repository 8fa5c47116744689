-- `grammar::pair_before` meets its contract. The loop's invariant: what is left to look at has risen to a or less, and holds the pair exactly
-- if all of it did.
use Prim.Native.Nat.{◌≤◌, ◌<◌, ◌-◌, ◌^◌}
use mathlib.Core.Path.{◌≡◌}
use lib.ListN.{get_or}
use Rattle.words.specs.Words.{words}
use Rattle.grammar.specs.Rules.{pair_before, Risen}
use Rattle.grammar.proofs.pair_before.Given as goal

abbrev pub invariant-loop : goal.invariant-loop
invariant-loop l = (l.p < 2 ^ 62)
    × Risen (words l.s) l.w (l.done - l.counter) l.p
    × ((0 < (l.done - l.counter)) → get_or (words l.s) (l.p - l.w) 0 ≤ l.a)
    × (pair_before (words l.s) l.w l.done l.at l.a l.m ≡ pair_before (words l.s) l.w (l.done - l.counter) l.p l.a l.m)
