-- `words::text::put_decimal` meets its contract. The loop's invariant: the digits of `rest`, put from `at` up to `i`, would complete the line.
use Prim.Native.Nat.{◌-◌, ◌≤◌}
use mathlib.Core.Path.{◌≡◌}
use lib.ListN.{length}
use lib.Seq.{sets}
use Rattle.words.specs.Digits.{last_digits}
use Rattle.words.proofs.text.put_decimal.Given as goal

abbrev pub invariant-loop-i : goal.invariant-loop-i
invariant-loop-i l = (l.at ≤ l.i)
    × (l.i ≤ l.end)
    × (length l.line ≡ length l.initial.line)
    × (sets l.line l.at (last_digits 10 (l.i - l.at) l.rest) ≡ sets l.initial.line l.at (last_digits 10 l.n l.v))
