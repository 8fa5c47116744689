-- `words::text::put_decimal` meets its contract. The loop's invariant: the digits of `rest`, put from `at` up to `i`, would complete the line.
use Prim.Native.Nat.{◌+◌, ◌-◌, ◌≤◌, ◌<◌}
use mathlib.Core.Path.{sym, ◌∙◌}
use native.Mathlib.Omega.{arith}
use borrow.Author.Tests.{leb-true, leb-false}
use lib.ListN.{length, length-set}
use Rattle.words.specs.Digits.{decimal}
use Rattle.words.proofs.TextLaws.{written-fits, written_full, place_after-fits, place_after_full}
use Rattle.words.proofs.DigitLaws.{digit_put, digits_put, length-decimal}
use Rattle.words.proofs.text.put_decimal.Goals as goal

-- What the test of the room tells.
full : (c : goal.Then-not-has_room) → length c.args.line.now
    < c.args.at + length (decimal c.args.v)
full c =
    let h : length c.args.line.now < c.args.at + c.decimal_places-n.result = leb-false _ _ (sym c.has_room.ensures ∙ c.if-not-has_room.true) in
    omega (arith, c.decimal_places-n.ensures, length-decimal c.args.v)

pub returns-then-not-has_room : goal.returns-then-not-has_room
returns-then-not-has_room c = record { line = sym (written_full _ _ _ (full c)); place = sym (place_after_full _ _ _ (full c)) }

pub loop-i-preserved : goal.loop-i-preserved
loop-i-preserved c = (
  omega arith,
  omega arith,
  length-set c.loop-i.line (c.loop-i.i - 1) c.last_decimal.result ∙ c.loop-i.invariant.2,
  rw c.last_decimal.ensures (digit_put 10 c.loop-i.line c.args.at c.loop-i.i c.loop-i.rest c.loop-i-test.true ∙ c.loop-i.invariant.3),
)

pub returns : goal.returns
unfolding decimal
returns c = let h : c.args.at + c.decimal_places-n.result ≤ length c.args.line.now = leb-true _ _ (sym c.has_room.ensures ∙ c.if-not-has_room.false) in
    let fits : c.args.at + length (decimal c.args.v) ≤ length c.args.line.now = omega (arith, c.decimal_places-n.ensures, length-decimal c.args.v) in
    record {
      line = sym (digits_put 10 c.loop-i.line c.args.at c.loop-i.i c.loop-i.rest c.loop-i-test.false)
          ∙ c.loop-i.invariant.3
          ∙ rw c.decimal_places-n.ensures (sym (written-fits c.args.line.now c.args.at (decimal c.args.v) fits));
      place = rw (place_after-fits c.args.line.now c.args.at (decimal c.args.v) fits, length-decimal c.args.v, c.decimal_places-n.ensures);
    }
