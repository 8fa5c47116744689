-- `words::text::put_hex` meets its contract. The loop's invariant: the digits of `rest`, put from `at` up to `i`, would complete the line.
use Prim.Native.Nat.{◌+◌, ◌-◌, ◌≤◌, ◌<◌}
use mathlib.Core.Path.{sym, ◌∙◌}
use native.Mathlib.Omega.{arith}
use borrow.Author.Tests.{leb-true, leb-false}
use lib.ListN.{length, length-set}
use Rattle.words.specs.Digits.{hex16}
use Rattle.words.proofs.DigitLaws.{digit_put, digits_put, length_hex}
use Rattle.words.proofs.TextLaws.{written-fits, written_full, place_after-fits, place_after_full}
use Rattle.words.proofs.text.put_hex.Goals as goal

full : (c : goal.Then-not-has_room) → length c.args.line.now < c.args.at + 16
full c = leb-false _ _ (sym c.has_room.ensures ∙ c.if-not-has_room.true)

pub returns-then-not-has_room : goal.returns-then-not-has_room
returns-then-not-has_room c = let h = full c in
    record { line = sym (written_full _ _ _ (omega (arith, length_hex c.args.v))); place = sym (place_after_full _ _ _ (omega (arith, length_hex c.args.v))) }

pub loop-i-preserved : goal.loop-i-preserved
loop-i-preserved c = (
  omega arith,
  omega arith,
  length-set c.loop-i.line (c.loop-i.i - 1) c.last_hex.result ∙ c.loop-i.invariant.2,
  rw c.last_hex.ensures (digit_put 16 c.loop-i.line c.args.at c.loop-i.i c.loop-i.rest c.loop-i-test.true ∙ c.loop-i.invariant.3),
)

pub returns : goal.returns
unfolding hex16
returns c = let h : c.args.at + 16 ≤ length c.args.line.now = leb-true _ _ (sym c.has_room.ensures ∙ c.if-not-has_room.false) in
    let fits : c.args.at + length (hex16 c.args.v) ≤ length c.args.line.now = omega (arith, length_hex c.args.v) in
    record {
      line = sym (digits_put 16 c.loop-i.line c.args.at c.loop-i.i c.loop-i.rest c.loop-i-test.false)
          ∙ c.loop-i.invariant.3
          ∙ sym (written-fits c.args.line.now c.args.at (hex16 c.args.v) fits);
      place = rw (place_after-fits c.args.line.now c.args.at (hex16 c.args.v) fits, length_hex c.args.v);
    }
