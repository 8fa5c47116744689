-- `trial::forbid::listed` meets its contract. The loop's invariant: the places left list what all of them list. Assumes nothing.
use Prim.Native.Nat.{◌+◌}
use mathlib.Core.Path.{◌≡◌, sym, ◌∙◌}
use native.Mathlib.Omega.{arith}
use lib.ListN.{length}
use Rattle.trial.proofs.TabooLaws.{place-names, place_passed, places_done}
use borrow.Author.Rules.{rules}
use Rattle.trial.proofs.forbid.listed.Goals as goal

pub returns-then-names : goal.returns-then-names
returns-then-names c = let six : length c.args.places ≡ 6 = search rules in
    place-names c.args.step c.args.places c.args.x c.args.y c.loop-place.place-index (omega (arith, six, c.loop-place-test.true)) (sym c.names.ensures ∙ c.if-names.true) ∙ c.loop-place.invariant

pub loop-place-preserved : goal.loop-place-preserved
loop-place-preserved c = let six : length c.args.places ≡ 6 = search rules in
    place_passed c.args.step c.args.places c.args.x c.args.y c.loop-place.place-index (c.loop-place.place-index + 1) (omega arith) (omega (arith, six, c.loop-place-test.true)) (sym c.names.ensures ∙ c.if-names.false) ∙ c.loop-place.invariant

pub returns : goal.returns
returns c = let six : length c.args.places ≡ 6 = search rules in
    places_done c.args.step c.args.places c.args.x c.args.y c.loop-place.place-index (omega (arith, six, c.loop-place-test.false)) ∙ c.loop-place.invariant
