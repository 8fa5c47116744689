-- `words::text::decimal_places` meets its contract. The loop's invariant: the places counted and those of `rest` make one more than those of `v`, since the last is counted from the start.
use native.Mathlib.Omega.{arith}
use Rattle.words.proofs.DigitLaws.{places_small, places_more, places_fewest}
use Rattle.words.proofs.text.decimal_places.Goals as goal

pub overflow_add-n : goal.overflow_add-n
overflow_add-n c = omega (arith, places_fewest 20 c.args.v (omega arith) (omega arith))

pub loop-rest-preserved : goal.loop-rest-preserved
loop-rest-preserved c = omega (arith, places_more c.loop-rest.rest (omega arith))

pub returns : goal.returns
returns c = omega (arith, places_small c.loop-rest.rest (omega arith))
