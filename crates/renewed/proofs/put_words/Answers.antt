use Rattle.renewed.proofs.RenewedLaws.{none_stored, stored_next}
use mathlib.Core.Path.{refl}
use Rattle.renewed.proofs.put_words.Goals as goal

pub loop-i-init : goal.loop-i-init
loop-i-init c = none_stored c.args.buf.now c.args.k c.args.numbers.now c.requires

pub loop-i-preserved : goal.loop-i-preserved
loop-i-preserved c = stored_next c.loop-i.invariant c.loop-i-test.true refl c.put_word.ensures
