use mathlib.Core.Path.{refl}
use Rattle.renewed.proofs.RenewedLaws.{section_put}
use Rattle.renewed.proofs.put_section.Goals as goal

pub returns : goal.returns
returns c = section_put c.args.buf.now c.args.k c.args.numbers.now c.requires refl refl c.put_word.ensures c.put_words.ensures
