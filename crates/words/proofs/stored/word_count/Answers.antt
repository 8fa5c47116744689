-- `words::stored::word_count` meets its contract.
use mathlib.Core.Path.{sym}
use Rattle.words.proofs.WordLaws.{length-words}
use Rattle.words.proofs.stored.word_count.Goals as goal

pub returns : goal.returns
returns c = sym (length-words _)
