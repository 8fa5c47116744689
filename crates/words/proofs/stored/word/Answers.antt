-- `words::stored::word` meets its contract. Each branch is a law of the words: past the last whole word, or its four bytes.
use mathlib.Core.Path.{sym, ◌∙◌}
use native.Mathlib.Omega.{arith}
use Rattle.words.proofs.WordLaws.{words_at, words_past, word_low}
use Rattle.words.proofs.stored.word.Goals as goal

pub returns-then-bytes-k : goal.returns-then-bytes-k
returns-then-bytes-k c = sym (words_past _ _ (omega arith))

pub returns : goal.returns
returns c = c.from_le_bytes.ensures ∙ word_low _ _ _ _ ∙ sym (words_at _ _ (omega arith))
