-- `words::stored::put_word` meets its contract. Past the last whole word nothing is stored; else its four bytes.
use mathlib.Core.Path.{sym, ◌∙◌}
use native.Mathlib.Omega.{arith}
use Rattle.words.proofs.WordLaws.{put_past, put_part, bytes_low}
use Rattle.words.proofs.stored.put_word.Goals as goal

pub returns-then-buf-k : goal.returns-then-buf-k
returns-then-buf-k c = sym (put_past _ _ _ (omega arith))

pub returns : goal.returns
returns c = put_part _ _ _ (omega arith) (omega arith) (c.copy_from_slice.ensures.after ∙ c.to_le_bytes.ensures ∙ bytes_low _ (omega arith))
