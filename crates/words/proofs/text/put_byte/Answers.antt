-- `words::text::put_byte` meets its contract.
use mathlib.Core.Path.{sym}
use native.Mathlib.Omega.{arith}
use lib.ListN.{length-set}
use Rattle.words.proofs.TextLaws.{written-fits, written_full, place_after-fits, place_after_full}
use Rattle.words.proofs.text.put_byte.Goals as goal

pub returns-then-line-at : goal.returns-then-line-at
returns-then-line-at c = record { line = sym (written_full _ _ _ (omega arith)); place = sym (place_after_full _ _ _ (omega arith)) }

pub shape_of-line : goal.shape_of-line
shape_of-line c = simp length-set

pub returns : goal.returns
returns c = record { line = sym (written-fits _ _ _ (omega arith)); place = sym (place_after-fits _ _ _ (omega arith)) }
