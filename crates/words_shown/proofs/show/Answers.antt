-- `words_shown::show` meets its contract: what is written to the output is within the line.
use mathlib.Core.Path.{sym}
use native.Mathlib.Omega.{arith}
use lib.Seq.{length-take-le}
use Rattle.words.proofs.TextLaws.{put_within}
use Rattle.words_shown.proofs.show.Goals as goal

pub slice_bounds-line-end : goal.slice_bounds-line-end
slice_bounds-line-end g c =
    put_within _ _ _ (put_within _ 0 _ (omega arith) c.put_decimal-digits.ensures.line c.put_decimal-digits.ensures.place) c.put_byte-end.ensures.line c.put_byte-end.ensures.place

pub slice_bounds-write_all-end : goal.slice_bounds-write_all-end
slice_bounds-write_all-end g c =
    sym (length-take-le _ _ (put_within _ _ _ (put_within _ 0 _ (omega arith) c.put_decimal-digits.ensures.line c.put_decimal-digits.ensures.place) c.put_byte-end.ensures.line c.put_byte-end.ensures.place))
