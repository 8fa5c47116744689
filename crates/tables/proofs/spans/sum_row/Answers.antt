-- `tables::spans::sum_row` meets its contract: the three words stand in the part.
use Prim.Native.Nat.{◌+◌, ◌*◌, ◌-◌, ◌≤◌}
use mathlib.Core.Path.{◌≡◌, ◌∙◌}
use native.Mathlib.Omega.{arith}
use lib.ListN.{length}
use Rattle.tables.proofs.SpanLaws.{row_same}
use Rattle.tables.proofs.spans.sum_row.Goals as goal

pub returns : goal.returns
returns c = let n = 4 * c.args.first + 12 - 4 * c.args.first in
    let twelve : n ≡ 12 = omega arith in
    let fits : 4 * c.args.first + 12 ≤ length c.args.s.now = omega arith in
    c.sum_words-2.ensures ∙ row_same c.args.s.now c.args.first n twelve fits
