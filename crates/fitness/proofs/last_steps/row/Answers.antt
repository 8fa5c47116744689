-- `fitness::last_steps::row` meets its contract: a part's words are the whole's.
use Prim.Native.Nat.{◌+◌, ◌*◌, ◌-◌, ◌≤◌}
use mathlib.Core.Path.{◌≡◌, ◌∙◌}
use native.Mathlib.Omega.{arith}
use lib.ListN.{length}
use Rattle.fitness.proofs.LastLaws.{row_part}
use Rattle.fitness.proofs.last_steps.row.Goals as goal

pub returns : goal.returns
returns c = let n = 4 * c.args.at + 12 - 4 * c.args.at in
    let twelve : n ≡ 12 = omega arith in
    let fits : 4 * c.args.at + 12 ≤ length c.args.s.now = omega arith in
    c.row_words-2.ensures ∙ row_part c.args.s.now c.args.at n twelve fits
