use native.Mathlib.Omega.{arith}
use Rattle.sheet.specs.Rows.{start_in, end_in}
use borrow.Author.Tests.{lt-ltb, le-ltb}
use borrow.Author.Rules.{sfits_of}
use mir.Facts.{to_z-of_z}
use mir.Syntax.{w64}
use lib.ListN.{length}
use Prim.Native.Nat.{◌+◌, ◌*◌}
use Rattle.sheet.proofs.rows.ends_by.Goals as goal

pub returns-then-rows-last : goal.returns-then-rows-last
returns-then-rows-last c = rw (le-ltb (4 * c.args.r + 3) (length c.args.rows.now) (omega arith))

pub returns : goal.returns
returns c = let e = end_in c.args.rows.now c.args.r in let s = start_in c.args.rows.now c.args.i in
    rw (to_z-of_z (sfits_of {w = w64} {z = e} c.result-1.given), to_z-of_z (sfits_of {w = w64} {z = s} c.result-2-1.given), lt-ltb (4 * c.args.r + 3) (length c.args.rows.now) (omega arith))
