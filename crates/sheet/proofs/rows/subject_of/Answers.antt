use native.Mathlib.Omega.{arith}
use mir.Syntax.{w64}
use mir.Facts.{to_z-of_z}
use borrow.Author.Rules.{sfits_of}
use Rattle.sheet.specs.Rows.{activity_in, machine_in}
use borrow.Author.Tests.{lt-ltb, le-ltb}
use lib.ListN.{length}
use Prim.Native.Nat.{◌+◌, ◌*◌}
use Rattle.sheet.proofs.rows.subject_of.Goals as goal

pub returns-then-rows-at : goal.returns-then-rows-at
returns-then-rows-at c = rw (le-ltb (4 * c.args.i + 3) (length c.args.rows.now) (omega arith))

pub returns : goal.returns
returns c = let x = activity_in c.args.rows.now c.args.i in let y = machine_in c.args.rows.now c.args.i in
    let f = sfits_of {w = w64} {z = x} c.subject-arg-1.given in let g = sfits_of {w = w64} {z = y} c.subject-arg-2-1.given in
    rw (lt-ltb (4 * c.args.i + 3) (length c.args.rows.now) (omega arith)) (rw (to_z-of_z f, to_z-of_z g) at c.subject.ensures)
