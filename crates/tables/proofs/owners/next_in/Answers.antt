-- `tables::owners::next_in` meets its contract, by its two tests.
use Prim.Native.Nat.{◌+◌, ◌<◌}
use mathlib.Core.Path.{◌≡◌}
use native.Mathlib.Omega.{arith}
use lib.ListN.{get_or}
use borrow.Author.Tests.{lt-ltb, le-ltb, eq-eqb, ne_eqb}
use Rattle.tables.proofs.owners.next_in.Goals as goal

pub returns-then-n-b : goal.returns-then-n-b
returns-then-n-b c = rw (le-ltb _ _ c.if-n-b.true) (omega arith)

pub returns-then-owners-b : goal.returns-then-owners-b
returns-then-owners-b c = let more : c.args.a + 1 < c.args.n = omega arith in
    let same : get_or c.args.owners.now (c.args.a + 1) 0 ≡ get_or c.args.owners.now c.args.a 0 = omega arith in
    rw (lt-ltb _ _ more, eq-eqb _ _ same) (omega arith)

pub returns : goal.returns
returns c = let more : c.args.a + 1 < c.args.n = omega arith in
    let other : (get_or c.args.owners.now (c.args.a + 1) 0 ≡ get_or c.args.owners.now c.args.a 0 → ⊥) = λ e. omega arith in
    rw (lt-ltb _ _ more, ne_eqb _ _ other) (omega arith)
