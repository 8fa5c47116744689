use Rattle.words.specs.Words.{words}
use lib.ListN.{get_or}
use Prim.Native.Nat.{◌≤◌, ◌<◌}
use borrow.Author.Tests.{lt-ltb, le-ltb}
use native.Mathlib.Omega.{arith}
use Rattle.plan.proofs.assigned.Goals as goal

pub returns-then-count-a : goal.returns-then-count-a
returns-then-count-a c = let h : get_or (words c.args.s.now) c.args.z.at.assignment 0 ≤ c.args.a = omega arith in rw (le-ltb _ _ h)

pub returns-then-m : goal.returns-then-m
returns-then-m c = rw (lt-ltb _ _ (rw c.word-count.ensures at c.if-count-a.false), ← c.cell_at-m.ensures, c.if-m.true)

pub returns : goal.returns
returns c = let g : c.cell_at-m.result < 4294967295 = omega arith in rw (lt-ltb _ _ (rw c.word-count.ensures at c.if-count-a.false), ← c.cell_at-m.ensures, lt-ltb _ _ g)
