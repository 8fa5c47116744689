-- `active::seats::keep` meets its contract: every cell is there.
use native.Mathlib.Omega.{arith}
use lib.ListN.{length-set}
use Rattle.active.proofs.seats.keep.Goals as goal

pub bounds-kept-t-2 : goal.bounds-kept-t-2
bounds-kept-t-2 c = simp length-set (omega arith)

pub bounds-kept-t-3 : goal.bounds-kept-t-3
bounds-kept-t-3 c = simp length-set (omega arith)

pub bounds-kept-t-4 : goal.bounds-kept-t-4
bounds-kept-t-4 c = simp length-set (omega arith)

pub bounds-kept-t-5 : goal.bounds-kept-t-5
bounds-kept-t-5 c = simp length-set (omega arith)
