-- `moves::pair` meets its contract. Assumes nothing.
use native.Mathlib.Numerals.{add-one}
use native.Mathlib.Omega.{arith}
use Rattle.moves.proofs.pair.Goals as goal

pub overflow_add-at : goal.overflow_add-at
overflow_add-at c = let r = rw c.in-Swap.is at c.requires.1 in
    omega (arith, r.1)

pub two_at-requires : goal.two_at-requires
two_at-requires c = let r = rw c.in-Swap.is at c.requires.1 in
    (c.requires.0, r.0, omega (arith, r.1), r.1)

pub two_at-requires-in-Shift : goal.two_at-requires-in-Shift
two_at-requires-in-Shift c = let r = rw c.in-Shift.is at c.requires.1 in
    (c.requires.0, r.0, r.1, omega (arith, r.1, r.2))

pub returns-in-Swap : goal.returns-in-Swap
returns-in-Swap c = rw (c.in-Swap.is, ← add-one c.in-Swap.at) c.two_at.ensures

pub returns-in-Shift : goal.returns-in-Shift
returns-in-Shift c = rw c.in-Shift.is c.two_at-in-Shift.ensures

pub returns-in-Reassign : goal.returns-in-Reassign
returns-in-Reassign c = rw c.in-Reassign.is
