-- `active::seats::keep_seat` meets its contract: the seat is there, or it is written now.
use borrow.Author.Tests.{eq-eqb, ne_eqb}
use Rattle.active.proofs.seats.keep_seat.Goals as goal

pub returns-then-kept-t : goal.returns-then-kept-t
returns-then-kept-t c = rw (eq-eqb _ _ c.if-kept-t.true)

pub returns : goal.returns
returns c = rw (ne_eqb _ _ c.if-kept-t.false, c.keep.ensures, c.seat_of-seat.ensures)
