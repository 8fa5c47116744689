-- `reassign::room_on` meets its contract.
use native.Mathlib.Omega.{arith}
use Rattle.reassign.proofs.RoomLaws.{line_lent}
use Rattle.reassign.proofs.room_on.Goals as goal

pub overflow_add-end : goal.overflow_add-end
overflow_add-end c = let f = c.requires.holds.0.fit c.args.to in
    omega (arith, c.requires.holds.1)

pub slice_bounds-room_in-end : goal.slice_bounds-room_in-end
slice_bounds-room_in-end c = let f = c.requires.holds.0.fit c.args.to in omega (arith, c.requires.holds.1, c.requires.holds.0.roomy)

pub room_in-requires : goal.room_in-requires
room_in-requires c = (rw (line_lent c.args.to c.requires.holds.0 c.requires.holds.1) c.requires.holds.2, c.requires.reckoned.0, c.requires.reckoned.1, c.requires.reckoned.2)

pub returns : goal.returns
returns c = rw (← line_lent c.args.to c.requires.holds.0 c.requires.holds.1) c.room_in.ensures
