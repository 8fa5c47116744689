-- `reassign::room_in` meets its contract. There is none where the last position is before the first; else the best one is answered.
use Prim.Native.Nat.{◌<◌, ◌^◌}
use native.Mathlib.Omega.{arith}
use lib.ListN.{length, get_or}
use lib.Dec.{ltb}
use Rattle.reassign.specs.Reassigning.{unordered}
use Rattle.reassign.proofs.PositionLaws.{leading_few}
use Rattle.reassign.proofs.RoomLaws.{no_room, some_room}
use Rattle.reassign.proofs.room_in.Goals as goal

pub offset_bounds-starts-a : goal.offset_bounds-starts-a
offset_bounds-starts-a c = omega (arith, c.requires.2.known, c.requires.1.addable.started, c.requires.1.addable.ended)

pub bounds-starts-a : goal.bounds-starts-a
bounds-starts-a c = omega (arith, c.requires.2.known, c.requires.1.addable.started, c.requires.1.addable.ended)

pub leading_ended-first-requires : goal.leading_ended-first-requires
leading_ended-first-requires c = rw c.requires.1.addable.ended c.requires.0

pub offset_bounds-ends-a : goal.offset_bounds-ends-a
offset_bounds-ends-a c = omega (arith, c.requires.2.known, c.requires.1.addable.started, c.requires.1.addable.ended)

pub bounds-ends-a : goal.bounds-ends-a
bounds-ends-a c = omega (arith, c.requires.2.known, c.requires.1.addable.started, c.requires.1.addable.ended)

pub leading_begun-last-requires : goal.leading_begun-last-requires
leading_begun-last-requires c = rw c.requires.1.addable.started c.requires.0

pub returns-then-last-first : goal.returns-then-last-first
returns-then-last-first c = no_room (unordered c.args.starts.now c.args.ends.now) c.args.tail.now c.args.line.now c.args.leaving c.args.time c.leading_ended-first.ensures c.leading_begun-last.ensures c.if-last-first.true

pub best_position-spot-requires : goal.best_position-spot-requires
best_position-spot-requires c = let n : length c.args.line.now < 2 ^ 62 = omega (arith, c.well_formed) in
    (c.requires.0, c.requires.1, record { head = c.requires.2.head; time = c.requires.3; rest = c.requires.2.rest }, c.if-last-first.false, omega (arith, c.leading_begun-last.ensures, leading_few (λ x. ltb (get_or c.args.starts.now x 0) (get_or c.args.ends.now c.args.leaving.activity 0)) c.args.line.now))

pub returns : goal.returns
returns c = some_room (unordered c.args.starts.now c.args.ends.now) c.args.tail.now c.args.line.now c.args.leaving c.args.time c.leading_ended-first.ensures c.leading_begun-last.ensures c.if-last-first.false c.best_position-spot.ensures
