use native.Mathlib.Omega.{arith}
use lib.ListN.{length}
use Rattle.bounds.proofs.ArrivalLaws.{link_names}
use Rattle.bounds.proofs.arrival.Goals as goal

pub offset_bounds-ends-t : goal.offset_bounds-ends-t
offset_bounds-ends-t c = let h = link_names (length c.args.ends.now) c.in-Some.t c.in-Some.is c.requires.0 in omega arith

pub bounds-ends-t : goal.bounds-ends-t
bounds-ends-t c = link_names (length c.args.ends.now) c.in-Some.t c.in-Some.is c.requires.0

pub overflow_add-result : goal.overflow_add-result
overflow_add-result c = let h = c.requires.1 c.in-Some.t c.in-Some.is in omega arith

pub returns : goal.returns
returns c = rw c.in-Some.is
