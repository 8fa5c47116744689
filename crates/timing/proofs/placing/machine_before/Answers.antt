use native.Mathlib.Omega.{arith}
use lib.ListN.{length}
use Rattle.bounds.proofs.ArrivalLaws.{link_names}
use Rattle.timing.proofs.placing.machine_before.Goals as goal

pub offset_bounds-machines-q : goal.offset_bounds-machines-q
offset_bounds-machines-q c = let h = link_names (length c.args.machines.now) c.in-Some.q c.in-Some.is c.requires in
    omega arith

pub bounds-machines-q : goal.bounds-machines-q
bounds-machines-q c = link_names (length c.args.machines.now) c.in-Some.q c.in-Some.is c.requires

pub returns : goal.returns
returns c = rw c.in-Some.is
