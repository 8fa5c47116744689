-- `path::machine_before` meets its contract: the link opened, and a cell.
use native.Mathlib.Omega.{arith}
use lib.ListN.{length}
use Rattle.bounds.proofs.ArrivalLaws.{link_names}
use Rattle.path.proofs.machine_before.Goals as goal

pub returns-in_default : goal.returns-in_default
returns-in_default c = rw c.in_default.is

pub offset_bounds-machines-b : goal.offset_bounds-machines-b
offset_bounds-machines-b c = let h = link_names (length c.args.machines.now) c.in-Some.b c.in-Some.is c.requires.0 in
    omega arith

pub bounds-machines-b : goal.bounds-machines-b
bounds-machines-b c = link_names (length c.args.machines.now) c.in-Some.b c.in-Some.is c.requires.0

pub returns : goal.returns
returns c = rw c.in-Some.is
