-- `lines::linking::place_line` meets its contract. The loop's invariant: the places that are left write from here what all write from the start. Assumes nothing.
use Rattle.lines.proofs.LinkingLoops.{Placing}
use Rattle.lines.proofs.linking.place_line.Given as goal

abbrev pub invariant-loop-i : goal.invariant-loop-i
invariant-loop-i l = Placing l.line l.machine l.initial.machines l.initial.places l.machines l.places l.i
