-- `lines::relinking::relink_line` meets its contract. The loop's invariant: those that are left write from here what all but the first write. Assumes nothing.
use Rattle.lines.specs.Linking.{links_of}
use Rattle.lines.proofs.RelinkLaws.{Relinking}
use Rattle.lines.proofs.relinking.relink_line.Given as goal

abbrev pub invariant-loop-i : goal.invariant-loop-i
invariant-loop-i l = Relinking l.n l.machine l.line l.initial.previous 1 (links_of l.initial.before l.initial.after l.initial.machines l.initial.places) l.previous l.i (links_of l.before l.after l.machines l.places)
