-- `lines::linking::link_each` meets its contract. The loop's invariant: the lines that are left write from here what all write from the start. Assumes nothing.
use Rattle.lines.specs.Linking.{links_of}
use Rattle.lines.proofs.LinkingLoops.{Linking}
use Rattle.lines.proofs.linking.link_each.Given as goal

abbrev pub invariant-loop-m : goal.invariant-loop-m
invariant-loop-m l = Linking l.n l.cells l.fn.lens (links_of l.initial.before l.initial.after l.initial.machines l.initial.places) (links_of l.before l.after l.machines l.places) l.m
