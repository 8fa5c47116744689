-- `lines::linking::link_pairs` meets its contract. The loop's invariant: the pairs that are left write from here what all write from the start. Assumes nothing.
use Rattle.lines.proofs.LinkingLoops.{Pairing}
use Rattle.lines.proofs.linking.link_pairs.Given as goal

abbrev pub invariant-loop-i : goal.invariant-loop-i
invariant-loop-i l = Pairing l.line l.initial.before l.initial.after l.before l.after l.i
