-- `lines::count_lines` meets its contract. The loop's invariant: the lines passed are counted, and those that are left decide. Assumes nothing.
use Rattle.lines.proofs.CountLaws.{Counting}
use Rattle.lines.proofs.count_lines.Given as goal

abbrev pub invariant-loop-m : goal.invariant-loop-m
invariant-loop-m l = Counting l.n l.cells l.fn.lens l.initial.seen l.seen l.m
