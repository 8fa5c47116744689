-- `reader::read_entry` meets its contract. The loop's invariant: reading all the words from the start is reading the rest from here.
use Prim.Native.Nat.{◌≤◌, ◌-◌}
use mathlib.Core.Path.{◌≡◌}
use lib.ListN.{length}
use Rattle.words.specs.Words.{words}
use Rattle.grammar.specs.Rules.{width_of}
use Rattle.reader.specs.Reading.{read_fields}
use Rattle.reader.proofs.read_entry.Given as goal

abbrev pub invariant-loop-f : goal.invariant-loop-f
invariant-loop-f l = (l.p ≤ length (words l.s))
    × (read_fields (words l.s) l.row l.k (width_of l.row l.k) 0 l.at ≡ read_fields (words l.s) l.row l.k (width_of l.row l.k - l.f) l.f l.p)
