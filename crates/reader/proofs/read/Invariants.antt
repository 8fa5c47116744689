-- `reader::read` meets its contract. The loop's invariant: reading all sections from the start is reading the rest from here.
use Prim.Native.Nat.{◌≤◌}
use mathlib.Core.Path.{◌≡◌}
use lib.ListN.{length, drop}
use Rattle.words.specs.Words.{words}
use Rattle.grammar.specs.Sections.{sections}
use Rattle.reader.specs.Reading.{read_sections, nothing_known, nowhere}
use Rattle.reader.proofs.read.Given as goal

abbrev pub invariant-loop-i : goal.invariant-loop-i
invariant-loop-i l = (l.at ≤ length (words l.s))
    × (read_sections (words l.s) (length l.s) sections 0 nothing_known nowhere 0 ≡ read_sections (words l.s) (length l.s) (drop l.i sections) l.i l.known l.starts l.at)
