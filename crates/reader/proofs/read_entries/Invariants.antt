-- `reader::read_entries` meets its contract. The loop's invariant: reading all the entries from the start is reading the rest from here, and
-- entries that have to rise have risen up to here.
use Prim.Native.Nat.{◌≤◌, ◌-◌}
use mathlib.Core.Path.{◌≡◌}
use lib.ListN.{length}
use Rattle.words.specs.Words.{words}
use Rattle.grammar.specs.Rules.{width_of, Risen}
use Rattle.grammar.specs.declared.Rule.TheVariants.{RisingOnce}
use Rattle.reader.specs.Reading.{read_entries}
use Rattle.reader.proofs.read_entries.Given as goal

abbrev pub invariant-loop-done : goal.invariant-loop-done
invariant-loop-done l = (l.p ≤ length (words l.s))
    × ((l.row.rule ≡ RisingOnce) → Risen (words l.s) (width_of l.row l.k) l.done l.p)
    × (read_entries (words l.s) l.row l.k l.n 0 l.at ≡ read_entries (words l.s) l.row l.k (l.n - l.done) l.done l.p)
