-- `tables::spans::fill_spans` meets its contract. The loop's invariant: the rows passed are filled.
use Prim.Native.Nat.{◌+◌, ◌*◌}
use mathlib.Core.Path.{◌≡◌}
use Rattle.words.specs.Words.{words}
use Rattle.plan.specs.Input.{problem_of}
use Rattle.tables.specs.Columns.{Spanned}
use Rattle.tables.proofs.spans.fill_spans.Given as goal

abbrev pub invariant-loop-a : goal.invariant-loop-a
invariant-loop-a l = (l.first ≡ l.fn.z.at.times + 1 + 3 * (l.a * l.fn.z.machines)) × Spanned (problem_of (words l.s) l.fn.z) l.a l.spans
