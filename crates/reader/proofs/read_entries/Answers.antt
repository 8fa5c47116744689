-- `reader::read_entries` meets its contract. The loop's invariant: reading all the entries from the start is reading the rest from here, and
-- entries that have to rise have risen up to here.
use mathlib.Core.Path.{refl, sym, ◌∙◌}
use native.Mathlib.Omega.{arith}
use Rattle.std.proofs.lemmas.Result.{err_from_is_err_and}
use Rattle.words.specs.Words.{words}
use Rattle.words.proofs.WordLaws.{length-words}
use Rattle.grammar.specs.Rules.{width_of}
use Rattle.grammar.proofs.EntryLaws.{risen_none}
use Rattle.reader.proofs.ReadingLaws.{within_next, read_fields_within, fields_move, entries_start, entries_step, entries_end, entries_risen}
use Rattle.reader.proofs.read_entries.Goals as goal

pub loop-done-init : goal.loop-done-init
loop-done-init c = (c.requires, λ e. risen_none (words c.args.s.now) (width_of c.args.row c.args.k) c.args.at, entries_start _ _ _ _ _)

pub is_entry_kept-requires : goal.is_entry_kept-requires
is_entry_kept-requires c = let h = length-words c.args.s.now in (omega arith, rw c.width_of-w.ensures c.loop-done.invariant.1)

pub overflow_mul-result : goal.overflow_mul-result
overflow_mul-result c = omega (arith, length-words c.args.s.now)

pub returns-then-not-is_entry_kept : goal.returns-then-not-is_entry_kept
returns-then-not-is_entry_kept c = let k = rw c.width_of-w.ensures at c.is_entry_kept.ensures in
    sym (c.loop-done.invariant.2
    ∙ entries_step _ _ _ _ _ _ c.loop-done-test.true c.read_entry.ensures c.in_ok-next.was k
    ∙ rw c.if-not-is_entry_kept.true)

pub returns-in_err-next : goal.returns-in_err-next
returns-in_err-next c = let p = err_from_is_err_and c.from_residual.result c.from_residual.ensures.1 in
    rw (p.1, p.2) (sym (c.loop-done.invariant.2 ∙ entries_step _ _ _ _ _ _ c.loop-done-test.true c.read_entry.ensures c.in_err-next.was refl))

pub loop-done-preserved : goal.loop-done-preserved
loop-done-preserved c = let k = rw c.width_of-w.ensures at c.is_entry_kept.ensures in (
  within_next _ _ c.read_entry.ensures c.in_ok-next.was (read_fields_within _ _ _ _ _ _ c.loop-done.invariant.0),
  entries_risen (words c.args.s.now) c.args.row.rule (width_of c.args.row c.args.k) c.loop-done.done c.loop-done.p _ (fields_move _ _ _ _ _ _ _ (sym c.read_entry.ensures ∙ c.in_ok-next.was)) k (cc) c.loop-done.invariant.1,
  c.loop-done.invariant.2 ∙ entries_step _ _ _ _ _ _ c.loop-done-test.true c.read_entry.ensures c.in_ok-next.was k ∙ rw c.if-not-is_entry_kept.false,
)

pub returns : goal.returns
returns c = sym (c.loop-done.invariant.2 ∙ entries_end _ _ _ _ _ _ c.loop-done-test.false)
