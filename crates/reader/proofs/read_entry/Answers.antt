-- `reader::read_entry` meets its contract. The loop's invariant: reading all the words from the start is reading the rest from here.
use mathlib.Core.Path.{sym, ◌∙◌}
use Rattle.std.proofs.lemmas.Result.{err_from_is_err_and}
use Rattle.reader.proofs.ReadingLaws.{within_next, read_word_within, fields_step, fields_end}
use Rattle.reader.proofs.read_entry.Goals as goal

pub returns-in_err-p : goal.returns-in_err-p
returns-in_err-p c = let p = err_from_is_err_and c.from_residual.result c.from_residual.ensures.1 in
    let h = rw c.width_of-f-end.ensures at c.loop-f-test.true in
    rw (p.1, p.2) (sym (c.loop-f.invariant.1 ∙ fields_step _ _ _ _ _ _ h c.kind_at.ensures c.read_word.ensures c.in_err-p.was))

pub loop-f-preserved : goal.loop-f-preserved
loop-f-preserved c = let h = rw c.width_of-f-end.ensures at c.loop-f-test.true in (
  within_next _ _ c.read_word.ensures c.in_ok-p.was (read_word_within _ _ _ _),
  c.loop-f.invariant.1 ∙ fields_step _ _ _ _ _ _ h c.kind_at.ensures c.read_word.ensures c.in_ok-p.was,
)

pub returns : goal.returns
returns c = let h = rw c.width_of-f-end.ensures at c.loop-f-test.false in sym (c.loop-f.invariant.1 ∙ fields_end _ _ _ _ _ _ h)
