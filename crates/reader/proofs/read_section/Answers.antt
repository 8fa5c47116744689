-- `reader::read_section` meets its contract.
use mathlib.Core.Path.{sym}
use native.Mathlib.Omega.{arith}
use Rattle.std.proofs.lemmas.Result.{err_from_is_err_and}
use Rattle.words.proofs.WordLaws.{length-words}
use Rattle.reader.proofs.ReadingLaws.{within_next, read_word_within, section_refused, section_broken, section_read}
use Rattle.reader.proofs.read_section.Goals as goal

pub overflow_mul-count : goal.overflow_mul-count
overflow_mul-count c = omega (arith, length-words c.args.s.now)

pub returns-then-not-is_count_kept : goal.returns-then-not-is_count_kept
returns-then-not-is_count_kept c = sym (section_broken _ _ _ _ c.read_word.ensures c.in_ok-next.was
    c.word-n.ensures c.is_count_kept.ensures (cc))

pub read_entries-requires : goal.read_entries-requires
read_entries-requires c = within_next _ _ c.read_word.ensures c.in_ok-next.was (read_word_within _ _ _ _)

pub returns-in_err-next : goal.returns-in_err-next
returns-in_err-next c = let p = err_from_is_err_and c.from_residual.result c.from_residual.ensures.1 in
    rw (p.1, p.2) (sym (section_refused _ _ _ _ c.read_word.ensures c.in_err-next.was))

pub returns : goal.returns
returns c = section_read _ _ _ _ c.read_word.ensures c.in_ok-next.was c.word-n.ensures c.is_count_kept.ensures (cc) c.learn.ensures c.read_entries.ensures
