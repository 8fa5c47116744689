-- `reader::read` meets its contract. The loop's invariant: reading all sections from the start is reading the rest from here.
use mathlib.Core.Path.{refl, sym, ap, ◌∙◌}
use native.Mathlib.Omega.{arith}
use Rattle.std.proofs.lemmas.Result.{err_from_is_err_and}
use Rattle.words.specs.Words.{words}
use Rattle.words.proofs.WordLaws.{length-words}
use Rattle.grammar.specs.Sections.{sections}
use Rattle.reader.specs.Answer.{told}
use Rattle.reader.specs.Reading.{read_all}
use Rattle.reader.proofs.ReadingLaws.{within_next, read_section_within, sections_step, sections_rest, sections_end, section_known}
use Rattle.reader.proofs.read.Goals as goal

pub after_section-known-requires : goal.after_section-known-requires
after_section-known-requires c = omega (arith, length-words c.args.s.now)

pub returns-in_err-next : goal.returns-in_err-next
unfolding read_all
returns-in_err-next c = let p = err_from_is_err_and c.from_residual.result c.from_residual.ensures.1 in
    rw (p.1, p.2) (sym (ap told (c.loop-i.invariant.1 ∙ sections_step _ _ sections _ _ _ _ c.loop-i-test.true c.section_at-row.ensures c.read_section.ensures c.in_err-next.was refl)))

pub loop-i-preserved : goal.loop-i-preserved
loop-i-preserved c = (
  within_next _ _ c.read_section.ensures c.in_ok-next.was (read_section_within _ _ _ _),
  c.loop-i.invariant.1
      ∙ sections_step _ _ sections _ _ _ _ c.loop-i-test.true c.section_at-row.ensures c.read_section.ensures c.in_ok-next.was
      (section_known (words c.args.s.now) c.section_at-row.result.keep c.loop-i.known c.loop-i.at c.word.ensures c.learn-learnt.ensures c.after_section-known.ensures),
)

pub overflow_mul-end : goal.overflow_mul-end
overflow_mul-end c = omega (arith, length-words c.args.s.now)

pub returns-then-end-s : goal.returns-then-end-s
unfolding read_all
returns-then-end-s c = sym (ap told (c.loop-i.invariant.1 ∙ sections_rest _ _ sections _ _ _ _ c.loop-i-test.false c.if-end-s.true))

pub returns : goal.returns
unfolding read_all
returns c = sym (ap told (c.loop-i.invariant.1 ∙ sections_end _ _ sections _ _ _ _ c.loop-i-test.false c.if-end-s.false))
