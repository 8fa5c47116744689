-- `reader::read_word` meets its contract.
use Prim.Native.Nat.{◌≤◌, ◌<◌, ◌-◌}
use mathlib.Core.Path.{◌≡◌, sym}
use native.Mathlib.Omega.{arith}
use lib.ListN.{length, get_or}
use Rattle.words.specs.Words.{words}
use Rattle.words.proofs.WordLaws.{length-words}
use Rattle.grammar.specs.Ranges.{back}
use Rattle.reader.proofs.ReadingLaws.{word_missing, word_refused, word_passed}
use Rattle.reader.proofs.read_word.Goals as goal

pub overflow_mul-result : goal.overflow_mul-result
overflow_mul-result c = omega (arith, length-words c.args.s.now)

pub returns-then-word_count-at : goal.returns-then-word_count-at
returns-then-word_count-at c = let h : length (words c.args.s.now) ≤ c.args.at = omega arith in
    sym (word_missing (words c.args.s.now) c.args.k c.args.kind c.args.at h)

pub overflow_mul-result-then-not-is_in_range : goal.overflow_mul-result-then-not-is_in_range
overflow_mul-result-then-not-is_in_range c = omega (arith, length-words c.args.s.now)

pub returns-then-not-is_in_range : goal.returns-then-not-is_in_range
returns-then-not-is_in_range c = let h : c.args.at < length (words c.args.s.now) = omega arith in
    let e : c.word-before.result ≡ get_or (words c.args.s.now) (c.args.at - 1) 0 = cc in
    let p : c.saturating_sub-wrong.result ≡ c.args.at - back c.args.kind = cc in
    rw p (sym (word_refused (words c.args.s.now) c.args.k c.args.kind c.args.at h e c.word.ensures c.is_in_range.ensures (cc)))

pub returns : goal.returns
returns c = let h : c.args.at < length (words c.args.s.now) = omega arith in
    let e : c.word-before.result ≡ get_or (words c.args.s.now) (c.args.at - 1) 0 = cc in
    sym (word_passed (words c.args.s.now) c.args.k c.args.kind c.args.at h e c.word.ensures c.is_in_range.ensures (cc))
