-- `grammar::comes_before` meets its contract. The loop's invariant: the words passed are equal, so the words left decide.
use mathlib.Core.Path.{sym, ◌∙◌}
use Rattle.words.specs.Words.{words}
use Rattle.grammar.proofs.EntryLaws.{before_differs, before_same, before_none}
use Rattle.grammar.proofs.comes_before.Goals as goal

pub returns-then-x-y : goal.returns-then-x-y
returns-then-x-y c = before_differs (words c.args.s.now) _ _ _ _ c.loop-k-test.true c.word-x.ensures c.word-y.ensures c.if-x-y.true ∙ sym c.loop-k.invariant

pub loop-k-preserved : goal.loop-k-preserved
loop-k-preserved c = c.loop-k.invariant ∙ before_same (words c.args.s.now) _ _ _ _ c.loop-k-test.true c.word-x.ensures c.word-y.ensures c.if-x-y.false

pub returns : goal.returns
returns c = sym (c.loop-k.invariant ∙ before_none (words c.args.s.now) _ _ _ _ c.loop-k-test.false)
