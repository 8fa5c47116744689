-- `blocks::stretch::estimate` meets its contract.
use mathlib.Core.List.{[]}
use native.Mathlib.Omega.{arith}
use Rattle.blocks.proofs.StretchLaws.{end_low, heads_low}
use borrow.Author.Rules.{rules}
use Rattle.blocks.proofs.stretch.estimate.Goals as goal

pub fill_heads-requires : goal.fill_heads-requires
fill_heads-requires c = (record { problem = c.requires.0.problem; weighed = c.requires.0.weighed; lined = c.requires.0.lined }, c.requires.1, c.requires.2)

pub longest-requires : goal.longest-requires
longest-requires c = record { estimable = (c.requires.0, c.requires.1, search rules); by_index = heads_low c.requires.0.weighed [] (c.fill_heads.ensures c.requires.0.problem [] c.requires.0.weighed c.requires.0.lined) (end_low c.requires.0.weighed c.args.line.now c.args.first) (omega (arith, c.requires.1.within, c.requires.0.lined.short)) }

pub returns : goal.returns
returns c = λ p order v l e. c.longest.ensures p order v l e (c.fill_heads.ensures p order v e)
