-- `blocks::offers::offer_block` meets its contract: the offers of each part, one after the other.
use mathlib.Core.Path.{◌∙◌}
use native.Mathlib.Omega.{arith}
use Rattle.blocks.proofs.OfferLaws.{offers_then, own_pair, own_more}
use Rattle.blocks.proofs.offers.offer_block.Goals as goal

pub overflow_add-next : goal.overflow_add-next
overflow_add-next c = omega (arith, c.requires.1, c.requires.2, c.requires.0.lined.short)

pub shape_of-heads-then-last-next : goal.shape_of-heads-then-last-next
shape_of-heads-then-last-next c = c.offer_swap-one.auto.heads

pub returns-then-last-next : goal.returns-then-last-next
returns-then-last-next c = rw (own_pair c.args.m c.args.first c.args.last (omega (arith, c.if-last-next.true))) c.offer_swap-one.ensures

pub overflow_sub-at : goal.overflow_sub-at
overflow_sub-at c = omega (arith, c.requires.1)

pub shape_of-heads : goal.shape_of-heads
shape_of-heads c = c.offer_ends.auto.heads ∙ c.offer_swap-two.auto.heads ∙ c.offer_swap-one.auto.heads

pub returns : goal.returns
returns c = rw (own_more c.args.m c.args.first c.args.last (omega (arith, c.if-last-next.false))) (offers_then c.offer_swap-one.ensures (offers_then c.offer_swap-two.ensures c.offer_ends.ensures))
