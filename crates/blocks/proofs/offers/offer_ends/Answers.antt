-- `blocks::offers::offer_ends` meets its contract.
use mathlib.Core.Path.{◌∙◌}
use native.Mathlib.Omega.{arith}
use Rattle.blocks.proofs.OfferLaws.{offers_ends}
use Rattle.blocks.proofs.offers.offer_ends.Goals as goal

pub overflow_add-third : goal.overflow_add-third
overflow_add-third c = omega (arith, c.requires.1, c.requires.2, c.requires.0.lined.short)

pub overflow_add-behind : goal.overflow_add-behind
overflow_add-behind c = omega (arith, c.requires.1, c.requires.2, c.requires.0.lined.short)

pub overflow_sub-end : goal.overflow_sub-end
overflow_sub-end c = omega (arith, c.requires.1, c.requires.2, c.requires.0.lined.short)

pub shape_of-heads : goal.shape_of-heads
shape_of-heads c = c.offer_shifts.auto.heads ∙ c.offer_shifts-to_front.auto.heads

pub returns : goal.returns
returns c = offers_ends c.args.first c.args.last c.requires.1 c.offer_shifts-to_front.ensures c.offer_shifts.ensures
