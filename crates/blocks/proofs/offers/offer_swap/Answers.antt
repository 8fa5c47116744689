-- `blocks::offers::offer_swap` meets its contract.
use mathlib.Core.Path.{sym, ◌∙◌}
use Rattle.moves.specs.declared.Move.TheVariants.{Swap}
use Rattle.blocks.proofs.OfferLaws.{offers_one, offers_out, swap_rank}
use Rattle.blocks.proofs.offers.offer_swap.Goals as goal

pub returns-then-not-enters : goal.returns-then-not-enters
returns-then-not-enters c = offers_out (Swap c.args.m c.args.at) c.args.three c.weigh-length.result (sym c.enters.ensures ∙ c.if-not-enters.true) (λ p lines order r. swap_rank c.args.all r order c.args.at c.weigh-length.result c.requires.1 (c.weigh-length.ensures p order r.weighed r.low r.lined))

pub returns : goal.returns
returns c = offers_one (Swap c.args.m c.args.at) (record { length = c.weigh-length.result; time = 0; made = Swap c.args.m c.args.at }) (λ p lines order r. swap_rank c.args.all r order c.args.at c.weigh-length.result c.requires.1 (c.weigh-length.ensures p order r.weighed r.low r.lined)) c.keep.ensures
