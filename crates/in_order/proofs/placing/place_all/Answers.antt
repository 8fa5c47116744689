-- `in_order::placing::place_all` meets its contract: the board is cleared first.
use Rattle.in_order.proofs.placing.place_all.Goals as goal

pub place_ready-requires : goal.place_ready-requires
place_ready-requires c = record { placed = c.requires.placed; upon = record { known = c.requires.given.known; once = c.requires.given.once; roomy = c.requires.given.roomy; empty = c.clear.ensures c.args.order.now } }
