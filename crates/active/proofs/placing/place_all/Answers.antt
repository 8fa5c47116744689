-- `active::placing::place_all` meets its contract: the board is cleared first.
use Rattle.active.proofs.placing.place_all.Goals as goal

pub clear-requires : goal.clear-requires
clear-requires c = (c.requires.started.sized.starts, c.requires.started.sized.ends, c.requires.started.sized.setups, c.requires.started.sized.lines, c.requires.started.sized.steps, c.requires.started.sized.settled)

pub place_chosen-requires : goal.place_chosen-requires
place_chosen-requires c = record { placed = c.requires.placed; begun = record { ranked = c.requires.started.ranked; manned = c.requires.started.manned; roomy = c.requires.started.roomy; fresh = c.requires.started.fresh; empty = c.clear.ensures c.args.order.now } }
