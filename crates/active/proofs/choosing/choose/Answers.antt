-- `active::choosing::choose` meets its contract: the seats that the tasks keep are compared.
use mathlib.Core.Path.{refl, ap}
use native.Mathlib.Omega.{arith}
use Rattle.active.specs.Active.{Scan}
use Rattle.active.proofs.ChoiceLaws.{lead_known, offers, chosen_of', none_of}
use Rattle.active.proofs.choosing.choose.Goals as goal

pub scan-found-requires : goal.scan-found-requires
scan-found-requires c = record { placed = c.requires.placed; manned = (c.requires.chosen.manned, c.requires.chosen.timely, refl); settled_len = (c.requires.chosen.flags, c.requires.chosen.keeping) }

pub returns-then-found-eq0 : goal.returns-then-found-eq0
returns-then-found-eq0 c = record { choice = none_of c.scan-found.ensures.0 c.args.ranks.now (omega (arith, c.scan-found.ensures.2, c.if-found-eq0.true)); settled = ap (λ (x : Scan). x.settled) c.scan-found.ensures.0.scanned; kept = c.scan-found.ensures.0.keeping }

pub slice_bounds-tasks-end : goal.slice_bounds-tasks-end
slice_bounds-tasks-end c = c.scan-found.ensures.2

pub lead_of-lead-requires : goal.lead_of-lead-requires
lead_of-lead-requires c = offers c.scan-found.ensures.0 c.requires.placed.1 c.requires.chosen.ranked (omega (arith, c.scan-found.ensures.2, c.if-found-eq0.false))

pub least_rank-seat-requires : goal.least_rank-seat-requires
least_rank-seat-requires c = (let o = offers c.scan-found.ensures.0 c.requires.placed.1 c.requires.chosen.ranked (omega (arith, c.scan-found.ensures.2, c.if-found-eq0.false)) in (o, lead_known o c.lead_of-lead.ensures))

pub returns : goal.returns
returns c = record { choice = chosen_of' c.scan-found.ensures.0 c.args.ranks.now (omega (arith, c.scan-found.ensures.2, c.if-found-eq0.false)) c.lead_of-lead.ensures c.least_rank-seat.ensures; settled = ap (λ (x : Scan). x.settled) c.scan-found.ensures.0.scanned; kept = c.scan-found.ensures.0.keeping }
