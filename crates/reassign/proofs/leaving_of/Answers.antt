-- `reassign::leaving_of` meets its contract.
use mathlib.Core.Path.{◌∙◌}
use native.Mathlib.Omega.{arith}
use Rattle.reassign.proofs.leaving_of.Goals as goal

pub head_of-head-requires : goal.head_of-head-requires
head_of-head-requires c = let e = c.requires.seen.reckoned.addable.ended ∙ c.requires.seen.tailed in
    (record { held = record { problem = c.requires.problem; tabled = c.requires.seen.tabled; known = c.requires.known; few = c.requires.seen.few }; named = rw e (c.requires.seen.named c.args.a c.requires.known) }, omega (arith, c.requires.known, e), c.requires.seen.reckoned.early)

pub rest_of-rest-requires : goal.rest_of-rest-requires
rest_of-rest-requires c = (record { held = record { problem = c.requires.problem; tabled = c.requires.seen.tabled; known = c.requires.known; few = c.requires.seen.few }; tailed = c.requires.seen.tailed; waiting = c.requires.seen.waiting c.args.a c.requires.known }, c.requires.seen.reckoned)

pub offset_bounds-machines-a : goal.offset_bounds-machines-a
offset_bounds-machines-a c = omega (arith, c.requires.known, c.requires.seen.standing, c.requires.seen.positions)

pub bounds-machines-a : goal.bounds-machines-a
bounds-machines-a c = omega (arith, c.requires.known, c.requires.seen.standing, c.requires.seen.positions)

pub offset_bounds-places-a : goal.offset_bounds-places-a
offset_bounds-places-a c = omega (arith, c.requires.known, c.requires.seen.standing, c.requires.seen.positions)

pub bounds-places-a : goal.bounds-places-a
bounds-places-a c = omega (arith, c.requires.known, c.requires.seen.standing, c.requires.seen.positions)

pub returns : goal.returns
returns c p lines v known = rw (← v.on c.args.a known, ← v.at c.args.a known, ← c.head_of-head.ensures p c.args.starts.now v.tabled known v.few, ← c.rest_of-rest.ensures p v.tabled known v.few v.tailed)
