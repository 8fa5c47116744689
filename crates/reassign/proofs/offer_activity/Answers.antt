-- `reassign::offer_activity` meets its contract.
use Rattle.lines.specs.Lines.{lines_in}
use Rattle.reassign.proofs.SeenLaws.{ready, able, first_known}
use Rattle.reassign.proofs.offer_activity.Goals as goal

pub leaving_of-leaving-requires : goal.leaving_of-leaving-requires
leaving_of-leaving-requires c = record { problem = c.requires.1.problem; lines = (lines_in c.args.cells.now c.args.lens.now); seen = c.requires.1.movable.seen; known = first_known c.requires.1.movable }

pub candidates_of-candidates-requires : goal.candidates_of-candidates-requires
candidates_of-candidates-requires c = record { problem = c.requires.1.problem; tabled = c.requires.1.movable.seen.tabled; known = first_known c.requires.1.movable; few = c.requires.1.movable.seen.few }

pub offer_candidates-requires : goal.offer_candidates-requires
offer_candidates-requires c = let known = first_known c.requires.1.movable in
    let el = c.leaving_of-leaving.ensures c.requires.1.problem (lines_in c.args.cells.now c.args.lens.now) c.requires.1.movable.seen known in
    let ec = c.candidates_of-candidates.ensures c.requires.1.problem c.requires.1.movable.seen.tabled known c.requires.1.movable.seen.few in
    record { some_able = (record { problem = c.requires.1.problem; able = rw (el, ec) (able c.requires.1.movable.seen c.args.a known c.requires.1.movable.opened) }, c.requires.0, rw c.requires.1.movable.seen.tailed c.requires.1.movable.opened.lined); reckoned = (c.requires.1.movable.seen.reckoned, rw el (ready c.requires.1.movable.seen c.args.a known (c.requires.1.movable.opened.standing c.args.a known))) }

pub returns : goal.returns
returns c = λ p w.
    let v = w.seen in
    let known = first_known w in
    let el = c.leaving_of-leaving.ensures p (lines_in c.args.cells.now c.args.lens.now) v known in
    let ec = c.candidates_of-candidates.ensures p v.tabled known v.few in
    rw (← el, ← ec) (c.offer_candidates.ensures p (rw (el, ec) (able v c.args.a known w.opened)))
