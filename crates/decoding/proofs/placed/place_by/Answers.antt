-- `decoding::place_by` meets its contract: the decoder that is meant leaves its board.
use Rattle.words.specs.Words.{words}
use Rattle.plan.specs.Input.{problem_of, genes_of}
use Rattle.decoding.proofs.BoardLaws.{listed_by}
use Rattle.decoding.proofs.placed.place_by.Goals as goal

pub returns-in-Active-clause-order : goal.returns-in-Active-clause-order
returns-in-Active-clause-order c = let p = problem_of (words c.args.s.now) c.args.z in
    let g = genes_of (words c.args.s.now) c.args.z in
    listed_by p g c.in-Active.is c.place_active.ensures.order
