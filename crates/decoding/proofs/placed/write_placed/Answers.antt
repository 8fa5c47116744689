-- `decoding::write_placed` meets its contract: what was placed is what is written.
use Rattle.words.specs.Words.{words}
use Rattle.plan.specs.Input.{problem_of, genes_of}
use Rattle.decoding.proofs.BoardLaws.{laid_by}
use Rattle.decoding.proofs.placed.write_placed.Goals as goal

pub write_board-requires-clause-taken : goal.write_board-requires-clause-taken
write_board-requires-clause-taken c = let p = problem_of (words c.args.s.now) c.args.z in
    let g = genes_of (words c.args.s.now) c.args.z in
    (c.requires.taken, laid_by c.args.which p g c.requires.taken.accepted c.place_by-count.ensures.order c.place_by-count.ensures.times)
