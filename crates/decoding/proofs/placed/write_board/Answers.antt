-- `decoding::write_board` meets its contract.
use lib.ListN.{replicate}
use Rattle.words.specs.Words.{words}
use Rattle.plan.specs.Input.{problem_of, genes_of}
use Rattle.calls.proofs.SheetLaws.{roomy_for}
use Rattle.decoding.proofs.BoardLaws.{laid_few, laid_known, laid_asks, laid-ended, written-leaves}
use Rattle.decoding.proofs.placed.write_board.Goals as goal

pub write-requires : goal.write-requires
write-requires c = record { roomy = roomy_for (laid_few c.requires.taken.1 c.requires.taken.0.accepted.activities.1) c.requires.roomy; below = laid_asks c.requires.taken.1 c.requires.taken.0.accepted.activities.1 c.fill_machines.new.machines c.fill_machines.auto.machines }

pub fitness_bits-requires-clause-ended : goal.fitness_bits-requires-clause-ended
fitness_bits-requires-clause-ended c = laid-ended c.requires.taken.1 c.requires.taken.0.accepted.activities.1

pub returns-clause-rows : goal.returns-clause-rows
returns-clause-rows c = let p = problem_of (words c.args.s.now) c.args.z in
    let g = genes_of (words c.args.s.now) c.args.z in
    written-leaves p g (replicate 128 0) c.args.order.now c.args.begun.now c.args.done.now c.args.prepared.now c.requires.taken.0.accepted.activities.1 c.fill_machines.ensures.machines_after (laid_known c.requires.taken.1 c.requires.taken.0.accepted.activities.1) c.write.ensures
