-- `tables::owners::fill_categories` meets its contract. The loop's invariant: the cells passed are filled.
use native.Mathlib.Omega.{arith}
use Rattle.words.specs.Words.{words}
use Rattle.plan.specs.Input.{steps_of}
use Rattle.tables.proofs.TaskLaws.{owner_most}
use Rattle.tables.proofs.owners.fill_categories.Goals as goal

pub category-requires : goal.category-requires
category-requires c = let t = c.requires.3.at c.loop-a.a (omega arith) in
    let m = owner_most (steps_of (words c.args.s.now) c.args.z) c.args.z.tasks 0 c.loop-a.a in
    (c.requires.0, omega (arith, c.requires.0.tasks))
