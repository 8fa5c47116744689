-- `tables::owners::fill_owners` meets its contract. The loop's invariant: the owners passed are filled, and a task has begun.
use mathlib.Core.Path.{◌≡◌}
use native.Mathlib.Omega.{arith}
use Rattle.words.specs.Words.{words}
use Rattle.plan.specs.Input.{steps_of}
use Rattle.tables.proofs.FillLaws.{filled_none, filled_more}
use Rattle.tables.proofs.TaskLaws.{first_none, first_next, task_of_place}
use Rattle.tables.proofs.owners.fill_owners.Goals as goal

pub loop-a-init : goal.loop-a-init
loop-a-init c = let ws = words c.args.s.now in
    let none_before = first_none ws c.args.z in
    let one_before = first_next ws c.args.z 0 in
    let count : c.steps.result ≡ steps_of ws c.args.z 0 = c.steps.ensures in
    (record { first = omega arith; ends = omega arith; within = omega arith }, filled_none)

pub loop-a-preserved : goal.loop-a-preserved
loop-a-preserved c = let owned = task_of_place (words c.args.s.now) c.args.z c.requires.1 c.place_of-place.result c.loop-a.a (omega arith) c.place_of-place.ensures.0 c.place_of-place.ensures.1 in
    (record { first = omega (arith, c.place_of-place.ensures.0.first); ends = c.place_of-place.ensures.0.ends; within = omega (arith, c.place_of-place.ensures.1) }, filled_more c.loop-a.invariant.1 (omega arith) (omega (arith, owned)))
