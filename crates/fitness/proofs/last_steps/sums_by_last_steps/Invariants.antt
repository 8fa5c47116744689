-- `fitness::last_steps::sums_by_last_steps` meets its contract. The loop's invariant: of the tasks passed, `makespan` is the latest completion and
-- `late` the sum of the tardinesses, and `first` is the next task's first activity.
use Prim.Native.Nat.{◌≤◌}
use mathlib.Core.Path.{◌≡◌}
use lib.ListN.{get_or}
use Rattle.words.specs.Words.{words}
use Rattle.plan.specs.Input.{problem_of}
use Rattle.fitness.specs.Fitness.{latest, sum_to, completion_of, lateness}
use Rattle.fitness.proofs.last_steps.sums_by_last_steps.Given as goal

abbrev pub invariant-loop-t : goal.invariant-loop-t
invariant-loop-t l = (l.t ≤ l.z.tasks) × (l.first ≡ (problem_of (words l.s) l.z).first l.t)
    × (l.makespan ≡ latest (completion_of (problem_of (words l.s) l.z) (λ a. get_or l.ends a 0)) 0 l.t)
    × (l.late ≡ sum_to (lateness (problem_of (words l.s) l.z) (λ a. get_or l.ends a 0)) l.t)
