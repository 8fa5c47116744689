-- `fitness::last_steps::sums_by_last_steps` meets its contract. The loop's invariant: of the tasks passed, `makespan` is the latest completion and
-- `late` the sum of the tardinesses, and `first` is the next task's first activity.
use Prim.Native.Nat.{ℕ, ◌+◌, ◌*◌, ◌-◌, ◌≤◌, ◌^◌}
use mathlib.Core.Path.{◌≡◌, refl, sym, ap, ◌∙◌}
use native.Mathlib.Omega.{arith}
use lib.ListN.{get_or}
use Rattle.words.specs.Words.{words}
use Rattle.plan.specs.Input.{problem_of}
use Rattle.fitness.specs.Fitness.{latest, sum_to, completion_of, lateness}
use Rattle.fitness.specs.Ended.{latest_end}
use Rattle.bounds.specs.Bounds.{tardiness_of}
use Rattle.fitness.proofs.LatestLaws.{latest_next, sum_next}
use Rattle.fitness.proofs.LastLaws.{completion_last, row_steps, row_late}
use Rattle.fitness.proofs.TaskLaws.{task_within, sums_are, completion_below, lateness_below, late_below, sums_exact}
use Rattle.fitness.proofs.last_steps.sums_by_last_steps.Goals as goal

pub loop-t-init : goal.loop-t-init
unfolding latest sum_to
loop-t-init c = (omega arith, sym c.requires.placed.1.starting, refl, refl)

pub overflow_add-last : goal.overflow_add-last
overflow_add-last c = let steps-are : c.row-of.result.steps ≡ (problem_of (words c.args.s.now) c.args.z).steps c.loop-t.t = row_steps (words c.args.s.now) c.args.z c.loop-t.t (c.args.z.at.tasks + 3 + 5 * c.loop-t.t) c.row-of.result c.row-of.ensures refl in
    let steps-within : (1 ≤ c.row-of.result.steps) × (c.loop-t.first + c.row-of.result.steps ≤ c.args.z.activities) = (
      omega (arith, steps-are, (c.requires.placed.1.steps c.loop-t.t c.loop-t-test.true).0),
      omega (arith, steps-are, task_within c.requires.placed.1 c.loop-t.t c.loop-t-test.true, c.loop-t.invariant.1),
    ) in
    omega (arith, steps-within.1, c.requires.placed.0.activities)

pub offset_bounds-ends-last : goal.offset_bounds-ends-last
offset_bounds-ends-last c = let steps-are : c.row-of.result.steps ≡ (problem_of (words c.args.s.now) c.args.z).steps c.loop-t.t = row_steps (words c.args.s.now) c.args.z c.loop-t.t (c.args.z.at.tasks + 3 + 5 * c.loop-t.t) c.row-of.result c.row-of.ensures refl in
    let steps-within : (1 ≤ c.row-of.result.steps) × (c.loop-t.first + c.row-of.result.steps ≤ c.args.z.activities) = (
      omega (arith, steps-are, (c.requires.placed.1.steps c.loop-t.t c.loop-t-test.true).0),
      omega (arith, steps-are, task_within c.requires.placed.1 c.loop-t.t c.loop-t-test.true, c.loop-t.invariant.1),
    ) in
    omega (arith, steps-within.1, c.requires.placed.0.activities)

pub bounds-ends-last : goal.bounds-ends-last
bounds-ends-last c = let steps-are : c.row-of.result.steps ≡ (problem_of (words c.args.s.now) c.args.z).steps c.loop-t.t = row_steps (words c.args.s.now) c.args.z c.loop-t.t (c.args.z.at.tasks + 3 + 5 * c.loop-t.t) c.row-of.result c.row-of.ensures refl in
    let steps-within : (1 ≤ c.row-of.result.steps) × (c.loop-t.first + c.row-of.result.steps ≤ c.args.z.activities) = (
      omega (arith, steps-are, (c.requires.placed.1.steps c.loop-t.t c.loop-t-test.true).0),
      omega (arith, steps-are, task_within c.requires.placed.1 c.loop-t.t c.loop-t-test.true, c.loop-t.invariant.1),
    ) in
    omega (arith, steps-within.0, steps-within.1, c.requires.ended.0.each)

pub late_in-late-requires : goal.late_in-late-requires
late_in-late-requires c = let steps-are : c.row-of.result.steps ≡ (problem_of (words c.args.s.now) c.args.z).steps c.loop-t.t = row_steps (words c.args.s.now) c.args.z c.loop-t.t (c.args.z.at.tasks + 3 + 5 * c.loop-t.t) c.row-of.result c.row-of.ensures refl in
    let steps-within : (1 ≤ c.row-of.result.steps) × (c.loop-t.first + c.row-of.result.steps ≤ c.args.z.activities) = (
      omega (arith, steps-are, (c.requires.placed.1.steps c.loop-t.t c.loop-t-test.true).0),
      omega (arith, steps-are, task_within c.requires.placed.1 c.loop-t.t c.loop-t-test.true, c.loop-t.invariant.1),
    ) in
    let done-is : get_or c.args.ends.now (c.loop-t.first + c.row-of.result.steps - 1) 0 ≡ completion_of (problem_of (words c.args.s.now) c.args.z) (λ a. get_or c.args.ends.now a 0) c.loop-t.t = completion_last c.requires.placed.1 c.args.ends.now c.requires.ended.1 c.loop-t.t (c.loop-t.first + c.row-of.result.steps - 1) c.loop-t-test.true
    (omega (arith, steps-are, steps-within.0, c.loop-t.invariant.1)) in
    let done_below : get_or c.args.ends.now (c.loop-t.first + c.row-of.result.steps - 1) 0 ≤ latest_end = rw done-is (completion_below (words c.args.s.now) c.args.z c.requires.placed.1 c.args.ends.now c.requires.ended.0 c.loop-t.t c.loop-t-test.true) in
    omega (arith, done_below)

pub overflow_add-late : goal.overflow_add-late
overflow_add-late c = let steps-are : c.row-of.result.steps ≡ (problem_of (words c.args.s.now) c.args.z).steps c.loop-t.t = row_steps (words c.args.s.now) c.args.z c.loop-t.t (c.args.z.at.tasks + 3 + 5 * c.loop-t.t) c.row-of.result c.row-of.ensures refl in
    let steps-within : (1 ≤ c.row-of.result.steps) × (c.loop-t.first + c.row-of.result.steps ≤ c.args.z.activities) = (
      omega (arith, steps-are, (c.requires.placed.1.steps c.loop-t.t c.loop-t-test.true).0),
      omega (arith, steps-are, task_within c.requires.placed.1 c.loop-t.t c.loop-t-test.true, c.loop-t.invariant.1),
    ) in
    let done-is : get_or c.args.ends.now (c.loop-t.first + c.row-of.result.steps - 1) 0 ≡ completion_of (problem_of (words c.args.s.now) c.args.z) (λ a. get_or c.args.ends.now a 0) c.loop-t.t = completion_last c.requires.placed.1 c.args.ends.now c.requires.ended.1 c.loop-t.t (c.loop-t.first + c.row-of.result.steps - 1) c.loop-t-test.true
    (omega (arith, steps-are, steps-within.0, c.loop-t.invariant.1)) in
    let late_is : c.late_in-late.result ≡ lateness (problem_of (words c.args.s.now) c.args.z) (λ a. get_or c.args.ends.now a 0) c.loop-t.t = c.late_in-late.ensures
    ∙ row_late (words c.args.s.now) c.args.z c.loop-t.t (c.args.z.at.tasks + 3 + 5 * c.loop-t.t) c.row-of.result c.row-of.ensures refl
    (get_or c.args.ends.now (c.loop-t.first + c.row-of.result.steps - 1) 0)
    ∙ ap (λ (x : ℕ). tardiness_of x ((problem_of (words c.args.s.now) c.args.z).deadline c.loop-t.t)) done-is in
    let late-fits : c.loop-t.late + c.late_in-late.result ≤ 2 ^ 53 = let w = words c.args.s.now in
    let e = late_is in
    let i = lateness_below w c.args.z c.requires.placed.1 c.args.ends.now c.requires.ended.0 c.loop-t.t c.loop-t-test.true in
    let h = late_below w c.args.z c.requires.placed.1 c.args.ends.now c.requires.ended.0 c.loop-t.t c.loop-t.invariant.0 in
    omega (arith, c.loop-t.invariant.3, c.requires.placed.0.tasks) in
    omega (arith, late-fits)

pub overflow_add-first : goal.overflow_add-first
overflow_add-first c = let steps-are : c.row-of.result.steps ≡ (problem_of (words c.args.s.now) c.args.z).steps c.loop-t.t = row_steps (words c.args.s.now) c.args.z c.loop-t.t (c.args.z.at.tasks + 3 + 5 * c.loop-t.t) c.row-of.result c.row-of.ensures refl in
    let steps-within : (1 ≤ c.row-of.result.steps) × (c.loop-t.first + c.row-of.result.steps ≤ c.args.z.activities) = (
      omega (arith, steps-are, (c.requires.placed.1.steps c.loop-t.t c.loop-t-test.true).0),
      omega (arith, steps-are, task_within c.requires.placed.1 c.loop-t.t c.loop-t-test.true, c.loop-t.invariant.1),
    ) in
    omega (arith, steps-within.1, c.requires.placed.0.activities)

pub loop-t-preserved : goal.loop-t-preserved
loop-t-preserved c = let steps-are : c.row-of.result.steps ≡ (problem_of (words c.args.s.now) c.args.z).steps c.loop-t.t = row_steps (words c.args.s.now) c.args.z c.loop-t.t (c.args.z.at.tasks + 3 + 5 * c.loop-t.t) c.row-of.result c.row-of.ensures refl in
    let steps-within : (1 ≤ c.row-of.result.steps) × (c.loop-t.first + c.row-of.result.steps ≤ c.args.z.activities) = (
      omega (arith, steps-are, (c.requires.placed.1.steps c.loop-t.t c.loop-t-test.true).0),
      omega (arith, steps-are, task_within c.requires.placed.1 c.loop-t.t c.loop-t-test.true, c.loop-t.invariant.1),
    ) in
    let done-is : get_or c.args.ends.now (c.loop-t.first + c.row-of.result.steps - 1) 0 ≡ completion_of (problem_of (words c.args.s.now) c.args.z) (λ a. get_or c.args.ends.now a 0) c.loop-t.t = completion_last c.requires.placed.1 c.args.ends.now c.requires.ended.1 c.loop-t.t (c.loop-t.first + c.row-of.result.steps - 1) c.loop-t-test.true
    (omega (arith, steps-are, steps-within.0, c.loop-t.invariant.1)) in
    let late_is : c.late_in-late.result ≡ lateness (problem_of (words c.args.s.now) c.args.z) (λ a. get_or c.args.ends.now a 0) c.loop-t.t = c.late_in-late.ensures
    ∙ row_late (words c.args.s.now) c.args.z c.loop-t.t (c.args.z.at.tasks + 3 + 5 * c.loop-t.t) c.row-of.result c.row-of.ensures refl
    (get_or c.args.ends.now (c.loop-t.first + c.row-of.result.steps - 1) 0)
    ∙ ap (λ (x : ℕ). tardiness_of x ((problem_of (words c.args.s.now) c.args.z).deadline c.loop-t.t)) done-is in (
      omega (arith, c.loop-t-test.true),
      omega (arith, c.requires.placed.1.next_first c.loop-t.t, c.loop-t.invariant.1, steps-are),
      latest_next _ c.loop-t.invariant.2 done-is c.max-makespan.ensures,
      sum_next _ c.loop-t.invariant.3 late_is,
    )

pub returns : goal.returns
returns c = let w = words c.args.s.now in
    let e : c.loop-t.t ≡ c.args.z.tasks = omega arith in
    let m = c.loop-t.invariant.2 ∙ ap (latest _ 0) e in
    let n = c.loop-t.invariant.3 ∙ ap (sum_to _) e in
    let x = sums_exact w c.args.z c.requires.placed.1 c.args.ends.now c.requires.ended.0 in
    (sums_are (problem_of w c.args.z) (λ a. get_or c.args.ends.now a 0) m n, omega arith, omega arith)
