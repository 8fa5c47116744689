-- `fitness::sums_of` meets its contract. The loop's invariant: of the tasks passed, `makespan` is the latest completion and `late` the sum of the
-- tardinesses, and `first` is the next task's first activity.
use Prim.Native.Nat.{◌+◌, ◌≤◌, ◌^◌}
use mathlib.Core.Path.{◌≡◌, refl, sym, ap, ◌∙◌}
use native.Mathlib.Omega.{arith}
use lib.ListN.{get_or}
use Rattle.words.specs.Words.{words}
use Rattle.plan.specs.Input.{problem_of}
use Rattle.fitness.specs.Fitness.{latest, sum_to, completion_of, lateness}
use Rattle.fitness.specs.Ended.{latest_end}
use Rattle.fitness.proofs.LatestLaws.{latest_next, sum_next}
use Rattle.fitness.proofs.TaskLaws.{task_within, completion_is, lateness_is, sums_are, completion_below, lateness_below, late_below, sums_exact}
use Rattle.fitness.proofs.sums_of.Goals as goal

pub loop-t-init : goal.loop-t-init
unfolding latest sum_to
loop-t-init c = (omega arith, sym c.requires.placed.1.starting, refl, refl)

pub completion-done-requires : goal.completion-done-requires
completion-done-requires c = omega (arith, task_within c.requires.placed.1 c.loop-t.t c.loop-t-test.true, c.steps-steps.ensures, c.loop-t.invariant.1, c.requires.ended.each)

pub tardiness-late-requires : goal.tardiness-late-requires
tardiness-late-requires c = let done-is : c.completion-done.result ≡ completion_of (problem_of (words c.args.s.now) c.args.z) (λ a. get_or c.args.ends.now a 0) c.loop-t.t = completion_is (problem_of (words c.args.s.now) c.args.z) (λ a. get_or c.args.ends.now a 0) c.loop-t.t c.loop-t.first
    c.steps-steps.result c.completion-done.result c.completion-done.ensures c.loop-t.invariant.1 c.steps-steps.ensures in
    let done_below : c.completion-done.result ≤ latest_end = rw done-is (completion_below (words c.args.s.now) c.args.z c.requires.placed.1 c.args.ends.now c.requires.ended c.loop-t.t c.loop-t-test.true) in
    omega (arith, done_below)

pub overflow_add-late : goal.overflow_add-late
overflow_add-late c = let done-is : c.completion-done.result ≡ completion_of (problem_of (words c.args.s.now) c.args.z) (λ a. get_or c.args.ends.now a 0) c.loop-t.t = completion_is (problem_of (words c.args.s.now) c.args.z) (λ a. get_or c.args.ends.now a 0) c.loop-t.t c.loop-t.first
    c.steps-steps.result c.completion-done.result c.completion-done.ensures c.loop-t.invariant.1 c.steps-steps.ensures in
    let late_is : c.tardiness-late.result ≡ lateness (problem_of (words c.args.s.now) c.args.z) (λ a. get_or c.args.ends.now a 0) c.loop-t.t = lateness_is (problem_of (words c.args.s.now) c.args.z) (λ a. get_or c.args.ends.now a 0) c.loop-t.t
    c.completion-done.result c.tardiness-late.result c.tardiness-late.ensures c.deadline-due.ensures done-is in
    let late-fits : c.loop-t.late + c.tardiness-late.result ≤ 2 ^ 53 = let w = words c.args.s.now in
    let e = late_is in
    let i = lateness_below w c.args.z c.requires.placed.1 c.args.ends.now c.requires.ended c.loop-t.t c.loop-t-test.true in
    let h = late_below w c.args.z c.requires.placed.1 c.args.ends.now c.requires.ended c.loop-t.t c.loop-t.invariant.0 in
    omega (arith, c.loop-t.invariant.3, c.requires.placed.0.tasks) in
    omega (arith, late-fits)

pub overflow_add-first : goal.overflow_add-first
overflow_add-first c = omega (arith, task_within c.requires.placed.1 c.loop-t.t c.loop-t-test.true, c.steps-steps.ensures, c.loop-t.invariant.1, c.requires.placed.0.activities)

pub loop-t-preserved : goal.loop-t-preserved
loop-t-preserved c = let done-is : c.completion-done.result ≡ completion_of (problem_of (words c.args.s.now) c.args.z) (λ a. get_or c.args.ends.now a 0) c.loop-t.t = completion_is (problem_of (words c.args.s.now) c.args.z) (λ a. get_or c.args.ends.now a 0) c.loop-t.t c.loop-t.first
    c.steps-steps.result c.completion-done.result c.completion-done.ensures c.loop-t.invariant.1 c.steps-steps.ensures in
    let late_is : c.tardiness-late.result ≡ lateness (problem_of (words c.args.s.now) c.args.z) (λ a. get_or c.args.ends.now a 0) c.loop-t.t = lateness_is (problem_of (words c.args.s.now) c.args.z) (λ a. get_or c.args.ends.now a 0) c.loop-t.t
    c.completion-done.result c.tardiness-late.result c.tardiness-late.ensures c.deadline-due.ensures done-is in (
      omega (arith, c.loop-t-test.true),
      omega (arith, c.requires.placed.1.next_first c.loop-t.t, c.loop-t.invariant.1, c.steps-steps.ensures),
      latest_next _ c.loop-t.invariant.2 done-is c.max-makespan.ensures,
      sum_next _ c.loop-t.invariant.3 late_is,
    )

pub returns : goal.returns
returns c = let w = words c.args.s.now in
    let e : c.loop-t.t ≡ c.args.z.tasks = omega arith in
    let m = c.loop-t.invariant.2 ∙ ap (latest _ 0) e in
    let n = c.loop-t.invariant.3 ∙ ap (sum_to _) e in
    let x = sums_exact w c.args.z c.requires.placed.1 c.args.ends.now c.requires.ended in
    (sums_are (problem_of w c.args.z) (λ a. get_or c.args.ends.now a 0) m n, omega arith, omega arith)
