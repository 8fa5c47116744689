use Prim.Native.Nat.{ℕ}
use mathlib.Core.Path.{sym, ap, ◌∙◌}
use mathlib.Core.List.{List, ◌++◌}
use native.Mathlib.Omega.{arith}
use lib.ListN.{take, drop, replicate}
use Rattle.words.specs.Words.{words}
use Rattle.plan.specs.Input.{problem_of}
use Rattle.lines.specs.Lines.{lines_in}
use Rattle.calls.proofs.PrefixLaws.{lent, prefix_room, prefix_length, prefix_is}
use Rattle.search.specs.Search.{Improved, saved_of}
use Rattle.improving.specs.Improving.{told, tasks_over, machines_over}
use Rattle.improving.proofs.CallLaws.{same_found}
use Rattle.improving.proofs.found.search_and_tell.Goals as goal

pub slice_bounds-search_timed-end : goal.slice_bounds-search_timed-end
slice_bounds-search_timed-end c = sym (lent c.args.z.activities c.requires.ready.0.accepted.activities.1)

pub slice_bounds-search_timed-end-2 : goal.slice_bounds-search_timed-end-2
slice_bounds-search_timed-end-2 c = sym (lent c.args.z.activities c.requires.ready.0.accepted.activities.1)

pub search_timed-f-requires : goal.search_timed-f-requires
search_timed-f-requires c = record { ready = c.requires.ready; kept = (c.requires.kept.0, lent c.args.z.activities c.requires.ready.0.accepted.activities.1, lent c.args.z.activities c.requires.ready.0.accepted.activities.1) }

pub slice_bounds-found-end-2 : goal.slice_bounds-found-end-2
slice_bounds-found-end-2 c = prefix_room c.args.z.activities c.search_timed-f.new.tasks (drop c.args.z.activities (replicate 128 0)) (c.search_timed-f.auto.tasks ∙ lent c.args.z.activities c.requires.ready.0.accepted.activities.1)

pub slice_bounds-tell-end : goal.slice_bounds-tell-end
slice_bounds-tell-end c = prefix_length c.args.z.activities c.search_timed-f.new.tasks (drop c.args.z.activities (replicate 128 0)) (c.search_timed-f.auto.tasks ∙ lent c.args.z.activities c.requires.ready.0.accepted.activities.1)

pub slice_bounds-on-end-2 : goal.slice_bounds-on-end-2
slice_bounds-on-end-2 c = prefix_room c.args.z.activities c.search_timed-f.new.machines (drop c.args.z.activities (replicate 128 0)) (c.search_timed-f.auto.machines ∙ lent c.args.z.activities c.requires.ready.0.accepted.activities.1)

pub slice_bounds-tell-end-2 : goal.slice_bounds-tell-end-2
slice_bounds-tell-end-2 c = prefix_length c.args.z.activities c.search_timed-f.new.machines (drop c.args.z.activities (replicate 128 0)) (c.search_timed-f.auto.machines ∙ lent c.args.z.activities c.requires.ready.0.accepted.activities.1)

pub tell-requires : goal.tell-requires
tell-requires c = (c.search_timed-f.ensures.number, omega (arith, prefix_length c.args.z.activities c.search_timed-f.new.tasks (drop c.args.z.activities (replicate 128 0)) (c.search_timed-f.auto.tasks ∙ lent c.args.z.activities c.requires.ready.0.accepted.activities.1), c.requires.ready.0.accepted.activities.1, c.requires.kept.1), omega (arith, prefix_length c.args.z.activities c.search_timed-f.new.machines (drop c.args.z.activities (replicate 128 0)) (c.search_timed-f.auto.machines ∙ lent c.args.z.activities c.requires.ready.0.accepted.activities.1), c.requires.ready.0.accepted.activities.1, c.requires.kept.2))

pub returns : goal.returns
returns c = let e = same_found c.search_timed-f.result.found (take c.args.z.activities (c.search_timed-f.new.tasks ++ (drop c.args.z.activities (replicate 128 0)))) (take c.args.z.activities (c.search_timed-f.new.machines ++ (drop c.args.z.activities (replicate 128 0)))) (problem_of (words c.args.s.now) c.args.z) (lines_in c.args.cells.now c.args.lens) c.search_timed-f.ensures.best (ap (λ (x : List ℕ). saved_of c.search_timed-f.result.found x (take c.args.z.activities (c.search_timed-f.new.machines ++ (drop c.args.z.activities (replicate 128 0))))) (prefix_is c.args.z.activities c.search_timed-f.new.tasks (drop c.args.z.activities (replicate 128 0)) (c.search_timed-f.auto.tasks ∙ lent c.args.z.activities c.requires.ready.0.accepted.activities.1)) ∙ ap (λ (x : List ℕ). saved_of c.search_timed-f.result.found c.search_timed-f.new.tasks x) (prefix_is c.args.z.activities c.search_timed-f.new.machines (drop c.args.z.activities (replicate 128 0)) (c.search_timed-f.auto.machines ∙ lent c.args.z.activities c.requires.ready.0.accepted.activities.1)) ∙ c.search_timed-f.ensures.found) in
    record { answer = c.tell.ensures.answer ∙ ap told e; tasks = c.tell.ensures.tasks ∙ ap (λ (i : Improved). tasks_over i c.args.tasks.now) e; machines = c.tell.ensures.machines ∙ ap (λ (i : Improved). machines_over i c.args.machines.now) e }
