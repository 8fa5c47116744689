use Prim.Native.Nat.{ℕ}
use mathlib.Core.Path.{refl, sym, ap, ◌∙◌}
use mathlib.Core.List.{List}
use native.Mathlib.Omega.{arith}
use lib.ListN.{get_or}
use Rattle.words.specs.Words.{words}
use Rattle.plan.specs.Input.{problem_of, genes_of}
use Rattle.fitness.specs.Fitness.{fitness_of}
use Rattle.lines.specs.Lines.{lines_in}
use Rattle.calls.proofs.PrefixLaws.{lent}
use Rattle.trial.proofs.TimeLaws.{ended}
use Rattle.search.specs.Search.{searched_to}
use Rattle.improving.proofs.found.search_timed.Goals as goal

pub fitness_of-first-requires : goal.fitness_of-first-requires
fitness_of-first-requires c = record { placed = (c.requires.ready.0.placed, c.requires.ready.0.accepted, c.requires.ready.0.weighed); ended = ended (problem_of (words c.args.s.now) c.args.z) (genes_of (words c.args.s.now) c.args.z) c.requires.ready.0.accepted (lines_in c.args.cells.now c.args.lens) c.requires.ready.1.well c.requires.ready.2 }

pub slice_bounds-search_lines-end : goal.slice_bounds-search_lines-end
slice_bounds-search_lines-end c = sym (lent c.args.z.activities c.requires.ready.0.accepted.activities.1)

pub slice_bounds-search_lines-end-2 : goal.slice_bounds-search_lines-end-2
slice_bounds-search_lines-end-2 c = sym (lent c.args.z.activities c.requires.ready.0.accepted.activities.1)

pub slice_bounds-search_lines-end-3 : goal.slice_bounds-search_lines-end-3
slice_bounds-search_lines-end-3 c = sym (lent c.args.z.activities c.requires.ready.0.accepted.activities.1)

pub search_lines-requires : goal.search_lines-requires
search_lines-requires c = record { ready = (c.requires.ready.0, c.requires.ready.1, c.requires.ready.2, c.is_flexible-choices.ensures (problem_of (words c.args.s.now) c.args.z) c.requires.ready.0.tabled refl c.requires.ready.0.accepted.activities.1); limit_bound = (omega (arith, c.limit-limit.ensures, c.requires.ready.0.accepted.limit), c.fitness_of-first.ensures ∙ ap (λ (l : List ℕ). fitness_of (problem_of (words c.args.s.now) c.args.z) (λ a. get_or l a 0)) c.requires.ready.2.placement.done, c.requires.kept.1, c.requires.kept.2); kept = (c.requires.kept.0, record { length_order = lent c.args.z.activities c.requires.ready.0.accepted.activities.1; length_starts = lent c.args.z.activities c.requires.ready.0.accepted.activities.1; length-ends = lent c.args.z.activities c.requires.ready.0.accepted.activities.1 }) }

pub returns : goal.returns
returns c = record { best = c.search_lines.ensures.best ∙ ap (λ (k : ℕ). (searched_to (problem_of (words c.args.s.now) c.args.z) k (lines_in c.args.cells.now c.args.lens)).best) c.limit-limit.ensures; found = c.search_lines.ensures.found ∙ ap (λ (k : ℕ). (searched_to (problem_of (words c.args.s.now) c.args.z) k (lines_in c.args.cells.now c.args.lens)).found) c.limit-limit.ensures; number = c.search_lines.ensures.number }
