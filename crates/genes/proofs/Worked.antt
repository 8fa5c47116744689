-- Document 01's plan S as far as its genes go: two tasks of two activities, the first of each on machine 0, the second on machine 1. Its order as it
-- comes, one with unknown tasks and surplus namings, and genes with something missing.
use Rattle.std.specs.Prelude.{None, Option, Some}
use Prim.Native.Nat.{ℕ, ◌*◌}
use mathlib.Core.Path.{◌≡◌, refl}
use mathlib.Core.Bool.{true, false}
use mathlib.Core.List.{List, [], ◌∷◌}
use lib.Ieee.{fin}
use lib.IntN.{negsuc}
use lib.ListN.{get_or, replicate}
use Rattle.graph.specs.Counting.{count_of, hit}
use Rattle.plan.specs.Problem.{Problem, Genes}
use Rattle.lines.specs.Dealing.{at_end, dealt, lines_of}
use Rattle.genes.specs.Indexed.{indexed_from, indexed, assigned_below, misses, lines_of_genes}

abbrev pub plan_s : Problem
plan_s =
    record {
      tasks = 2;
      n = 4;
      machines = 2;
      category = λ t. 0;
      deadline = λ t. None;
      first = λ t. 2 * t;
      steps = λ t. 2;
      task_of = λ a. 0;
      release = λ a. 0;
      candidates = λ a. [];
      predecessors = λ a. [];
      waiting = λ a. [];
      setup = λ a m. 0;
      process = λ a m. 0;
      teardown = λ a m. 0;
      transport = λ l m. 0;
      change = λ m b c. None;
      weight = fin false 1 (negsuc 0);
      limit = 60;
    }

abbrev pub genes : (order : List ℕ) → (machines : List (Option ℕ)) → Genes
genes order machines = record { order = order; assigned = λ a. get_or machines a None }

abbrev pub assignment : List (Option ℕ)
assignment = Some 0 ∷ Some 1 ∷ Some 0 ∷ Some 1 ∷ []

pub as_it_comes : indexed plan_s (genes (0 ∷ 0 ∷ 1 ∷ 1 ∷ []) assignment) ≡ 0 ∷ 1 ∷ 2 ∷ 3 ∷ []
unfolding indexed_from count_of hit
as_it_comes = refl

pub its_lines : lines_of_genes plan_s (genes (0 ∷ 0 ∷ 1 ∷ 1 ∷ []) assignment) ≡ (0 ∷ 2 ∷ []) ∷ (1 ∷ 3 ∷ []) ∷ replicate 14 []
unfolding indexed_from count_of hit lines_of dealt at_end
its_lines = refl

-- 2 and the greatest word name no task; a third naming of a task gives nothing
pub some_dropped : indexed plan_s (genes (1 ∷ 2 ∷ 0 ∷ 1 ∷ 1 ∷ 4294967295 ∷ 0 ∷ 0 ∷ []) assignment) ≡ 2 ∷ 0 ∷ 3 ∷ 1 ∷ []
unfolding indexed_from count_of hit
some_dropped = refl

pub none_missing : misses plan_s (genes (1 ∷ 2 ∷ 0 ∷ 1 ∷ 1 ∷ 4294967295 ∷ 0 ∷ 0 ∷ []) assignment) ≡ false
unfolding indexed_from count_of hit assigned_below
none_missing = refl

pub short_order : misses plan_s (genes (0 ∷ 0 ∷ 0 ∷ 1 ∷ []) assignment) ≡ true
unfolding indexed_from count_of hit assigned_below
short_order = refl

pub no_machine : misses plan_s (genes (0 ∷ 0 ∷ 1 ∷ 1 ∷ []) (Some 0 ∷ Some 1 ∷ None ∷ Some 1 ∷ [])) ≡ true
unfolding indexed_from count_of hit assigned_below
no_machine = refl

pub short_assignment : misses plan_s (genes (0 ∷ 0 ∷ 1 ∷ 1 ∷ []) (Some 0 ∷ Some 1 ∷ Some 0 ∷ [])) ≡ true
unfolding indexed_from count_of hit assigned_below
short_assignment = refl
