-- Plan S placed actively by the rules themselves, with the genes that document 01 gives and those that its search ends with; and a small plan
-- whose first scan only settles, and so ends the work though it freed a step.
use Rattle.std.specs.Prelude.{None, Option, Some}
use Prim.Native.Nat.{ℕ, ◌*◌}
use mathlib.Core.Path.{◌≡◌, refl}
use mathlib.Core.Bool.{false, cond}
use mathlib.Core.List.{List, [], ◌∷◌}
use lib.Dec.{eqb, ltb}
use lib.Ieee.{fin}
use lib.IntN.{negsuc}
use lib.ListN.{get_or}
use Rattle.graph.specs.Counting as counting
use Rattle.graph.specs.Shop as shop
use Rattle.plan.specs.Problem.{Problem, Genes}
use Rattle.plan.specs.Input.{problem_of}
use Rattle.plan.specs.Input as input
use Rattle.plan.specs.Found.{layout_of}
use Rattle.grammar.specs.Rules as rules
use Rattle.intake.proofs.Worked.{words_of_s, reading_of_s}
use Rattle.genes.specs.Indexed as genes
use Rattle.board.specs.Board.{Board}
use Rattle.active.specs.Active.{place_active}
use Rattle.active.specs.Active as rule

abbrev plan_s : Problem
plan_s = problem_of words_of_s (layout_of reading_of_s)

abbrev with_genes : (order : List ℕ) → (machines : List (Option ℕ)) → Genes
with_genes order machines = record { order = order; assigned = λ a. get_or machines a None }

abbrev on_both : List (Option ℕ)
on_both = Some 0 ∷ Some 1 ∷ Some 0 ∷ Some 1 ∷ []

-- 2 would finish first, at 1, but 0 ranks before it there; 1 then would finish at 7, and ranks before 3
abbrev given : Board
given = place_active plan_s (with_genes (0 ∷ 0 ∷ 1 ∷ 1 ∷ []) on_both)

pub plan_s-given : (given.order ≡ 0 ∷ 2 ∷ 1 ∷ 3 ∷ []) × (given.starts ≡ 0 ∷ 3 ∷ 3 ∷ 7 ∷ []) × (given.ends ≡ 3 ∷ 7 ∷ 4 ∷ 12 ∷ [])
unfolding input.owner input.seconds input.firsts input.change_from rules.total_from counting.count_of counting.hit shop.greatest genes.indexed_from rule.ranked_from rule.any_unsettled rule.scan_steps rule.scan_tasks rule.lead_from rule.least_rank rule.place_from
plan_s-given = (refl, refl, refl)

-- the same times as in order, and so no less a fitness
abbrev improved : Board
improved = place_active plan_s (with_genes (1 ∷ 1 ∷ 0 ∷ 0 ∷ []) on_both)

pub plan_s-improved : (improved.order ≡ 2 ∷ 0 ∷ 3 ∷ 1 ∷ []) × (improved.starts ≡ 1 ∷ 6 ∷ 0 ∷ 1 ∷ []) × (improved.ends ≡ 4 ∷ 10 ∷ 1 ∷ 6 ∷ [])
unfolding input.owner input.seconds input.firsts input.change_from rules.total_from counting.count_of counting.hit shop.greatest genes.indexed_from rule.ranked_from rule.any_unsettled rule.scan_steps rule.scan_tasks rule.lead_from rule.least_rank rule.place_from
plan_s-improved = (refl, refl, refl)

-- None is in the order: all rank alike, and the earlier task goes first where they contend.
abbrev absent : Board
absent = place_active plan_s (with_genes [] on_both)

pub plan_s-absent : (absent.order ≡ 0 ∷ 2 ∷ 1 ∷ 3 ∷ []) × (absent.ends ≡ 3 ∷ 7 ∷ 4 ∷ 12 ∷ [])
unfolding input.owner input.seconds input.firsts input.change_from rules.total_from counting.count_of counting.hit shop.greatest genes.indexed_from rule.ranked_from rule.any_unsettled rule.scan_steps rule.scan_tasks rule.lead_from rule.least_rank rule.place_from
plan_s-absent = (refl, refl)

-- Two tasks of two steps; the first step of the first names the last step of the second. Each takes 2 on any machine.
abbrev waiting_plan : Problem
waiting_plan =
    record {
      tasks = 2;
      n = 4;
      machines = 2;
      category = λ t. t;
      deadline = λ t. None;
      first = λ t. 2 * t;
      steps = λ t. 2;
      task_of = λ a. cond (ltb a 2) 0 1;
      release = λ a. 0;
      candidates = λ a. [];
      predecessors = λ a. cond (eqb a 0) (3 ∷ []) [];
      waiting = λ a. cond (eqb a 3) (0 ∷ []) [];
      setup = λ a m. 0;
      process = λ a m. 2;
      teardown = λ a m. 0;
      transport = λ l m. 0;
      change = λ m b c. None;
      weight = fin false 1 (negsuc 0);
      limit = 60;
    }

-- The second task has no machines: the scan settles both its steps after it left 0 waiting, finds no candidate, and nothing is placed.
abbrev only_settled : Board
only_settled = place_active waiting_plan (with_genes (0 ∷ 0 ∷ 1 ∷ 1 ∷ []) (Some 0 ∷ Some 1 ∷ None ∷ None ∷ []))

pub settling_ends_the_work : (only_settled.order ≡ []) × (only_settled.settled ≡ 0 ∷ 0 ∷ 1 ∷ 1 ∷ [])
unfolding counting.count_of counting.hit shop.greatest genes.indexed_from rule.ranked_from rule.any_unsettled rule.scan_steps rule.scan_tasks rule.lead_from rule.least_rank rule.place_from
settling_ends_the_work = (refl, refl)

-- With machines for both, 0 waits until 3 is placed.
abbrev all_placed : Board
all_placed = place_active waiting_plan (with_genes (0 ∷ 0 ∷ 1 ∷ 1 ∷ []) (Some 0 ∷ Some 1 ∷ Some 1 ∷ Some 0 ∷ []))

pub waits_for-the-last : (all_placed.order ≡ 2 ∷ 3 ∷ 0 ∷ 1 ∷ []) × (all_placed.ends ≡ 6 ∷ 8 ∷ 2 ∷ 4 ∷ [])
unfolding counting.count_of counting.hit shop.greatest genes.indexed_from rule.ranked_from rule.any_unsettled rule.scan_steps rule.scan_tasks rule.lead_from rule.least_rank rule.place_from
waits_for-the-last = (refl, refl)
