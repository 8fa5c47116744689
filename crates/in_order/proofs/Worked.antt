-- Plan S placed in order by the rules themselves, with the genes that document 01's search ends with; and a small plan in which the first of
-- the order waits for the last, with and without a machine for the one between.
use Rattle.std.specs.Prelude.{None, Option, Some}
use Prim.Native.Nat.{ℕ, ◌*◌}
use mathlib.Core.Path.{◌≡◌, refl}
use mathlib.Core.Bool.{false, cond}
use mathlib.Core.List.{List, [], ◌∷◌}
use lib.Dec.{eqb, ltb}
use lib.Ieee.{fin}
use lib.IntN.{negsuc}
use lib.ListN.{get_or}
use Rattle.graph.specs.Counting as counting
use Rattle.graph.specs.Shop as shop
use Rattle.plan.specs.Problem.{Problem, Genes}
use Rattle.plan.specs.Input.{problem_of}
use Rattle.plan.specs.Input as input
use Rattle.plan.specs.Found.{layout_of}
use Rattle.grammar.specs.Rules as rules
use Rattle.intake.proofs.Worked.{words_of_s, reading_of_s}
use Rattle.lines.specs.Linking as linking
use Rattle.genes.specs.Indexed as genes
use Rattle.board.specs.Board.{Board}
use Rattle.board.specs.Board as board
use Rattle.in_order.specs.InOrder.{ready_order, place_in_order}
use Rattle.in_order.specs.InOrder as rule

abbrev plan_s : Problem
plan_s = problem_of words_of_s (layout_of reading_of_s)

abbrev on_both : (order : List ℕ) → (machines : List (Option ℕ)) → Genes
on_both order machines = record { order = order; assigned = λ a. get_or machines a None }

-- rows 2 0 0 1 0, 3 1 1 6 0, 0 0 1 4 0, 1 1 6 10 0
abbrev improved : Board
improved = place_in_order plan_s (on_both (1 ∷ 1 ∷ 0 ∷ 0 ∷ []) (Some 0 ∷ Some 1 ∷ Some 0 ∷ Some 1 ∷ []))

pub plan_s-improved : (improved.order ≡ 2 ∷ 3 ∷ 0 ∷ 1 ∷ []) × (improved.starts ≡ 1 ∷ 6 ∷ 0 ∷ 1 ∷ []) × (improved.ends ≡ 4 ∷ 10 ∷ 1 ∷ 6 ∷ []) × (improved.setups ≡ 0 ∷ 0 ∷ 0 ∷ 0 ∷ [])
unfolding input.owner input.seconds input.firsts input.change_from rules.total_from counting.count_of counting.hit shop.greatest linking.marked genes.indexed_from board.those rule.any_pending rule.earlier_pending rule.first_ready rule.ready_from rule.sit_all
plan_s-improved = (refl, refl, refl, refl)

-- Two tasks of two steps; the first step of the first names the last step of the second. Each takes 2 on any machine, from machine to machine
-- it is 10, and a machine that changes from task to task is set up for 1.
abbrev waiting_plan : Problem
waiting_plan =
    record {
      tasks = 2;
      n = 4;
      machines = 2;
      category = λ t. t;
      deadline = λ t. None;
      first = λ t. 2 * t;
      steps = λ t. 2;
      task_of = λ a. cond (ltb a 2) 0 1;
      release = λ a. 0;
      candidates = λ a. [];
      predecessors = λ a. cond (eqb a 0) (3 ∷ []) [];
      waiting = λ a. cond (eqb a 3) (0 ∷ []) [];
      setup = λ a m. 0;
      process = λ a m. 2;
      teardown = λ a m. 0;
      transport = λ l m. cond (eqb l m) 0 10;
      change = λ m b c. cond (eqb b c) None (cond (eqb b 8) None (Some 1));
      weight = fin false 1 (negsuc 0);
      limit = 60;
    }

abbrev machines : List (Option ℕ)
machines = Some 0 ∷ Some 1 ∷ Some 1 ∷ Some 0 ∷ []

abbrev placed : List (Option ℕ) → Board
placed on = place_in_order waiting_plan (on_both (0 ∷ 0 ∷ 1 ∷ 1 ∷ []) on)

pub waits_for-the-last : ready_order waiting_plan (0 ∷ 1 ∷ 2 ∷ 3 ∷ []) ≡ 2 ∷ 3 ∷ 0 ∷ 1 ∷ []
unfolding linking.marked rule.any_pending rule.earlier_pending rule.first_ready rule.ready_from
waits_for-the-last = refl

-- 2 ends at 2, 3 comes ten later and ends at 14; 0 is set up for 1 after it on machine 0; 1 is ten away
pub all_placed_lem : ((placed machines).order ≡ 2 ∷ 3 ∷ 0 ∷ 1 ∷ []) × ((placed machines).starts ≡ 14 ∷ 27 ∷ 0 ∷ 12 ∷ []) × ((placed machines).ends ≡ 17 ∷ 30 ∷ 2 ∷ 14 ∷ []) × ((placed machines).setups ≡ 1 ∷ 1 ∷ 0 ∷ 0 ∷ [])
unfolding counting.count_of counting.hit shop.greatest linking.marked genes.indexed_from board.those rule.any_pending rule.earlier_pending rule.first_ready rule.ready_from rule.sit_all
all_placed_lem = (refl, refl, refl, refl)

-- Without a machine, 2 is settled and not placed, and 3 has no step before it that was.
abbrev without : List (Option ℕ)
without = Some 0 ∷ Some 1 ∷ None ∷ Some 0 ∷ []

pub one_passed_over : ((placed without).order ≡ 3 ∷ 0 ∷ 1 ∷ []) × ((placed without).starts ≡ 2 ∷ 15 ∷ 0 ∷ 0 ∷ []) × ((placed without).ends ≡ 5 ∷ 17 ∷ 0 ∷ 2 ∷ []) × ((placed without).settled ≡ 1 ∷ 1 ∷ 1 ∷ 1 ∷ [])
unfolding counting.count_of counting.hit shop.greatest linking.marked genes.indexed_from board.those rule.any_pending rule.earlier_pending rule.first_ready rule.ready_from rule.sit_all
one_passed_over = (refl, refl, refl, refl)
