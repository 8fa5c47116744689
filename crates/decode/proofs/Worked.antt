-- Plan S decoded by the rules themselves: with the genes that document 01's search ends with, both decoders leave the same times, so that the
-- sheet is the one in order, as document 01 prints it; and with machines on which a step can run before one that the order names earlier,
-- the active sheet is the better one.
use Rattle.std.specs.Prelude.{None, Option, Some}
use Prim.Native.Nat.{ℕ}
use mathlib.Core.Path.{◌≡◌, refl}
use mathlib.Core.List.{List, [], ◌∷◌}
use lib.Ieee.{add, sub, mul, of_int, lt, of_bits}
use lib.ListN.{get_or}
use Rattle.graph.specs.Counting as counting
use Rattle.graph.specs.Shop as shop
use Rattle.plan.specs.Problem.{Problem, Genes}
use Rattle.plan.specs.Input.{problem_of}
use Rattle.plan.specs.Input as input
use Rattle.plan.specs.Found.{layout_of}
use Rattle.grammar.specs.Rules as rules
use Rattle.intake.proofs.Worked.{words_of_s, reading_of_s}
use Rattle.lines.specs.Linking as linking
use Rattle.fitness.specs.Fitness as fitness
use Rattle.genes.specs.Indexed as genes
use Rattle.board.specs.Board.{Board}
use Rattle.board.specs.Board as board
use Rattle.in_order.specs.InOrder as order
use Rattle.active.specs.Active as active
use Rattle.decode.specs.Decode.{better_placement}

abbrev plan_s : Problem
plan_s = problem_of words_of_s (layout_of reading_of_s)

abbrev with_genes : (order : List ℕ) → (machines : List (Option ℕ)) → Genes
with_genes order machines = record { order = order; assigned = λ a. get_or machines a None }

-- rows 2 0 0 1 0, 3 1 1 6 0, 0 0 1 4 0, 1 1 6 10 0
abbrev improved : Board
improved = better_placement plan_s (with_genes (1 ∷ 1 ∷ 0 ∷ 0 ∷ []) (Some 0 ∷ Some 1 ∷ Some 0 ∷ Some 1 ∷ []))

pub plan_s-improved : (improved.order ≡ 2 ∷ 3 ∷ 0 ∷ 1 ∷ []) × (improved.starts ≡ 1 ∷ 6 ∷ 0 ∷ 1 ∷ []) × (improved.ends ≡ 4 ∷ 10 ∷ 1 ∷ 6 ∷ [])
unfolding input.owner input.seconds input.firsts input.change_from rules.total_from counting.count_of counting.hit shop.greatest linking.marked fitness.latest fitness.sum_to add sub mul of_int lt of_bits genes.indexed_from board.those order.any_pending order.earlier_pending order.first_ready order.ready_from order.sit_all active.ranked_from active.any_unsettled active.scan_steps active.scan_tasks active.lead_from active.least_rank active.place_from
plan_s-improved = (refl, refl, refl)

-- In order, 2 runs on machine 1 after 1, from 7, and 3 ends at 13; actively 2 runs there first, and 3 ends at 8.
abbrev gap : Board
gap = better_placement plan_s (with_genes (0 ∷ 0 ∷ 1 ∷ 1 ∷ []) (Some 0 ∷ Some 1 ∷ Some 1 ∷ Some 0 ∷ []))

pub gap_filled : (gap.order ≡ 2 ∷ 0 ∷ 1 ∷ 3 ∷ []) × (gap.starts ≡ 0 ∷ 3 ∷ 0 ∷ 3 ∷ []) × (gap.ends ≡ 3 ∷ 7 ∷ 1 ∷ 8 ∷ [])
unfolding input.owner input.seconds input.firsts input.change_from rules.total_from counting.count_of counting.hit shop.greatest linking.marked fitness.latest fitness.sum_to add sub mul of_int lt of_bits genes.indexed_from board.those order.any_pending order.earlier_pending order.first_ready order.ready_from order.sit_all active.ranked_from active.any_unsettled active.scan_steps active.scan_tasks active.lead_from active.least_rank active.place_from
gap_filled = (refl, refl, refl)
