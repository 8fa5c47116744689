-- Plan S with the genes that document 01's search ends with: the rows of the sheet that is shown, without their setups, are those that document 01
-- prints, and the check accepts them.
use Rattle.std.specs.Prelude.{None, Some}
use mathlib.Core.Path.{◌≡◌, refl}
use mathlib.Core.List.{List, [], ◌∷◌}
use lib.Ieee.{add, sub, mul, of_int, lt, of_bits}
use lib.IntN.{ℤ, pos}
use lib.ListN.{get_or}
use Rattle.graph.specs.Counting as counting
use Rattle.graph.specs.Shop as shop
use Rattle.plan.specs.Problem.{Problem, Genes}
use Rattle.plan.specs.Input.{problem_of}
use Rattle.plan.specs.Input as input
use Rattle.plan.specs.Found.{layout_of}
use Rattle.grammar.specs.Rules as rules
use Rattle.intake.proofs.Worked.{words_of_s, reading_of_s}
use Rattle.lines.specs.Linking as linking
use Rattle.fitness.specs.Fitness as fitness
use Rattle.genes.specs.Indexed as genes
use Rattle.board.specs.Board as board
use Rattle.in_order.specs.InOrder as order
use Rattle.active.specs.Active as active
use Rattle.decode.specs.Decode.{better_placement}
use Rattle.sheet.specs.Rows as rows
use Rattle.sheet.specs.Sheet.{check_sheet}
use Rattle.sheet.specs.Sheet as sheet
use Rattle.sheet.specs.declared.Verdict.TheVariants.{Accepted}
use Rattle.accepted_sheets.specs.SheetRows.{rows_from, rows_of}

abbrev plan_s : Problem
plan_s = problem_of words_of_s (layout_of reading_of_s)

abbrev improved : Genes
improved = record { order = 1 ∷ 1 ∷ 0 ∷ 0 ∷ []; assigned = λ a. get_or (Some 0 ∷ Some 1 ∷ Some 0 ∷ Some 1 ∷ []) a None }

abbrev printed : List ℤ
printed =
    pos 2 ∷ pos 0 ∷ pos 0 ∷ pos 1 ∷ pos 3 ∷ pos 1 ∷ pos 1 ∷ pos 6 ∷ pos 0 ∷ pos 0 ∷ pos 1 ∷ pos 4 ∷ pos 1 ∷ pos 1 ∷ pos 6 ∷ pos 10 ∷ []

pub plan_s-shown : rows_of improved (better_placement plan_s improved) ≡ printed
unfolding input.owner input.seconds input.firsts input.change_from rules.total_from counting.count_of counting.hit shop.greatest linking.marked fitness.latest fitness.sum_to add sub mul of_int lt of_bits genes.indexed_from board.those order.any_pending order.earlier_pending order.first_ready order.ready_from order.sit_all active.ranked_from active.any_unsettled active.scan_steps active.scan_tasks active.lead_from active.least_rank active.place_from rows_from
plan_s-shown = refl

pub plan_s_accepted : check_sheet plan_s printed ≡ Accepted
unfolding input.owner input.seconds input.firsts input.change_from rules.total_from counting.count_of counting.hit rows.first rows.last sheet.all sheet.check_from
plan_s_accepted = refl
