-- Plan S and P7 timed by the rules themselves, from the words that store them.
use Prim.Native.Nat.{ℕ}
use mathlib.Core.Path.{◌≡◌, refl}
use mathlib.Core.Bool.{true, false}
use mathlib.Core.List.{List, [], ◌∷◌}
use Rattle.graph.specs.Order as order
use Rattle.graph.specs.Filing as filing
use Rattle.graph.specs.Counting as counting
use Rattle.graph.specs.Starts as starts
use Rattle.graph.specs.Shop as shop
use Rattle.plan.specs.Problem.{Problem}
use Rattle.plan.specs.Input.{problem_of}
use Rattle.plan.specs.Input as input
use Rattle.plan.specs.Found.{layout_of}
use Rattle.intake.specs.Circle as circle
use Rattle.intake.proofs.Worked.{plan_words, reading_of_s}
use Rattle.lines.specs.Lines.{Lines}
use Rattle.lines.specs.Lines as lines
use Rattle.timing.specs.Timing.{timing_order, contradicts, starts_of}

abbrev plan : (a0 a1 a2 a3 : ℕ) → Problem
plan a0 a1 a2 a3 = problem_of (plan_words a0 a1 a2 a3) (layout_of reading_of_s)

-- The lines of Plan S's order, and those that the search ends with.
abbrev taken_as_given : Lines
taken_as_given = (0 ∷ 2 ∷ []) ∷ (1 ∷ 3 ∷ []) ∷ []

abbrev improved : Lines
improved = (2 ∷ 0 ∷ []) ∷ (3 ∷ 1 ∷ []) ∷ []

pub plan_s-given : (timing_order (plan 3 4 1 5) taken_as_given ≡ 0 ∷ 1 ∷ 2 ∷ 3 ∷ []) × (starts_of (plan 3 4 1 5) taken_as_given ≡ 0 ∷ 3 ∷ 3 ∷ 7 ∷ [])
unfolding order.order_of order.order_from order.stack_free order.free_all input.owner input.seconds input.firsts input.change_from circle.each lines.befores lines.afters lines.holder filing.naming counting.count_of counting.hit starts.timed shop.greatest
plan_s-given = (refl, refl)

pub plan_s-improved : (timing_order (plan 3 4 1 5) improved ≡ 2 ∷ 3 ∷ 0 ∷ 1 ∷ []) × (starts_of (plan 3 4 1 5) improved ≡ 1 ∷ 6 ∷ 0 ∷ 1 ∷ [])
unfolding order.order_of order.order_from order.stack_free order.free_all input.owner input.seconds input.firsts input.change_from circle.each lines.befores lines.afters lines.holder filing.naming counting.count_of counting.hit starts.timed shop.greatest
plan_s-improved = (refl, refl)

-- P7: all times 0, lines m0 a3 a0, m1 a1 a2. Starts of 0 would meet every bound, and the lines contradict all the same.
pub p7 : contradicts (plan 0 0 0 0) ((3 ∷ 0 ∷ []) ∷ (1 ∷ 2 ∷ []) ∷ []) ≡ true
unfolding order.order_of order.order_from order.stack_free order.free_all input.owner input.seconds input.firsts input.change_from circle.each lines.befores lines.afters lines.holder filing.naming counting.count_of counting.hit
p7 = refl
