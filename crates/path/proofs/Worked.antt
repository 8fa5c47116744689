-- The path and the tails of Plan S's lines as given, by the rules themselves.
use mathlib.Core.Path.{◌≡◌, refl}
use mathlib.Core.List.{[], ◌∷◌}
use Rattle.graph.specs.Filing as filing
use Rattle.graph.specs.Counting as counting
use Rattle.graph.specs.Shop as shop
use Rattle.plan.specs.Problem.{Problem}
use Rattle.plan.specs.Input.{problem_of}
use Rattle.plan.specs.Input as input
use Rattle.plan.specs.Found.{layout_of}
use Rattle.intake.proofs.Worked.{plan_words, reading_of_s}
use Rattle.lines.specs.Lines.{Lines}
use Rattle.lines.specs.Lines as lines
use Rattle.path.specs.Placing.{Placing, placed}
use Rattle.path.specs.Path.{critical_path}
use Rattle.path.specs.Path as path
use Rattle.path.specs.Tails.{tails}
use Rattle.path.specs.Tails as behind

abbrev plan : Problem
plan = problem_of (plan_words 3 4 1 5) (layout_of reading_of_s)

abbrev taken_as_given : Lines
taken_as_given = (0 ∷ 2 ∷ []) ∷ (1 ∷ 3 ∷ []) ∷ []

abbrev timed : Placing
timed = placed (0 ∷ 1 ∷ 2 ∷ 3 ∷ []) (0 ∷ 3 ∷ 3 ∷ 7 ∷ []) (3 ∷ 7 ∷ 4 ∷ 12 ∷ [])

-- 3 ends last and starts where 1 ends on its line; 1 starts where 0, the step before it, ends.
pub plan_s_path : critical_path plan taken_as_given timed ≡ 0 ∷ 1 ∷ 3 ∷ []
unfolding path.walk_back path.last_from path.first_meeting input.owner input.seconds input.firsts lines.befores lines.holder filing.naming counting.count_of counting.hit
plan_s_path = refl

pub plan_s-tails : tails plan taken_as_given timed ≡ 9 ∷ 5 ∷ 5 ∷ 0 ∷ []
unfolding behind.tails_down input.owner input.seconds input.firsts lines.afters filing.naming counting.count_of counting.hit shop.greatest
plan_s-tails = refl
