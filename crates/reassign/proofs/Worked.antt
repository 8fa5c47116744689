-- Small cases worked out by the rules themselves. Assumes nothing.
use mathlib.Core.Path.{◌≡◌, refl}
use mathlib.Core.List.{List, [], ◌∷◌}
use Prim.Native.Nat.{ℕ}
use Rattle.graph.specs.Counting as counting
use Rattle.graph.specs.Shop as shop
use Rattle.plan.specs.Problem.{Problem}
use Rattle.plan.specs.Input.{problem_of}
use Rattle.plan.specs.Input as input
use Rattle.plan.specs.Found.{layout_of}
use Rattle.intake.proofs.Worked.{plan_words, reading_of_s}
use Rattle.lines.specs.Lines.{Lines}
use Rattle.lines.specs.Lines as lines
use Rattle.ranking.specs.Ranking as ranking
use Rattle.moves.specs.declared.Move.TheVariants.{Reassign}
use Rattle.path.specs.Placing.{Placing, placed}
use Rattle.reassign.specs.declared.Leaving.{Leaving}
use Rattle.reassign.specs.Reassignments.{first_place, last_place, on_line, best_reassignments}
use Rattle.reassign.specs.Reassignments as rule

-- Document 01, plan P4: own 5..5, the target holds 5..5: the first position would be 1 and the last is 0, so there is none.
abbrev at_five : Placing
at_five = placed [] (5 ∷ 5 ∷ []) (5 ∷ 5 ∷ [])

abbrev zero-leaves : Leaving
zero-leaves = record { activity = 0; machine = 0; place = 0; head = 0; rest = 0 }

pub p4_first : ◌≡◌ {A = ℕ} (first_place at_five (1 ∷ []) 0) 1
unfolding rule.leading
p4_first = refl

pub p4_last : ◌≡◌ {A = ℕ} (last_place at_five (1 ∷ []) 0) 0
unfolding rule.leading
p4_last = refl

pub p4_no_move : on_line at_five (0 ∷ 0 ∷ []) (1 ∷ []) zero-leaves 1 3 ≡ []
unfolding rule.leading
p4_no_move = refl

-- 0 of 2..6 to a line of 1..3 and 4..9: positions 0 to 2, both ends included. At 0 the other two are behind it, at 1 one of them is before
-- it, at 2 both are: lengths 2 + 3 + 7, 3 + 3 + 5, 9 + 3 + 0. The least is at 1.
abbrev between : Placing
between = placed [] (2 ∷ 1 ∷ 4 ∷ []) (6 ∷ 3 ∷ 9 ∷ [])

abbrev leaves : Leaving
leaves = record { activity = 0; machine = 0; place = 0; head = 2; rest = 0 }

pub least_in_between : on_line between (0 ∷ 5 ∷ 0 ∷ []) (1 ∷ 2 ∷ []) leaves 1 3 ≡ record { length = 11; time = 3; made = Reassign 0 0 0 1 1 } ∷ []
unfolding rule.leading rule.least shop.greatest
least_in_between = refl

-- Equal lengths: the least position.
pub first_among_equals : on_line (placed [] (0 ∷ 0 ∷ []) (4 ∷ 4 ∷ [])) (0 ∷ 0 ∷ []) (1 ∷ []) (record { activity = 0; machine = 0; place = 0; head = 4; rest = 4 }) 1 3 ≡ record { length = 11; time = 3; made = Reassign 0 0 0 1 0 } ∷ []
unfolding rule.leading rule.least shop.greatest
first_among_equals = refl

-- ---- Plan S's lines as given

abbrev plan : Problem
plan = problem_of (plan_words 3 4 1 5) (layout_of reading_of_s)

abbrev taken_as_given : Lines
taken_as_given = (0 ∷ 2 ∷ []) ∷ (1 ∷ 3 ∷ []) ∷ []

abbrev timed : Placing
timed = placed (0 ∷ 1 ∷ 2 ∷ 3 ∷ []) (0 ∷ 3 ∷ 3 ∷ 7 ∷ []) (3 ∷ 7 ∷ 4 ∷ 12 ∷ [])

abbrev behind : List ℕ
behind = 9 ∷ 5 ∷ 5 ∷ 0 ∷ []

-- one candidate each: none
pub plan_s_none : best_reassignments plan taken_as_given timed behind (0 ∷ 1 ∷ 3 ∷ []) ≡ []
unfolding rule.any_from input.seconds input.firsts
plan_s_none = refl

-- the same with both machines as candidates of each
abbrev on_either : Problem
on_either =
    record {
      tasks = plan.tasks;
      n = plan.n;
      machines = plan.machines;
      category = plan.category;
      deadline = plan.deadline;
      first = plan.first;
      steps = plan.steps;
      task_of = plan.task_of;
      release = plan.release;
      candidates = λ a. 0 ∷ 1 ∷ [];
      predecessors = plan.predecessors;
      waiting = plan.waiting;
      setup = plan.setup;
      process = plan.process;
      teardown = plan.teardown;
      transport = plan.transport;
      change = plan.change;
      weight = plan.weight;
      limit = plan.limit;
    }

-- 1 goes behind 2, after the end of both: 4 + 4. So does 3: 4 + 5. 0 goes before 1, with 4 + 5 behind it: 3 + 9.
pub plan_s_on_either :
    best_reassignments on_either taken_as_given timed behind (0 ∷ 1 ∷ 3 ∷ [])
    ≡ record { length = 8; time = 4; made = Reassign 1 1 0 0 2 } ∷ record { length = 9; time = 5; made = Reassign 3 1 1 0 2 } ∷ record { length = 12; time = 3; made = Reassign 0 0 0 1 0 } ∷ []
unfolding rule.any_from rule.leading rule.least rule.gathered shop.greatest ranking.insert_by ranking.sort_into input.owner input.seconds input.firsts lines.holder lines.position_of lines.place_on counting.count_of counting.hit
plan_s_on_either = refl
