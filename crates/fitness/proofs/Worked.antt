-- Document 01's plan S as far as its fitness goes: two tasks of two activities, weight 0.5, no deadlines. Its ends are 3 7 4 12 as it comes,
-- 3 13 4 9 with the second machine's two swapped, 4 10 1 6 improved (P1 to P3). And deadlines, one below 0, which an empty placing misses too.
use Rattle.std.specs.Prelude.{None, Option, Some}
use Prim.Native.Nat.{ℕ, zero, suc, ◌*◌}
use mathlib.Core.Path.{◌≡◌, refl}
use mathlib.Core.Bool.{true, false}
use mathlib.Core.List.{List, [], ◌∷◌}
use lib.IntN.{ℤ, pos, negsuc}
use lib.ListN.{get_or}
use lib.Ieee.{Float, fin, binary64, add, sub, mul, of_int, to_bits, lt}
use Rattle.plan.specs.Problem.{Problem}
use Rattle.fitness.specs.Fitness.{latest, sum_to, weighted, fitness_of}

-- 0.5
abbrev pub half : Float
half = fin false 1 (negsuc 0)

abbrev pub plan : (deadline : ℕ → Option ℤ) → Problem
plan deadline =
    record {
      tasks = 2;
      n = 4;
      machines = 2;
      category = λ t. 0;
      deadline = deadline;
      first = λ t. 2 * t;
      steps = λ t. 2;
      task_of = λ a. 0;
      release = λ a. 0;
      candidates = λ a. [];
      predecessors = λ a. [];
      waiting = λ a. [];
      setup = λ a m. 0;
      process = λ a m. 0;
      teardown = λ a m. 0;
      transport = λ l m. 0;
      change = λ m b c. None;
      weight = half;
      limit = 0;
    }

abbrev pub plan_s : Problem
plan_s = plan (λ t. None)

abbrev pub ends : List ℕ → ℕ → ℕ
ends list a = get_or list a 0

-- 6.0
pub as_it_comes : fitness_of plan_s (ends (3 ∷ 7 ∷ 4 ∷ 12 ∷ [])) ≡ fin false 3 (pos 1)
unfolding latest sum_to add sub mul of_int
as_it_comes = refl

-- 6.5
pub swapped : fitness_of plan_s (ends (3 ∷ 13 ∷ 4 ∷ 9 ∷ [])) ≡ fin false 13 (negsuc 0)
unfolding latest sum_to add sub mul of_int
swapped = refl

-- 5.0
pub improved : fitness_of plan_s (ends (4 ∷ 10 ∷ 1 ∷ 6 ∷ [])) ≡ fin false 5 (pos 0)
unfolding latest sum_to add sub mul of_int
improved = refl

pub improved_bits : to_bits binary64 (fitness_of plan_s (ends (4 ∷ 10 ∷ 1 ∷ 6 ∷ []))) ≡ 0x4014_0000_0000_0000
unfolding latest sum_to add sub mul of_int to_bits
improved_bits = refl

-- The swap is no better than what came, and what was found is.
pub swapped_worse : lt (fitness_of plan_s (ends (3 ∷ 13 ∷ 4 ∷ 9 ∷ []))) (fitness_of plan_s (ends (3 ∷ 7 ∷ 4 ∷ 12 ∷ []))) ≡ false
unfolding latest sum_to add sub mul of_int lt
swapped_worse = refl

pub improved-better : lt (fitness_of plan_s (ends (4 ∷ 10 ∷ 1 ∷ 6 ∷ []))) (fitness_of plan_s (ends (3 ∷ 7 ∷ 4 ∷ 12 ∷ []))) ≡ true
unfolding latest sum_to add sub mul of_int lt
improved-better = refl

-- ---- deadlines

abbrev pub first_due : ℤ → ℕ → Option ℤ
first_due d zero = Some d
first_due d (suc t) = None

-- A task goes by its own completion, 7, not by the makespan, 12: 2 late, so 0.5 * 12 + 0.5 * 2 = 7.0.
pub own_completion : fitness_of (plan (first_due (pos 5))) (ends (3 ∷ 7 ∷ 4 ∷ 12 ∷ [])) ≡ fin false 7 (pos 0)
unfolding latest sum_to add sub mul of_int
own_completion = refl

-- Nothing placed, and a deadline of -5: 5 late, so 2.5.
pub empty_late : fitness_of (plan (first_due (negsuc 4))) (λ a. 0) ≡ fin false 5 (negsuc 0)
unfolding latest sum_to add sub mul of_int
empty_late = refl

-- Nothing placed, and no deadline: 0.
pub empty_free : fitness_of plan_s (λ a. 0) ≡ fin false 0 (pos 0)
unfolding latest sum_to add sub mul of_int
empty_free = refl

-- A weight of 1 leaves the makespan out, and one of 0, either zero, the tardiness: -0 * 1 is -0, which adds nothing.
pub all_late : weighted (fin false 1 (pos 0)) 12 2 ≡ fin false 1 (pos 1)
unfolding add sub mul of_int
all_late = refl

pub none_late : weighted (fin true 0 (pos 0)) 12 2 ≡ fin false 3 (pos 2)
unfolding add sub mul of_int
none_late = refl
