-- Sheets worked out by the rules: Plan S improved, as document 01 prints it, and sheets that break one rule each.
use Rattle.std.specs.Prelude.{None, Option, Some}
use Prim.Native.Nat.{ℕ, ◌*◌, ◌/◌}
use mathlib.Core.Path.{◌≡◌, refl}
use mathlib.Core.Bool.{false, cond, ◌&&◌}
use mathlib.Core.List.{List, [], ◌∷◌, ◌++◌, map}
use lib.Dec.{eqb}
use lib.IntN.{ℤ, pos, negsuc}
use lib.ListN.{get_or}
use lib.Ieee.{fin}
use Rattle.plan.specs.Problem.{Problem}
use Rattle.sheet.specs.Rows.{first, last}
use Rattle.sheet.specs.Sheet.{number_of, all, check_from, check_sheet}
use Rattle.sheet.specs.declared.Rule.TheVariants.{Known, Once, Start, End, Span, Release, Line, Step, Named}
use Rattle.sheet.specs.declared.Verdict.TheVariants.{Accepted, Bad, Missing}

-- Plan S: two tasks of two activities, which take 3 4 1 5 on either machine. Beyond it the tasks have different categories, activity 2 a
-- release, activity 3 names some, and a machine a setup for a change from one category to another.
abbrev plan_with : (release : ℕ) → (named : List ℕ) → (change : ℕ → ℕ → ℕ → Option ℕ) → Problem
plan_with release named change =
    record {
      tasks = 2;
      n = 4;
      machines = 2;
      category = λ t. t;
      deadline = λ t. None;
      first = λ t. 2 * t;
      steps = λ t. 2;
      task_of = λ a. a / 2;
      release = λ a. get_or (0 ∷ 0 ∷ release ∷ 0 ∷ []) a 0;
      candidates = λ a. [];
      predecessors = λ a. get_or ([] ∷ [] ∷ [] ∷ named ∷ []) a [];
      waiting = λ a. [];
      setup = λ a m. 0;
      process = λ a m. get_or (3 ∷ 4 ∷ 1 ∷ 5 ∷ []) a 0;
      teardown = λ a m. 0;
      transport = λ l m. 0;
      change = change;
      weight = fin false 1 (negsuc 0);
      limit = 60;
    }

abbrev plan : (release : ℕ) → (named : List ℕ) → Problem
plan release named = plan_with release named (λ m b c. None)

-- 2 on machine 1 from the second task to the first, 7 where nothing ran before on machine 0
abbrev changes : ℕ → ℕ → ℕ → Option ℕ
changes m b c = cond (eqb m 1 && (eqb b 1 && eqb c 0)) (Some 2) (cond (eqb m 0 && eqb b 8) (Some 7) None)

abbrev row : (activity machine start end : ℕ) → List ℤ
row a m s e = pos a ∷ pos m ∷ pos s ∷ pos e ∷ []

abbrev improved : List ℤ
improved = row 2 0 0 1 ++ (row 3 1 1 6 ++ (row 0 0 1 4 ++ row 1 1 6 10))

pub plan_s_lem : check_sheet (plan 0 []) improved ≡ Accepted
unfolding first last all check_from
plan_s_lem = refl

-- the rules by their numbers
pub rules_numbered : map number_of (Known ∷ Once ∷ Start ∷ End ∷ Span ∷ Release ∷ Line ∷ Step ∷ Named ∷ []) ≡ 1 ∷ 2 ∷ 3 ∷ 4 ∷ 5 ∷ 6 ∷ 7 ∷ 8 ∷ 9 ∷ []
rules_numbered = refl

-- 1: activity 4; machine 2; activity -1; a last row without its end, after rows that are all good
pub unknown :
    (check_sheet (plan 0 []) (row 2 0 0 1 ++ row 4 1 1 6) ≡ Bad Known 1)
    × (check_sheet (plan 0 []) (row 2 2 0 1) ≡ Bad Known 0)
    × (check_sheet (plan 0 []) (negsuc 0 ∷ pos 0 ∷ pos 0 ∷ pos 0 ∷ []) ≡ Bad Known 0)
    × (check_sheet (plan 0 []) (improved ++ (pos 0 ∷ pos 0 ∷ pos 0 ∷ [])) ≡ Bad Known 4)
unfolding first last all check_from
unknown = (refl, refl, refl, refl)

-- 2: a second row of activity 2
pub twice : check_sheet (plan 0 []) (row 2 0 0 1 ++ row 2 1 1 2) ≡ Bad Once 1
unfolding first last all check_from
twice = refl

-- 3: -2^63 is a start
pub early : check_sheet (plan 0 []) (pos 2 ∷ pos 0 ∷ negsuc 9223372036854775807 ∷ pos 1 ∷ []) ≡ Bad Start 0
unfolding first last all check_from
early = refl

-- 4: one past the largest end; the largest itself is allowed
pub late :
    (check_sheet (plan 0 []) (row 2 0 1101659110911 1101659110912) ≡ Bad End 0)
    × (check_sheet (plan 0 []) (row 2 0 1101659110910 1101659110911) ≡ Missing 0)
unfolding first last all check_from
late = (refl, refl)

-- 5: two moments for one; an end that lies so far before its start that their difference is no 64-bit number
pub long :
    (check_sheet (plan 0 []) (row 2 0 0 2) ≡ Bad Span 0)
    × (check_sheet (plan 0 []) (pos 2 ∷ pos 0 ∷ pos 9223372036854775807 ∷ negsuc 9223372036854775807 ∷ []) ≡ Bad Span 0)
unfolding first last all check_from
long = (refl, refl)

-- 5: a setup after another category, and one where nothing ran before
pub set_up :
    (check_sheet (plan_with 0 [] changes) improved ≡ Bad Span 0)
    × (check_sheet (plan_with 0 [] changes) (row 2 0 0 8 ++ (row 3 1 8 13 ++ (row 0 0 8 11 ++ row 1 1 13 17))) ≡ Bad Span 3)
    × (check_sheet (plan_with 0 [] changes) (row 2 0 0 8 ++ (row 3 1 8 13 ++ (row 0 0 8 11 ++ row 1 1 13 19))) ≡ Accepted)
unfolding first last all check_from
set_up = (refl, refl, refl)

-- 6: released at 1
pub unreleased : check_sheet (plan 1 []) improved ≡ Bad Release 0
unfolding first last all check_from
unreleased = refl

-- 7: activity 0 while 2 is on its machine
pub overlapping : check_sheet (plan 0 []) (row 2 0 0 1 ++ row 0 0 0 3) ≡ Bad Line 1
unfolding first last all check_from
overlapping = refl

-- 8: activity 3 before 2 has ended. The row of 2 stands later and is not checked yet: it may end at -2^63. Without a row it binds nothing.
pub before_its_step :
    (check_sheet (plan 0 []) (row 3 1 0 5 ++ row 2 0 0 1) ≡ Bad Step 0)
    × (check_sheet (plan 0 []) (row 3 1 0 5 ++ (pos 2 ∷ pos 0 ∷ pos 0 ∷ negsuc 9223372036854775807 ∷ [])) ≡ Bad Span 1)
    × (check_sheet (plan 0 []) (row 3 1 0 5) ≡ Missing 0)
unfolding first last all check_from
before_its_step = (refl, refl, refl)

-- 9: activity 3 names 0, which ends at 4
pub before_one_named : check_sheet (plan 0 (1 ∷ 0 ∷ [])) improved ≡ Bad Named 1
unfolding first last all check_from
before_one_named = refl

-- 10: the lowest of 0 and 1, which have no row; and no rows at all
pub rowless :
    (check_sheet (plan 0 []) (row 2 0 0 1 ++ row 3 1 1 6) ≡ Missing 0)
    × (check_sheet (plan 0 []) (row 0 0 0 3 ++ (row 2 0 3 4 ++ row 3 1 4 9)) ≡ Missing 1)
    × (check_sheet (plan 0 []) [] ≡ Missing 0)
unfolding first last all check_from
rowless = (refl, refl, refl)
