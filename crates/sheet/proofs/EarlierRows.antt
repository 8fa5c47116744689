-- Rules 2, 5 and 7 look at the earlier rows that meet rule 1. For a row that an answer may be about, those are all the earlier rows, since none
-- of them is bad: rule 2 says that no earlier row has this activity, and the line predecessor is the last earlier row on this machine.
use Rattle.std.specs.Prelude.{None}
use Prim.Native.Nat.{ℕ, ◌<◌}
use mathlib.Core.Path.{◌≡◌, refl, sym, ap, ◌∙◌}
use mathlib.Core.Bool.{true, false}
use mathlib.Core.List.{List}
use mathlib.Core.Logic.{◌↔◌, ⊎_elim}
use native.Mathlib.Omega.{arith}
use borrow.Author.Tests.{eqb-true, eq-eqb, ne_eqb}
use lib.IntN.{ℤ, pos}
use Rattle.words.specs.Signed.{clamp}
use Rattle.plan.specs.Problem.{Problem}
use Rattle.sheet.specs.Rows.{rows_in, activity_in, machine_in, row_of, subject_of, is_of, is_on, is_row, is_row_on, first_row, row_before}
use Rattle.sheet.specs.Sheet.{is_first, broken_rule}
use Rattle.sheet.proofs.SearchLaws.{Meets, known_meets}
use Rattle.sheet.proofs.FindLaws.{opposite, first_is, first_cases, last_none, last_is}
use Rattle.sheet.proofs.KeptLaws.{good_known}

same_number : {x y : ℤ} {a b : ℕ} → x ≡ pos a → y ≡ pos b → x ≡ y → a ≡ b
same_number p q e = cc

module _ (p : Problem) (l : List ℤ) (i : ℕ) (good : (j : ℕ) → j < i → broken_rule p l j ≡ None) (a m : ℕ) (here : subject_of p.n p.machines l i ≡ row_of a m) where
  meets : Meets p.n p.machines l i a m
  meets = known_meets p.n p.machines l i here

  -- ---- whether an earlier row is of this activity, and on this machine

  module _ (j : ℕ) (h : j < i) where
    known : subject_of p.n p.machines l j ≡ row_of (clamp (activity_in l j)) (clamp (machine_in l j))
    known = good_known p l j (good j h)

    earlier : Meets p.n p.machines l j (clamp (activity_in l j)) (clamp (machine_in l j))
    earlier = known_meets p.n p.machines l j known

    of_it : activity_in l j ≡ activity_in l i → is_row p.n p.machines l a j ≡ true
    of_it e = ap (is_of a) known ∙ eq-eqb (clamp (activity_in l j)) a (same_number earlier.activity meets.activity e)

    of_another : (activity_in l j ≡ activity_in l i → ⊥) → is_row p.n p.machines l a j ≡ false
    of_another ne = ap (is_of a) known ∙ ne_eqb (clamp (activity_in l j)) a (λ e. ne (earlier.activity ∙ ap pos e ∙ sym meets.activity))

    on_it : machine_in l j ≡ machine_in l i → is_row_on p.n p.machines l m j ≡ true
    on_it e = ap (is_on m) known ∙ eq-eqb (clamp (machine_in l j)) m (same_number earlier.machine meets.machine e)

    on_another : (machine_in l j ≡ machine_in l i → ⊥) → is_row_on p.n p.machines l m j ≡ false
    on_another ne = ap (is_on m) known ∙ ne_eqb (clamp (machine_in l j)) m (λ e. ne (earlier.machine ∙ ap pos e ∙ sym meets.machine))

  -- ---- rule 2

  none_earlier : is_first p l i a ≡ true → (j : ℕ) → j < i → activity_in l j ≡ activity_in l i → ⊥
  none_earlier e j h q =
      ⊎_elim (λ w. opposite (of_it j h q) (w.1 j (omega arith) (omega (arith, meets.whole))))
      (λ w. opposite (of_it j h q) (w.1.4 j (omega arith) (omega (arith, w.1.0, eqb-true (first_row p.n p.machines l a) i e))))
      (first_cases (is_row p.n p.machines l a) (rows_in l) 0)

  first_then : ((j : ℕ) → j < i → activity_in l j ≡ activity_in l i → ⊥) → is_first p l i a ≡ true
  first_then none =
      eq-eqb (first_row p.n p.machines l a) i
      (first_is (is_row p.n p.machines l a) (rows_in l) 0 i (omega arith) (omega (arith, meets.whole)) (ap (is_of a) here ∙ eq-eqb a a refl)
      (λ j x h. of_another j h (none j h)))

  pub no_earlier_row : (is_first p l i a ≡ true) ↔ ((j : ℕ) → j < i → activity_in l j ≡ activity_in l i → ⊥)
  no_earlier_row = (none_earlier, first_then)

  -- ---- the line predecessor

  pub first_on_its_machine : ((j : ℕ) → j < i → machine_in l j ≡ machine_in l i → ⊥) → row_before p.n p.machines l m i ≡ rows_in l
  first_on_its_machine none = last_none (is_row_on p.n p.machines l m) (rows_in l) i (λ j h. on_another j h (none j h))

  pub line_predecessor : (j : ℕ) → j < i → machine_in l j ≡ machine_in l i → ((k : ℕ) → j < k → k < i → machine_in l k ≡ machine_in l i → ⊥)
      → row_before p.n p.machines l m i ≡ j
  line_predecessor j h e none =
      last_is (is_row_on p.n p.machines l m) (rows_in l) i j h (on_it j h e) (λ k x y. on_another k y (none k x y))
