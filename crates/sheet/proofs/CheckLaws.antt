-- The loop over the rows: the last row on each machine so far is known, and the answer to the rows that are left is the answer to all.
use Rattle.std.specs.Prelude.{None, Option, Ok, Err}
use Prim.Native.Nat.{ℕ, zero, suc, ◌+◌, ◌-◌, ◌≤◌, ◌<◌}
use mathlib.Core.Path.{◌≡◌, refl, sym, ap, ◌∙◌, subst}
use mathlib.Core.Bool.{Bool, true, false, cond}
use mathlib.Core.List.{List}
use native.Mathlib.Omega.{arith}
use native.Mathlib.Numerals.{add-one}
use borrow.Author.Tests.{eq-eqb, ne_eqb}
use lib.Dec.{eqb, ltb}
use lib.ListN.{length, get_or, set, replicate, length-set, length-replicate, get_or-replicate}
use lib.Seq.{get_or-set_same, get_or-set_other}
use lib.IntN.{ℤ}
use Rattle.graph.proofs.CountingLaws.{either}
use Rattle.plan.specs.Problem.{Problem}
use Rattle.sheet.specs.Rows.{rows_in, first, last, row_of, subject_of, is_row_on, first_row, row_before, FirstRows}
use Rattle.sheet.specs.Sheet.{ok_unless, later_rule, rule_of, broken_rule, rowless, missing_if, bad_or, check_from, check_sheet}
use Rattle.sheet.specs.declared.Subject.{Subject}
use Rattle.sheet.specs.declared.Rule.{Rule}
use Rattle.sheet.specs.declared.Rule.TheVariants.{Known}
use Rattle.sheet.specs.declared.Verdict.TheVariants.{Bad}
use Rattle.sheet.proofs.SearchLaws.{first-same}
use Rattle.sheet.proofs.RuleLaws.{broken_is, none_is}

-- ---- the last

most : (t : Bool) (none k x : ℕ) → k < none → x ≤ none → cond t k x ≤ none
most true none k x h l = omega arith
most false none k x h l = l

pub last_most : (test : ℕ → Bool) (none k : ℕ) → k ≤ none → last test none k ≤ none
unfolding last
last_most test none zero h = omega arith
last_most test none (suc k) h = most (test k) none k (last test none k) (omega arith) (last_most test none k (omega arith))

-- ---- the loop

pub record Checking (p : Problem) (l : List ℤ) (last_on : List ℕ) (i : ℕ) : Type 0 where
  pub within : i ≤ rows_in l
  pub sized : length last_on ≡ 16
  pub at : (k : ℕ) → k < 16 → get_or last_on k 0 ≡ row_before p.n p.machines l k i
  pub left : check_from p l (rows_in l - i) i ≡ check_sheet p l

module _ {p : Problem} {l : List ℤ} where
  pub checks : (count : ℕ) → count ≡ rows_in l → Checking p l (replicate 16 count) 0
  unfolding last
  checks count e =
      let z : rows_in l - 0 ≡ rows_in l = omega arith in
      record {
        within = omega arith;
        sized = length-replicate 16 count;
        at = λ k h. get_or-replicate 16 k count 0 h ∙ e;
        left = ap (λ (x : ℕ). check_from p l x 0) z;
      }

  module _ {last_on : List ℕ} {i : ℕ} (c : Checking p l last_on i) where
    pub before_within : (k : ℕ) → k < 16 → get_or last_on k 0 ≤ rows_in l
    before_within k h = omega (arith, c.at k h, last_most (is_row_on p.n p.machines l k) (rows_in l) i c.within)

    -- every row is checked: what is left is rule 10
    pub checked : {firsts : List ℕ} {count : ℕ} → rows_in l ≤ i → FirstRows p.n p.machines l firsts → p.n ≤ 128 → count ≡ rows_in l
        → missing_if (ltb (first (λ a. eqb (get_or firsts a 0) count) p.n 0) p.n) (first (λ a. eqb (get_or firsts a 0) count) p.n 0) ≡ check_sheet p l
    unfolding check_from
    checked {firsts} {count} h f few e =
        let z : rows_in l - i ≡ 0 = omega (arith, c.within) in
        let q : first (λ a. eqb (get_or firsts a 0) count) p.n 0 ≡ rowless p l =
        first-same (λ a. eqb (get_or firsts a 0) count) (λ a. eqb (first_row p.n p.machines l a) (rows_in l)) p.n 0
        (λ j k. rw (f.at j (omega arith), e)) in
        ap (λ (x : ℕ). missing_if (ltb x p.n) x) q ∙ sym (ap (λ (x : ℕ). check_from p l x i) z) ∙ c.left

    module _ (h : i < rows_in l) where
      step : bad_or (broken_rule p l i) i (check_from p l (rows_in l - (i + 1)) (i + 1)) ≡ check_sheet p l
      unfolding check_from
      step =
          let z : rows_in l - i ≡ suc (rows_in l - (i + 1)) = omega arith in
          rw (add-one i, ← c.left, z, add-one i)

      pub unknown : subject_of p.n p.machines l i ≡ None → Bad Known i ≡ check_sheet p l
      unknown e = ap (λ (x : Option Subject). bad_or (rule_of p l i x) i (check_from p l (rows_in l - (i + 1)) (i + 1))) (sym e) ∙ step

      module _ {a m : ℕ} (e : subject_of p.n p.machines l i ≡ row_of a m) (k : m < 16) where
        rule_is : {rule : Option Rule} → later_rule p l i a m (get_or last_on m 0) ≡ rule → rule ≡ broken_rule p l i
        rule_is r = sym r ∙ ap (later_rule p l i a m) (c.at m k) ∙ sym (ap (rule_of p l i) e)

        pub bad : {rule : Rule} → Err rule ≡ ok_unless (later_rule p l i a m (get_or last_on m 0)) → Bad rule i ≡ check_sheet p l
        bad r =
            ap (λ (x : Option Rule). bad_or x i (check_from p l (rows_in l - (i + 1)) (i + 1)))
            (rule_is (broken_is (later_rule p l i a m (get_or last_on m 0)) r))
            ∙ step

        on_it : row_before p.n p.machines l m (i + 1) ≡ i
        unfolding last
        on_it = rw (add-one i, e, eq-eqb m m refl)

        on_another : (x : ℕ) → (m ≡ x → ⊥) → row_before p.n p.machines l x (i + 1) ≡ row_before p.n p.machines l x i
        unfolding last
        on_another x ne = rw (add-one i, e, ne_eqb m x ne)

        pub good : {u : Unit {0}} → Ok u ≡ ok_unless (later_rule p l i a m (get_or last_on m 0)) → Checking p l (set last_on m i) (i + 1)
        good r =
            record {
              within = omega arith;
              sized = length-set last_on m i ∙ c.sized;
              at = λ x q. either m x (λ w. subst (λ (y : ℕ). get_or (set last_on m i) y 0 ≡ row_before p.n p.machines l y (i + 1)) w
                  (get_or-set_same last_on m i 0 (omega (arith, c.sized)) ∙ sym on_it))
                  (λ ne. get_or-set_other last_on m x i 0 (λ w. ne (sym w)) ∙ c.at x q ∙ sym (on_another x ne));
              left = ap (λ (x : Option Rule). bad_or x i (check_from p l (rows_in l - (i + 1)) (i + 1)))
                  (rule_is (none_is (later_rule p l i a m (get_or last_on m 0)) r))
                  ∙ step;
            }
