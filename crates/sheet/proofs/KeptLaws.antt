-- A row breaks no rule exactly where each test of rules 2 to 9 passes; a sheet is accepted exactly where no row breaks a rule and each activity has one.
use Rattle.std.specs.Prelude.{None, Option, Some}
use Prim.Native.Nat.{ℕ, zero, suc, ◌+◌, ◌≤◌, ◌<◌}
use mathlib.Core.Path.{◌≡◌, refl, sym, ap, ◌∙◌, subst}
use mathlib.Core.Bool.{Bool, true, false, ◌&&◌}
use mathlib.Core.List.{List, [], ◌∷◌}
use native.Mathlib.Omega.{arith}
use lib.Dec.{ltb}
use lib.IntN.{ℤ}
use Rattle.words.specs.Signed.{clamp}
use Rattle.graph.proofs.CountingLaws.{either}
use Rattle.plan.specs.Problem.{Problem}
use Rattle.sheet.specs.Rows.{rows_in, is_whole, is_below, activity_in, machine_in, row_of, subject_if, subject_of, row_before}
use Rattle.sheet.specs.Sheet.{is_first, starts_from_zero, ends_in_time, lasts, span_after, waits_until, ends_by, after_step, after_named, first_broken, or_else, own_rule, waiting_rule, later_rule, rule_of, broken_rule, rowless, missing_if, bad_or, check_from, check_sheet}
use Rattle.sheet.specs.declared.Rule.{Rule}
use Rattle.sheet.specs.declared.Rule.TheVariants.{Once, Start, End, Span, Release, Line, Step, Named}
use Rattle.sheet.specs.declared.Verdict.{Verdict}
use Rattle.sheet.specs.declared.Verdict.TheVariants.{Accepted}

pub record Kept (p : Problem) (l : List ℤ) (i a m : ℕ) : Type 0 where
  pub first : is_first p l i a ≡ true
  pub from_zero : starts_from_zero l i ≡ true
  pub in_time : ends_in_time l i ≡ true
  pub lasting : lasts l i (span_after p l a m (row_before p.n p.machines l m i)) ≡ true
  pub released : waits_until l i (p.release a) ≡ true
  pub lined : ends_by l i (row_before p.n p.machines l m i) ≡ true
  pub stepped : after_step p l i a ≡ true
  pub named : after_named p l i a ≡ true

never : {A : Type 0} {rule : Rule} → Some rule ≡ None → A
never e = let o : ◌≡◌ {A = ℕ} 0 1 = cc in absurd (omega arith)

none_broken : (k l m n : Rule) (w x y z : Bool) → first_broken ((k, w) ∷ (l, x) ∷ (m, y) ∷ (n, z) ∷ []) ≡ None
    → (w ≡ true) × (x ≡ true) × (y ≡ true) × (z ≡ true)
none_broken k l m n false x y z e = never e
none_broken k l m n true false y z e = never e
none_broken k l m n true true false z e = never e
none_broken k l m n true true true false e = never e
none_broken k l m n true true true true e = (refl, refl, refl, refl)

or_none : (x y : Option Rule) → or_else x y ≡ None → (x ≡ None) × (y ≡ None)
or_none None y e = (refl, e)
or_none (Some rule) y e = never e

module _ (p : Problem) (l : List ℤ) where
  subject_known : (i : ℕ) (t : Bool) (x y : ℤ) → rule_of p l i (subject_if t x y) ≡ None → subject_if t x y ≡ row_of (clamp x) (clamp y)
  subject_known i true x y e = refl
  subject_known i false x y e = never e

  module _ (i : ℕ) where
    -- rule 1
    pub good_known : broken_rule p l i ≡ None → subject_of p.n p.machines l i ≡ row_of (clamp (activity_in l i)) (clamp (machine_in l i))
    good_known e =
        let known = is_whole l i && (is_below p.n (activity_in l i) && is_below p.machines (machine_in l i)) in
        subject_known i known (activity_in l i) (machine_in l i) e

    module _ {a m : ℕ} (s : subject_of p.n p.machines l i ≡ row_of a m) where
      pub good_kept : broken_rule p l i ≡ None → Kept p l i a m
      good_kept e =
          let before = row_before p.n p.machines l m i in
          let q : later_rule p l i a m before ≡ None = sym (ap (rule_of p l i) s) ∙ e in
          let o = or_none (own_rule p l i a m before) (waiting_rule p l i a before) q in
          let w = none_broken Once Start End Span (is_first p l i a) (starts_from_zero l i) (ends_in_time l i) (lasts l i (span_after p l a m before)) o.0 in
          let v = none_broken Release Line Step Named (waits_until l i (p.release a)) (ends_by l i before) (after_step p l i a) (after_named p l i a) o.1 in
          record { first = w.0; from_zero = w.1; in_time = w.2; lasting = w.3; released = v.0; lined = v.1; stepped = v.2; named = v.3 }

      pub kept_good : Kept p l i a m → broken_rule p l i ≡ None
      kept_good k =
          ap (rule_of p l i) s ∙ rw (k.first, k.from_zero, k.in_time, k.lasting, k.released, k.lined, k.stepped, k.named)

  -- ---- the whole sheet

  bad_no : (r : Option Rule) (i : ℕ) (v : Verdict) → bad_or r i v ≡ Accepted → (r ≡ None) × (v ≡ Accepted)
  bad_no None i v e = (refl, e)
  bad_no (Some r) i v e = let o : ◌≡◌ {A = ℕ} 0 1 = cc in absurd (omega arith)

  missing_no : (t : Bool) (a : ℕ) → missing_if t a ≡ Accepted → t ≡ false
  missing_no true a e = let o : ◌≡◌ {A = ℕ} 0 1 = cc in absurd (omega arith)
  missing_no false a e = refl

  all_good : (k i : ℕ) → check_from p l k i ≡ Accepted
      → ((j : ℕ) → i ≤ j → j < i + k → broken_rule p l j ≡ None) × (ltb (rowless p l) p.n ≡ false)
  unfolding check_from
  all_good zero i e = ((λ j a b. absurd (omega arith)), missing_no (ltb (rowless p l) p.n) (rowless p l) e)
  all_good (suc k) i e =
      let w = bad_no (broken_rule p l i) i (check_from p l k (suc i)) e in
      let r = all_good k (suc i) w.1 in
      ((λ j a b. either i j (λ q. subst (λ (x : ℕ). broken_rule p l x ≡ None) q w.0) (λ ne. r.0 j (omega arith) (omega arith))), r.1)

  good_all : (k i : ℕ) → ((j : ℕ) → i ≤ j → j < i + k → broken_rule p l j ≡ None) → ltb (rowless p l) p.n ≡ false → check_from p l k i ≡ Accepted
  unfolding check_from
  good_all zero i f e = ap (λ (t : Bool). missing_if t (rowless p l)) e
  good_all (suc k) i f e =
      ap (λ (r : Option Rule). bad_or r i (check_from p l k (suc i))) (f i (omega arith) (omega arith)) ∙ good_all k (suc i) (λ j a b. f j (omega arith) (omega arith)) e

  pub accepted_rows : check_sheet p l ≡ Accepted → (i : ℕ) → i < rows_in l → broken_rule p l i ≡ None
  accepted_rows e i h = (all_good (rows_in l) 0 e).0 i (omega arith) (omega arith)

  pub accepted_all : check_sheet p l ≡ Accepted → ltb (rowless p l) p.n ≡ false
  accepted_all e = (all_good (rows_in l) 0 e).1

  pub rows_accepted : ((i : ℕ) → i < rows_in l → broken_rule p l i ≡ None) → ltb (rowless p l) p.n ≡ false → check_sheet p l ≡ Accepted
  rows_accepted f e = good_all (rows_in l) 0 (λ j a b. f j (omega arith)) e
