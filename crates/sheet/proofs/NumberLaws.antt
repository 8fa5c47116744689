-- Laws of signed numbers: what a test or a cast by the machine says of the number itself, and the rules about a row's numbers by cases of sign.
use Prim.Native.Nat.{ℕ, zero, suc, ◌+◌, ◌-◌, ◌≤◌, ◌<◌}
use mathlib.Core.Path.{◌≡◌, refl, sym, ap, ◌∙◌}
use mathlib.Core.Bool.{Bool, true, false, ◌&&◌}
use native.Mathlib.Omega.{arith}
use native.Mathlib.Nat.{not-suc-le-zero}
use borrow.Author.Tests.{lt-ltb, le-ltb, ltb-true, ltb-false, leb-true, le-leb, lt-leb, eqb-true, eqb-false, eq-eqb}
use lib.Dec.{T, eqb, ltb, leb}
use lib.IntN.{ℤ, pos, negsuc, nat_abs, ◌-ℤ◌}
use lib.Signed.{lt_z, le_z, non_neg}
use mir.Syntax.{w64}
use mir.Val.{Fits, SFits, to_z, of_z}
use mir.Facts.{to_z-of_z, Fits-nat_abs}
use Rattle.words.specs.Signed.{clamp}
use Rattle.sheet.specs.Rows.{is_below}
use Rattle.sheet.specs.Sheet.{same_z}

-- ---- what the machine tests and casts

pub seen : (f : ℤ → ℤ → Bool) {x y : ℤ} {t : Bool} → SFits w64 x → SFits w64 y → f (to_z w64 (of_z w64 x)) (to_z w64 (of_z w64 y)) ≡ t → f x y ≡ t
seen f p q e = rw (to_z-of_z p, to_z-of_z q) at e

pub seen_negative : {x : ℤ} {t : Bool} → SFits w64 x → lt_z (to_z w64 (of_z w64 x)) (pos 0) ≡ t → lt_z x (pos 0) ≡ t
seen_negative p e = rw (to_z-of_z p) at e

pub cast_number : {x : ℤ} → SFits w64 x → T (non_neg x) → T (non_neg (to_z w64 (of_z w64 x))) × Fits w64 (nat_abs (to_z w64 (of_z w64 x)))
cast_number f t = rw (to_z-of_z f) (t, Fits-nat_abs {w = w64} tt f)

pub not_negative : (x : ℤ) → lt_z x (pos 0) ≡ false → T (non_neg x)
not_negative (pos n) e = tt
not_negative (negsuc n) e = let o : ◌≡◌ {A = ℕ} 0 1 = cc in absurd (omega arith)

pub size_clamped : (x : ℤ) → T (non_neg x) → nat_abs x ≡ clamp x
size_clamped (pos n) t = refl
size_clamped (negsuc n) t = absurd t

-- ---- rule 1

pub none_below : (n : ℕ) (x : ℤ) → lt_z x (pos 0) ≡ true → false ≡ is_below n x
none_below n (pos x) e = let h : x < 0 = ltb-true x 0 e in absurd (omega arith)
none_below n (negsuc x) e = refl

pub size_below : (n : ℕ) (x : ℤ) → T (non_neg x) → ltb (nat_abs x) n ≡ is_below n x
size_below n (pos x) t = refl
size_below n (negsuc x) t = absurd t

pub below_positive : (n : ℕ) (x : ℤ) → is_below n x ≡ true → T (non_neg x)
below_positive n (pos x) e = tt
below_positive n (negsuc x) e = let o : ◌≡◌ {A = ℕ} 0 1 = cc in absurd (omega arith)

-- ---- rule 6

pub none_waits : (r : ℕ) (x : ℤ) → lt_z x (pos 0) ≡ true → false ≡ le_z (pos r) x
none_waits r (pos x) e = let h : x < 0 = ltb-true x 0 e in absurd (omega arith)
none_waits r (negsuc x) e = refl

pub size_waits : (r : ℕ) (x : ℤ) → T (non_neg x) → leb r (nat_abs x) ≡ le_z (pos r) x
size_waits r (pos x) t = refl
size_waits r (negsuc x) t = absurd t

-- ---- rule 5

minus_below : (a b : ℕ) → a < b → pos a -ℤ pos b ≡ negsuc (b - suc a)
minus_below a zero h = absurd (not-suc-le-zero h)
minus_below a (suc b) h = rw (lt-ltb a (suc b) h)

pub minus_above : (a b : ℕ) → b ≤ a → pos a -ℤ pos b ≡ pos (a - b)
minus_above a zero h = ap pos (omega arith)
minus_above a (suc b) h = rw (le-ltb a (suc b) h)

both : (d k : ℕ) → leb d k && leb k d ≡ eqb d k
both d k = go (eqb d k) refl
  where
    further : (t : Bool) → leb d k ≡ t → (d ≡ k → ⊥) → t && leb k d ≡ false
    further true l ne = let h = leb-true d k l in lt-leb k d (omega arith)
    further false l ne = refl

    go : (t : Bool) → eqb d k ≡ t → leb d k && leb k d ≡ t
    go true e = let h = eqb-true d k e in rw (le-leb d k (omega arith), le-leb k d (omega arith))
    go false e = further (leb d k) refl (eqb-false d k e)

pub late_start : (s : ℤ) → le_z (pos 0) s ≡ true → T (non_neg s)
late_start (pos y) e = tt
late_start (negsuc y) e = let o : ◌≡◌ {A = ℕ} 0 1 = cc in absurd (omega arith)

pub none_lasts : (span : ℕ) (e s : ℤ) → T (non_neg s) → lt_z e s ≡ true → false ≡ same_z (e -ℤ s) (pos span)
none_lasts span (pos x) (pos y) t l = let h = ltb-true x y l in rw (minus_below x y h)
none_lasts span (negsuc x) (pos zero) t l = rw (lt-ltb 0 (suc x) (omega arith))
none_lasts span (negsuc x) (pos (suc y)) t l = refl
none_lasts span e (negsuc y) t l = absurd t

pub end_positive : (e s : ℤ) → T (non_neg s) → lt_z e s ≡ false → T (non_neg e)
end_positive (pos x) s t l = tt
end_positive (negsuc x) (pos y) t l = let o : ◌≡◌ {A = ℕ} 0 1 = cc in absurd (omega arith)
end_positive (negsuc x) (negsuc y) t l = absurd t

pub end_after : (e s : ℤ) → T (non_neg s) → lt_z e s ≡ false → nat_abs s ≤ nat_abs e
end_after (pos x) (pos y) t l = ltb-false x y l
end_after (negsuc x) (pos y) t l = let o : ◌≡◌ {A = ℕ} 0 1 = cc in absurd (omega arith)
end_after e (negsuc y) t l = absurd t

pub size_lasts : (span : ℕ) (e s : ℤ) → T (non_neg s) → lt_z e s ≡ false → eqb (nat_abs e - nat_abs s) span ≡ same_z (e -ℤ s) (pos span)
size_lasts span (pos x) (pos y) t l = let h = ltb-false x y l in rw (minus_above x y h) (sym (both (x - y) span))
size_lasts span (negsuc x) (pos y) t l = let o : ◌≡◌ {A = ℕ} 0 1 = cc in absurd (omega arith)
size_lasts span e (negsuc y) t l = absurd t

-- An end after the start by the span: both are natural numbers, and the end is the start and the span.
from_size : (span : ℕ) (e s : ℤ) → T (non_neg s) → lt_z e s ≡ false → eqb (nat_abs e - nat_abs s) span ≡ true
    → (s ≡ pos (clamp s)) × (e ≡ pos (clamp e)) × (clamp e ≡ clamp s + span)
from_size span (pos x) (pos y) t l q = let h = ltb-false x y l in let w = eqb-true (x - y) span q in (refl, refl, omega arith)
from_size span (negsuc x) (pos y) t l q = let o : ◌≡◌ {A = ℕ} 0 1 = cc in absurd (omega arith)
from_size span e (negsuc y) t l q = absurd t

pub lasts_means : (span : ℕ) (e s : ℤ) → le_z (pos 0) s ≡ true → same_z (e -ℤ s) (pos span) ≡ true
    → (s ≡ pos (clamp s)) × (e ≡ pos (clamp e)) × (clamp e ≡ clamp s + span)
lasts_means span e s h k = go (lt_z e s) refl
  where
    go : (t : Bool) → lt_z e s ≡ t → (s ≡ pos (clamp s)) × (e ≡ pos (clamp e)) × (clamp e ≡ clamp s + span)
    go true l = let w = none_lasts span e s (late_start s h) l in let o : ◌≡◌ {A = ℕ} 0 1 = cc in absurd (omega arith)
    go false l = from_size span e s (late_start s h) l (size_lasts span e s (late_start s h) l ∙ k)

pub lasts_so : (span x y : ℕ) → x ≡ y + span → same_z (pos x -ℤ pos y) (pos span) ≡ true
lasts_so span x y e = sym (size_lasts span (pos x) (pos y) tt (le-ltb x y (omega arith))) ∙ eq-eqb (x - y) span (omega arith)
