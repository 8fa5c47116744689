-- Laws of signed words: the values at 0 and at both ends, the word given back, and the clamp by the word alone.
use Prim.Native.Nat.{ℕ, ◌-◌, ◌<◌, ◌≤◌, ◌^◌}
use mathlib.Core.Path.{◌≡◌, refl, ◌∙◌, ap}
use mathlib.Core.Bool.{Bool, true, false, cond}
use native.Mathlib.Omega.{arith}
use borrow.Author.Tests.{lt-ltb, le-ltb, ltb-true, ltb-false}
use lib.Dec.{T, ltb}
use lib.IntN.{ℤ, pos, negsuc}
use lib.Signed.{mag, lt_z, non_neg}
use mir.Syntax.{w32}
use mir.Val.{SFits}
use Rattle.words.specs.Signed.{signed_word, unsigned_word, clamp}

pub word_zero : signed_word 0 ≡ pos 0
word_zero = refl

pub word_greatest : signed_word (2 ^ 31 - 1) ≡ pos 2147483647
word_greatest = refl

-- -2^31
pub word_least : signed_word (2 ^ 31) ≡ negsuc 2147483647
word_least = refl

-- -1
pub word_minus_one : signed_word (2 ^ 32 - 1) ≡ negsuc 0
word_minus_one = refl

-- ---- a word by its half

pub signed_low : (w : ℕ) → w < 2 ^ 31 → signed_word w ≡ pos w
signed_low w h = rw (lt-ltb w (2 ^ 31) h)

pub signed_high : (w : ℕ) → 2 ^ 31 ≤ w → signed_word w ≡ negsuc (2 ^ 32 - 1 - w)
signed_high w h = rw (le-ltb w (2 ^ 31) h)

pub clamp_low : (w : ℕ) → w < 2 ^ 31 → clamp (signed_word w) ≡ w
clamp_low w h = rw (signed_low w h)

pub clamp_high : (w : ℕ) → 2 ^ 31 ≤ w → clamp (signed_word w) ≡ 0
clamp_high w h = rw (signed_high w h)

pub clamp_below : (w : ℕ) → clamp (signed_word w) < 2 ^ 31
clamp_below w = by_half (ltb w (2 ^ 31)) refl
  where
    by_half : (b : Bool) → ltb w (2 ^ 31) ≡ b → clamp (cond b (pos w) (negsuc (2 ^ 32 - 1 - w))) < 2 ^ 31
    by_half true e = ltb-true w (2 ^ 31) e
    by_half false e = omega arith

pub signed_fits : (w : ℕ) → w < 2 ^ 32 → SFits w32 (signed_word w)
signed_fits w h = by_half (ltb w (2 ^ 31)) refl
  where
    by_half : (b : Bool) → ltb w (2 ^ 31) ≡ b → SFits w32 (cond b (pos w) (negsuc (2 ^ 32 - 1 - w)))
    by_half true e = record { sfits = ltb-true w (2 ^ 31) e }
    by_half false e = let l = ltb-false w (2 ^ 31) e in record { sfits = omega arith }

-- ---- words and signed numbers give each other back

pub unsigned_signed : (w : ℕ) → w < 2 ^ 32 → unsigned_word (signed_word w) ≡ w
unsigned_signed w h = by_half (ltb w (2 ^ 31)) refl
  where
    by_half : (b : Bool) → ltb w (2 ^ 31) ≡ b → unsigned_word (cond b (pos w) (negsuc (2 ^ 32 - 1 - w))) ≡ w
    by_half true e = refl
    by_half false e = omega arith

pub signed_unsigned : (z : ℤ) → mag z < 2 ^ 31 → signed_word (unsigned_word z) ≡ z
signed_unsigned (pos n) h = signed_low n h
signed_unsigned (negsuc n) h = signed_high (2 ^ 32 - 1 - n) (omega arith) ∙ ap negsuc (omega arith)

-- ---- a number that is not below 0

pub not_negative : (z : ℤ) → lt_z z (pos 0) ≡ false → T (non_neg z)
not_negative (pos n) e = tt
not_negative (negsuc n) e = let o : ◌≡◌ {A = ℕ} 0 1 = cc in absurd (omega arith)
