-- Laws of tardiness: a difference clamped at 0, by the word of a deadline.
use Rattle.std.specs.Prelude.{Some}
use Prim.Native.Nat.{ℕ, zero, suc, ◌+◌, ◌-◌, ◌^◌, ◌≤◌, ◌<◌}
use mathlib.Core.Path.{◌≡◌, refl, ap}
use mathlib.Core.Bool.{Bool, true, false}
use native.Mathlib.Omega.{arith}
use native.Mathlib.Nat.{not-suc-le-zero}
use borrow.Author.Tests.{lt-ltb, le-ltb, ltb-true, ltb-false}
use lib.Dec.{ltb}
use lib.IntN.{pos, negsuc, ◌-ℤ◌}
use Rattle.words.specs.Signed.{signed_word, clamp}
use Rattle.words.proofs.SignedLaws.{signed_low, signed_high}
use Rattle.bounds.specs.Bounds.{tardiness_of}

difference_below : (a b : ℕ) → a < b → pos a -ℤ pos b ≡ negsuc (b - suc a)
difference_below a zero h = absurd (not-suc-le-zero h)
difference_below a (suc b) h = rw (lt-ltb a (suc b) h)

difference_above : (a b : ℕ) → b ≤ a → pos a -ℤ pos b ≡ pos (a - b)
difference_above a zero h = ap pos (omega arith)
difference_above a (suc b) h = rw (le-ltb a (suc b) h)

clamped_difference : (a b : ℕ) → clamp (pos a -ℤ pos b) ≡ a - b
clamped_difference a b = go (ltb a b) refl
  where
    go : (t : Bool) → ltb a b ≡ t → clamp (pos a -ℤ pos b) ≡ a - b
    go true e = let l = ltb-true a b e in rw (difference_below a b l) (omega arith)
    go false e = rw (difference_above a b (ltb-false a b e))

-- a deadline of 0 or more
pub late_low : (completion w : ℕ) → w < 2 ^ 31 → tardiness_of completion (Some (signed_word w)) ≡ completion - w
late_low completion w h = rw (signed_low w h) (clamped_difference completion w)

-- a deadline below 0
pub late_high : (completion w : ℕ) → 2 ^ 31 ≤ w → w < 2 ^ 32 → tardiness_of completion (Some (signed_word w)) ≡ completion + (2 ^ 32 - w)
late_high completion w h g = rw (signed_high w h) (omega arith)
