-- A pattern that the reader takes for a weight is no NaN's.
use Prim.Native.Nat.{ℕ, ◌+◌, ◌*◌, ◌/◌, ◌%◌, ◌^◌, ◌<◌}
use mathlib.Core.Path.{◌≡◌, refl}
use mathlib.Core.Bool.{Bool, true, false, not, ◌&&◌, ◌||◌, false≢true}
use native.Mathlib.Omega.{arith}
use borrow.Author.Tests.{ltb-true, eqb-true, ne_eqb}
use lib.Dec.{T, ltb, eqb}
use lib.Ieee.{nan_bits, binary64}

pub no_nan : (low high : ℕ) → low < 2 ^ 32
    → (ltb high 1072693248 || (eqb low 0 && (eqb high 1072693248 || eqb high 2147483648))) ≡ true
    → T (not (nan_bits binary64 (high * 4294967296 + low)))
unfolding nan_bits
no_nan low high h = go (ltb high 1072693248) refl (eqb low 0) refl (eqb high 1072693248) refl (eqb high 2147483648) refl
  where
    exponent : ℕ
    exponent = (high * 4294967296 + low) % 9223372036854775808 / 4503599627370496

    fine : (exponent ≡ 2047 → ⊥) → T (not (eqb exponent 2047 && not (eqb ((high * 4294967296 + low) % 4503599627370496) 0)))
    fine g = rw (ne_eqb _ _ g) tt

    go : (p : Bool) → ltb high 1072693248 ≡ p → (q : Bool) → eqb low 0 ≡ q → (r : Bool) → eqb high 1072693248 ≡ r → (t : Bool) → eqb high 2147483648 ≡ t
        → (p || (q && (r || t))) ≡ true → T (not (eqb exponent 2047 && not (eqb ((high * 4294967296 + low) % 4503599627370496) 0)))
    go true ep q eq r er t et e = fine (omega (arith, ltb-true))
    go false ep true eq true er t et e = fine (omega (arith, eqb-true))
    go false ep true eq false er true et e = fine (omega (arith, eqb-true))
    go false ep true eq false er false et e = absurd (false≢true e)
    go false ep false eq r er t et e = absurd (false≢true e)
