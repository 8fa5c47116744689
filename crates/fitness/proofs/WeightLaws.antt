-- Laws of the numbers that a fitness weighs, and of the weight: a number of at most 2 ^ 53 is a float exactly, and a weight whose two words
-- are in their range lies from 0 to 1.
use Prim.Native.Nat.{ℕ, zero, suc, ◌+◌, ◌*◌, ◌/◌, ◌%◌, ◌^◌, ◌≤◌, ◌<◌}
use mathlib.Core.Path.{◌≡◌, refl}
use mathlib.Core.Bool.{Bool, true, false, ◌&&◌, ◌||◌, false≢true}
use mathlib.Core.List.{List}
use native.Mathlib.Omega.{arith}
use native.Mathlib.Nat.{le_of_lt, lt_of_lt_of_le}
use borrow.Author.Tests.{lt-leb, ne_eqb, ltb-true, eqb-true}
use lib.Dec.{T, le→leb, leb, ltb, eqb, lit<}
use lib.IntN.{pos}
use lib.Ieee.{Float, binary64, in_float, of_bits, of_fields, odd, le}
use lib.Ieee.Exact.{HasValue, odd_sign}
use lib.Ieee.Fits.{and_i}
use lib.Ieee.Order.{le_of_values}
use lib.Pow.{pow_pos, pow_mono, shl_lt}
use Rattle.words.specs.Words.{words, Below}
use Rattle.words.proofs.WordLaws.{words_below, below_at}
use Rattle.plan.specs.Input.{cell, problem_of}
use Rattle.plan.specs.Found.{Weighed}
use Rattle.plan.specs.declared.Layout.{Layout}
use Rattle.fitness.specs.Fitness.{in_unit, zero_f, one_f}

pub in_float_lem : (n : ℕ) → n ≤ 2 ^ 53 → T (in_float binary64 (pos n))
unfolding in_float
in_float_lem n h = le→leb n (2 ^ 53) h

-- ---- a weight's bits

-- A number a / c of at most 1.
value_unit : (x : Float) (a c : ℕ) → 0 < c → HasValue x false a c → a ≤ c → T (in_unit x)
value_unit x a c h v l =
    and_i (le zero_f x) (le x one_f) (le_of_values zero_f x 0 1 a c (lit< tt) h (refl, refl) v (omega arith))
    (le_of_values x one_f a c 1 1 h (lit< tt) v (refl, refl) (omega arith))

-- At most 53 digits, moved up by at most 1021 places, are fewer than 1074.
digits_below : (q k : ℕ) → q < 2 ^ 53 → k ≤ 1021 → q * 2 ^ k ≤ 2 ^ 1074
digits_below q k h l =
    let a : q * 2 ^ k < 2 ^ (53 + k) = shl_lt 53 k h in
    let b : 2 ^ (53 + k) ≤ 2 ^ 1074 = pow_mono {j = 1074} (omega arith) in
    le_of_lt (lt_of_lt_of_le a b)

-- An exponent's field below that of 1.
fields_unit : (x t : ℕ) → x < 1023 → t < 2 ^ 52 → T (in_unit (of_fields binary64 false x t))
unfolding of_fields
fields_unit zero t h l =
    value_unit (odd 53 false t 0 1074) (t * 2 ^ 0) (2 ^ 1074) (pow_pos 1074) (odd_sign 53 false t 0 1074) (digits_below t 0 (omega arith) (omega arith))
fields_unit (suc x) t h l =
    rw (ne_eqb (suc x) 2047 (omega arith))
    (value_unit (odd 53 false (2 ^ 52 + t) x 1074) ((2 ^ 52 + t) * 2 ^ x) (2 ^ 1074) (pow_pos 1074) (odd_sign 53 false (2 ^ 52 + t) x 1074)
    (digits_below (2 ^ 52 + t) x (omega arith) (omega arith)))

fields : (b : ℕ)
    → of_bits binary64 b ≡ of_fields binary64 (leb 9223372036854775808 b) (b % 9223372036854775808 / 4503599627370496) (b % 4503599627370496)
unfolding of_bits
fields b = refl

-- Bits below those of 1.
bits_unit : (b : ℕ) → b < 1023 * 2 ^ 52 → T (in_unit (of_bits binary64 b))
bits_unit b h =
    let sign : leb 9223372036854775808 b ≡ false = lt-leb 9223372036854775808 b (omega arith) in
    rw (fields b, sign) (fields_unit (b % 9223372036854775808 / 4503599627370496) (b % 4503599627370496) (omega arith) (omega arith))

one_unit : T (in_unit (of_bits binary64 (1072693248 * 2 ^ 32 + 0)))
unfolding of_bits le
one_unit = tt

minus_zero_unit : T (in_unit (of_bits binary64 (2147483648 * 2 ^ 32 + 0)))
unfolding of_bits le
minus_zero_unit = tt

-- The reader's rule of a weight's high word, after its low one.
pub words_unit : (low high : ℕ) → low < 2 ^ 32 → (ltb high 1072693248 || (eqb low 0 && (eqb high 1072693248 || eqb high 2147483648))) ≡ true
    → T (in_unit (of_bits binary64 (high * 2 ^ 32 + low)))
words_unit low high h = by_test (ltb high 1072693248) refl (eqb low 0) refl (eqb high 1072693248) refl (eqb high 2147483648) refl
  where
    closed : (lo hi : ℕ) → low ≡ lo → high ≡ hi → T (in_unit (of_bits binary64 (hi * 2 ^ 32 + lo))) → T (in_unit (of_bits binary64 (high * 2 ^ 32 + low)))
    closed lo hi e f u = rw (e, f) u

    by_test : (p : Bool) → ltb high 1072693248 ≡ p → (q : Bool) → eqb low 0 ≡ q → (r : Bool) → eqb high 1072693248 ≡ r → (t : Bool) → eqb high 2147483648 ≡ t
        → (p || (q && (r || t))) ≡ true → T (in_unit (of_bits binary64 (high * 2 ^ 32 + low)))
    by_test true ep q eq r er t et e = bits_unit (high * 2 ^ 32 + low) (omega (arith, ltb-true))
    by_test false ep true eq true er t et e = closed 0 1072693248 (eqb-true _ _ eq) (eqb-true _ _ er) one_unit
    by_test false ep true eq false er true et e = closed 0 2147483648 (eqb-true _ _ eq) (eqb-true _ _ et) minus_zero_unit
    by_test false ep true eq false er false et e = absurd (false≢true e)
    by_test false ep false eq r er t et e = absurd (false≢true e)

-- The bytes of a plan have such words.
pub weight_unit : (s : List ℕ) (z : Layout) → Below 256 s → Weighed (words s) z → T (in_unit (problem_of (words s) z).weight)
weight_unit s z b w =
    words_unit (cell (words s) z.at.search 3 0 0) (cell (words s) z.at.search 3 0 1)
    (below_at (2 ^ 32) (words s) (z.at.search + 1 + 3 * 0 + 0) (omega arith) (words_below s b)) w
