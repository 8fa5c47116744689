-- Laws of digits: they spell the number they were made of, they are digits and no other bytes, a decimal number starts with no zero, and how
-- many there are.
use Prim.Native.Nat.{ℕ, zero, suc, ◌+◌, ◌-◌, ◌*◌, ◌/◌, ◌%◌, ◌<◌, ◌≤◌, ◌^◌}
use mathlib.Core.Path.{◌≡◌, refl, ◌∙◌, ap}
use mathlib.Core.Bool.{Bool, true, false, cond}
use mathlib.Core.Logic.{◌≢◌}
use mathlib.Core.List.{List, [], ◌∷◌, ◌++◌}
use native.Mathlib.Nat.{pow-zero, pow-suc, div-add-mod, mod-lt, div-lt_iff_lt-mul}
use native.Mathlib.Omega.{arith}
use borrow.Author.Tests.{lt-ltb, le-ltb, ltb-true, ltb-false}
use lib.Dec.{ltb}
use lib.ListN.{length, get_or, set, replicate, length-append, get_or-append}
use lib.Seq.{sets}
use Rattle.words.specs.Digits.{digit, last_digits, places_within, places, decimal, hex16, worth, spelled, IsDigit}
use Rattle.words.proofs.TextLaws.{sets_last}

-- ---- one digit

digit-worth : (d : ℕ) → d < 16 → worth (digit d) ≡ d
digit-worth d h = by_kind (ltb d 10) refl
  where
    by_kind : (b : Bool) → ltb d 10 ≡ b → worth (cond b (48 + d) (87 + d)) ≡ d
    by_kind true e = let l = ltb-true d 10 e in rw (lt-ltb (48 + d) 58 (omega arith)) (omega arith)
    by_kind false e = let l = ltb-false d 10 e in rw (le-ltb (87 + d) 58 (omega arith)) (omega arith)

-- ---- the last k digits in a base

pub length_last : (b k n : ℕ) → length (last_digits b k n) ≡ k
unfolding last_digits
length_last b zero n = refl
length_last b (suc k) n = length-append (last_digits b k (n / b)) _ ∙ omega (arith, length_last b k (n / b))

spelled-last : (b n : ℕ) (ds : List ℕ) (d : ℕ) → spelled b n (ds ++ d ∷ []) ≡ b * spelled b n ds + worth d
unfolding spelled
spelled-last b n [] d = refl
spelled-last b n (a ∷ ds) d = spelled-last b (b * n + worth a) ds d

shorter : (b k n : ℕ) → 0 < b → n < b ^ suc k → n / b < b ^ k
shorter b k n p h = (div-lt_iff_lt-mul p).1 (rw (pow-suc b k) at h)

-- Digits put into a line from the last to the first: one fewer is left to put at each place before the last, and none at the first.
pub digit_put : (b : ℕ) (line : List ℕ) (at i n : ℕ) → at < i
    → sets (set line (i - 1) (digit (n % b))) at (last_digits b (i - 1 - at) (n / b)) ≡ sets line at (last_digits b (i - at) n)
unfolding last_digits
digit_put b line at i n h =
    let more : i - at ≡ suc (i - 1 - at) = omega arith in
    let place : at + length (last_digits b (i - 1 - at) (n / b)) ≡ i - 1 = omega (arith, length_last b (i - 1 - at) (n / b)) in
    rw (more, sets_last, place)

pub digits_put : (b : ℕ) (line : List ℕ) (at i n : ℕ) → i ≤ at → sets line at (last_digits b (i - at) n) ≡ line
unfolding last_digits
digits_put b line at i n h = let none : i - at ≡ 0 = omega arith in rw none

-- Digits in a base of at most sixteen spell the number, where there are enough of them.
pub last_spell : (b k n : ℕ) → 0 < b → b ≤ 16 → n < b ^ k → spelled b 0 (last_digits b k n) ≡ n
unfolding last_digits spelled
last_spell b zero n p s h = omega (arith, pow-zero b)
last_spell b (suc k) n p s h =
    let m : n % b < b = mod-lt n p in
    spelled-last b 0 (last_digits b k (n / b)) (digit (n % b))
    ∙ rw (last_spell b k (n / b) p s (shorter b k n p h), digit-worth (n % b) (omega arith)) (div-add-mod n b)

digit_in : (ds : List ℕ) (d i : ℕ) → (i < length ds → IsDigit (get_or ds i 0)) → IsDigit d → i < suc (length ds) → IsDigit (get_or (ds ++ d ∷ []) i 0)
digit_in [] d zero h g l = g
digit_in [] d (suc i) h g l = absurd (omega arith)
digit_in (a ∷ ds) d zero h g l = h (omega arith)
digit_in (a ∷ ds) d (suc i) h g l = digit_in ds d i (λ m. h (omega arith)) g (omega arith)

last-digit : (k n i : ℕ) → i < k → IsDigit (get_or (last_digits 10 k n) i 0)
unfolding last_digits
last-digit zero n i h = absurd (omega arith)
last-digit (suc k) n i h =
    let e = length_last 10 k (n / 10) in
    let m : n % 10 < 10 = omega arith in
    digit_in (last_digits 10 k (n / 10)) (digit (n % 10)) i
    (λ l. last-digit k (n / 10) i (omega arith))
    (rw (lt-ltb (n % 10) 10 m) (omega arith, omega arith))
    (omega arith)

-- ---- how many decimal digits

steps_enough : (k m n : ℕ) (small : Bool) → ltb n 10 ≡ small → n ≤ k → n ≤ m → places_within k small n ≡ places_within m small n
unfolding places_within
steps_enough zero zero n small e h g = refl
steps_enough zero (suc m) n true e h g = refl
steps_enough zero (suc m) n false e h g = let l = ltb-false n 10 e in absurd (omega arith)
steps_enough (suc k) zero n true e h g = refl
steps_enough (suc k) zero n false e h g = let l = ltb-false n 10 e in absurd (omega arith)
steps_enough (suc k) (suc m) n true e h g = refl
steps_enough (suc k) (suc m) n false e h g =
    let l = ltb-false n 10 e in
    ap suc (steps_enough k m (n / 10) (ltb (n / 10) 10) refl (omega arith) (omega arith))

one_place : (k n : ℕ) → places_within k true n ≡ 1
unfolding places_within
one_place zero n = refl
one_place (suc k) n = refl

pub places_small : (n : ℕ) → n < 10 → places n ≡ 1
unfolding places
places_small n h = rw (lt-ltb n 10 h) (one_place n n)

pub places_more : (n : ℕ) → 10 ≤ n → places n ≡ suc (places (n / 10))
unfolding places places_within
places_more zero h = absurd (omega arith)
places_more (suc k) h =
    rw (le-ltb (suc k) 10 h) (ap suc (steps_enough k (suc k / 10) (suc k / 10) (ltb (suc k / 10) 10) refl (omega arith) (omega arith)))

-- They are enough, and no more than any other number of digits that is.
pub places-enough : (n : ℕ) → n < 10 ^ places n
places-enough n = by_size n n (ltb n 10) refl (omega arith)
  where
    by_size : (k n : ℕ) (small : Bool) → ltb n 10 ≡ small → n ≤ k → n < 10 ^ places n
    by_size zero n small e h = let l : n < 10 = omega arith in rw (places_small n l) (omega arith)
    by_size (suc k) n true e h = let l = ltb-true n 10 e in rw (places_small n l) (omega arith)
    by_size (suc k) n false e h =
        let l = ltb-false n 10 e in
        rw (places_more n l, pow-suc 10 (places (n / 10))) (omega (arith, by_size k (n / 10) (ltb (n / 10) 10) refl (omega arith)))

pub places_fewest : (k n : ℕ) → 0 < k → n < 10 ^ k → places n ≤ k
places_fewest zero n p h = absurd (omega arith)
places_fewest (suc k) n p h = by_size k n (ltb n 10) refl (λ q. places_fewest k (n / 10) q (shorter 10 k n (omega arith) h)) h
  where
    by_size : (k n : ℕ) (small : Bool) → ltb n 10 ≡ small → (0 < k → places (n / 10) ≤ k) → n < 10 ^ suc k → places n ≤ suc k
    by_size k n true e r h = let l = ltb-true n 10 e in rw (places_small n l) (omega arith)
    by_size zero n false e r h = let l = ltb-false n 10 e in absurd (omega arith)
    by_size (suc k) n false e r h = let l = ltb-false n 10 e in rw (places_more n l) (omega (arith, r (omega arith)))

-- ---- decimal

pub decimal_small : (n : ℕ) → n < 10 → decimal n ≡ (48 + n) ∷ []
unfolding decimal last_digits
decimal_small n h =
    let m : n % 10 ≡ n = omega arith in
    rw (places_small n h, m, lt-ltb n 10 h)

pub decimal_more : (n : ℕ) → 10 ≤ n → decimal n ≡ decimal (n / 10) ++ (48 + n % 10) ∷ []
unfolding decimal last_digits
decimal_more n h =
    let m : n % 10 < 10 = omega arith in
    rw (places_more n h, lt-ltb (n % 10) 10 m)

pub length-decimal : (n : ℕ) → length (decimal n) ≡ places n
unfolding decimal
length-decimal n = length_last 10 (places n) n

pub decimal_spells : (n : ℕ) → spelled 10 0 (decimal n) ≡ n
unfolding decimal
decimal_spells n = last_spell 10 (places n) n (omega arith) (omega arith) (places-enough n)

pub decimal_digit : (n i : ℕ) → i < length (decimal n) → IsDigit (get_or (decimal n) i 0)
unfolding decimal
decimal_digit n i h = last-digit (places n) n i (omega (arith, length-decimal n))

some_places : (n : ℕ) → 0 < length (decimal n)
some_places n = by_size (ltb n 10) refl
  where
    by_size : (small : Bool) → ltb n 10 ≡ small → 0 < length (decimal n)
    by_size true e = omega (arith, length-decimal n, places_small n (ltb-true n 10 e))
    by_size false e = omega (arith, length-decimal n, places_more n (ltb-false n 10 e))

-- The first digit is `0` for 0 alone.
pub decimal-first : (n : ℕ) → 0 < n → get_or (decimal n) 0 0 ≢ 48
decimal-first n p = by_size n n (ltb n 10) refl (omega arith) p
  where
    by_size : (k n : ℕ) (small : Bool) → ltb n 10 ≡ small → n ≤ k → 0 < n → get_or (decimal n) 0 0 ≢ 48
    by_size zero n small e h p = absurd (omega arith)
    by_size (suc k) n true e h p = let l = ltb-true n 10 e in rw (decimal_small n l) (λ q. omega arith)
    by_size (suc k) n false e h p =
        let l = ltb-false n 10 e in
        rw (decimal_more n l, get_or-append (decimal (n / 10)) ((48 + n % 10) ∷ []) 0 0 (some_places (n / 10)))
        (by_size k (n / 10) (ltb (n / 10) 10) refl (omega arith) (omega arith))

pub decimal_most : (n : ℕ) → n < 2 ^ 64 → length (decimal n) ≤ 20
decimal_most n h = omega (arith, length-decimal n, places_fewest 20 n (omega arith) (omega arith))

-- ---- hexadecimal

pub length_hex : (n : ℕ) → length (hex16 n) ≡ 16
unfolding hex16
length_hex n = length_last 16 16 n

pub hex_spells : (n : ℕ) → n < 2 ^ 64 → spelled 16 0 (hex16 n) ≡ n
unfolding hex16
hex_spells n h = last_spell 16 16 n (omega arith) (omega arith) h

-- ---- examples, each computed

-- "0"
pub decimal_of_0 : decimal 0 ≡ 48 ∷ []
unfolding decimal places places_within last_digits
decimal_of_0 = refl

-- "10"
pub decimal_of_10 : decimal 10 ≡ 49 ∷ 48 ∷ []
unfolding decimal places places_within last_digits
decimal_of_10 = refl

-- "1101659110911"
pub decimal_of_largest_end : decimal 1101659110911 ≡ 49 ∷ 49 ∷ 48 ∷ 49 ∷ 54 ∷ 53 ∷ 57 ∷ 49 ∷ 49 ∷ 48 ∷ 57 ∷ 49 ∷ 49 ∷ []
unfolding decimal places places_within last_digits
decimal_of_largest_end = refl

-- "18446744073709551615"
pub decimal_of_greatest : decimal (2 ^ 64 - 1)
    ≡ 49 ∷ 56 ∷ 52 ∷ 52 ∷ 54 ∷ 55 ∷ 52 ∷ 52 ∷ 48 ∷ 55 ∷ 51 ∷ 55 ∷ 48 ∷ 57 ∷ 53 ∷ 53 ∷ 49 ∷ 54 ∷ 49 ∷ 53 ∷ []
unfolding decimal places places_within last_digits
decimal_of_greatest = refl

-- "4014000000000000", the bits of 5.0
pub hex_of_five : hex16 4617315517961601024 ≡ 52 ∷ 48 ∷ 49 ∷ 52 ∷ replicate 12 48
unfolding hex16 last_digits
hex_of_five = refl
