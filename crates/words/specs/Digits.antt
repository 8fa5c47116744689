-- Numbers as text, a byte a digit, the most significant first: decimal with no zeros in front, and sixteen hexadecimal digits in lower case.
use Rattle.std.specs.Prelude.{ℕ, zero, suc, ◌+◌, ◌-◌, ◌*◌, ◌/◌, ◌%◌, ◌≤◌, ◌<◌, Bool, true, false, cond, List, [], ◌∷◌, ◌++◌, ltb}

-- `0` to `9` are 48 to 57, `a` to `f` are 97 to 102.
abbrev pub digit : ℕ → ℕ
digit d = cond (ltb d 10) (48 + d) (87 + d)

-- The last k digits of n in base b.
unfoldable pub last_digits : ℕ → ℕ → ℕ → List ℕ
last_digits b zero n = []
last_digits b (suc k) n = last_digits b k (n / b) ++ digit (n % b) ∷ []

-- How many decimal digits n has: one below ten, else one more than n / 10. The first argument only bounds the steps, of which n are
-- always enough; the second says whether n is below ten.
unfoldable pub places_within : ℕ → Bool → ℕ → ℕ
places_within zero small n = 1
places_within (suc k) true n = 1
places_within (suc k) false n = suc (places_within k (ltb (n / 10) 10) (n / 10))

unfoldable pub places : ℕ → ℕ
places n = places_within n (ltb n 10) n

unfoldable pub decimal : ℕ → List ℕ
decimal n = last_digits 10 (places n) n

unfoldable pub hex16 : ℕ → List ℕ
hex16 n = last_digits 16 16 n

-- One of the bytes `0` to `9`.
abbrev pub IsDigit : ℕ → Type 0
IsDigit b = (48 ≤ b) × (b < 58)

-- What a digit stands for.
abbrev pub worth : ℕ → ℕ
worth d = cond (ltb d 58) (d - 48) (d - 87)

-- The number that digits in base b spell, after others that spelled n.
unfoldable pub spelled : ℕ → ℕ → List ℕ → ℕ
spelled b n [] = n
spelled b n (d ∷ ds) = spelled b (b * n + worth d) ds
