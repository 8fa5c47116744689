-- Document 01 counts: an activity waits once for each naming, repeats too. How often a number stands in a list, sums below a number, and
-- lists of numbers below a number: all that these rules need of finite sets.
use Rattle.std.specs.Prelude.{Bool, true, false, List, [], ◌∷◌, ℕ, zero, suc, ◌+◌, ◌<◌, eqb}

abbrev pub bit : Bool → ℕ
bit true = 1
bit false = 0

-- 1 where the two numbers are equal, else 0
unfoldable pub hit : ℕ → ℕ → ℕ
hit a b = bit (eqb a b)

-- how often b stands in the list
unfoldable pub count_of : ℕ → List ℕ → ℕ
count_of b [] = 0
count_of b (x ∷ xs) = hit x b + count_of b xs

-- the sum of f over the numbers below k
unfoldable pub sum_to : ℕ → (ℕ → ℕ) → ℕ
sum_to zero f = 0
sum_to (suc k) f = sum_to k f + f k

-- every number of the list is below k
unfoldable pub Below : ℕ → List ℕ → Type 0
Below k [] = Unit {0}
Below k (x ∷ xs) = (x < k) × Below k xs
