-- Laws of the latest of a run of numbers, and of a sum.
use Prim.Native.Nat.{ℕ, zero, suc, ◌+◌, ◌*◌, ◌≤◌, ◌<◌, max}
use mathlib.Core.Path.{◌≡◌, refl, ap}
use mathlib.Core.Bool.{Bool, true, false}
use native.Mathlib.Omega.{arith}
use native.Mathlib.Numerals.{add-one}
use native.Mathlib.Nat.{max-le, mul-suc}
use borrow.Author.Tests.{eqb-true, eqb-false}
use lib.Dec.{eqb}
use Rattle.fitness.specs.Fitness.{latest, sum_to}

-- One number more.
pub latest_next : (f : ℕ → ℕ) {k now next latter : ℕ} → now ≡ latest f 0 k → next ≡ f k → latter ≡ max now next → latter ≡ latest f 0 (k + 1)
unfolding latest
latest_next f {k} e h g = rw add-one (let z : 0 + k ≡ k = omega arith in rw z (cc))

pub sum_next : (f : ℕ → ℕ) {k sum next : ℕ} → sum ≡ sum_to f k → next ≡ f k → sum + next ≡ sum_to f (k + 1)
unfolding sum_to
sum_next f e h = rw add-one (cc)

-- What bounds each of the numbers bounds the latest.
pub latest_most : (f : ℕ → ℕ) (from k m : ℕ) → ((a : ℕ) → from ≤ a → a < from + k → f a ≤ m) → latest f from k ≤ m
unfolding latest
latest_most f from zero m h = omega arith
latest_most f from (suc k) m h = max-le (latest_most f from k m (λ a l g. h a l (omega arith))) (h (from + k) (omega arith) (omega arith))

-- The latest is none of the numbers' lower.
pub latest-least : (f : ℕ → ℕ) (from k a : ℕ) → from ≤ a → a < from + k → f a ≤ latest f from k
unfolding latest
latest-least f from zero a l h = absurd (omega arith)
latest-least f from (suc k) a l h = by_place (eqb a (from + k)) refl (latest-least f from k a l)
  where
    by_place : (b : Bool) → eqb a (from + k) ≡ b → (a < from + k → f a ≤ latest f from k) → f a ≤ max (latest f from k) (f (from + k))
    by_place true e before = let i : f a ≡ f (from + k) = ap f (eqb-true _ _ e) in omega arith
    by_place false e before = let i = eqb-false a (from + k) e in omega (arith, before (omega arith))

-- Where the numbers are the same, so is the latest.
pub latest-same : (f g : ℕ → ℕ) (from k : ℕ) → ((a : ℕ) → from ≤ a → a < from + k → f a ≡ g a) → latest f from k ≡ latest g from k
unfolding latest
latest-same f g from zero h = refl
latest-same f g from (suc k) h =
    rw (latest-same f g from k (λ a l i. h a l (omega arith)), h (from + k) (omega arith) (omega arith))

-- A sum of k numbers of at most m each.
pub sum_most : (f : ℕ → ℕ) (k m : ℕ) → ((t : ℕ) → t < k → f t ≤ m) → sum_to f k ≤ m * k
unfolding sum_to
sum_most f zero m h = omega arith
sum_most f (suc k) m h = rw mul-suc (omega (arith, sum_most f k m (λ t l. h t (omega arith)), h k (omega arith)))

pub sum_same : (f g : ℕ → ℕ) (k : ℕ) → ((t : ℕ) → t < k → f t ≡ g t) → sum_to f k ≡ sum_to g k
unfolding sum_to
sum_same f g zero h = refl
sum_same f g (suc k) h = rw (sum_same f g k (λ t l. h t (omega arith)), h k (omega arith))
