-- The first cells of an array of 128, lent and given back.
use Prim.Native.Nat.{ℕ, ◌≤◌}
use mathlib.Core.Path.{◌≡◌, refl, sym, ap, ◌∙◌}
use mathlib.Core.List.{List, [], ◌∷◌, ◌++◌}
use native.Mathlib.Omega.{arith}
use lib.ListN.{length, take, replicate, length-append}
use lib.Seq.{length-take-le}

-- As many of 128 zeros as are lent.
pub lent : (n : ℕ) → n ≤ 128 → length {A = ℕ} (take n (replicate 128 0)) ≡ n
lent n h = length-take-le {A = ℕ} n (replicate 128 0) h

module _ (n : ℕ) (xs ys : List ℕ) (e : length xs ≡ n) where
  -- Given back, they are the first cells again.
  pub prefix_room : n ≤ length (xs ++ ys)
  prefix_room = omega (arith, length-append xs ys)

  pub prefix_is : take n (xs ++ ys) ≡ xs
  prefix_is = ap (λ (k : ℕ). take k (xs ++ ys)) (sym e) ∙ first xs ys
    where
      first : (l k : List ℕ) → take (length l) (l ++ k) ≡ l
      first [] k = refl
      first (x ∷ l) k = ap (λ (m : List ℕ). x ∷ m) (first l k)

  pub prefix_length : n ≡ length (take n (xs ++ ys))
  prefix_length = sym e ∙ ap length (sym prefix_is)
