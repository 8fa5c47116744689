-- A list copied over another of its length, one cell after the other. Assumes nothing.
use mathlib.Core.Path.{◌≡◌, refl, ap}
use mathlib.Core.List.{List, [], ◌∷◌}
use Prim.Native.Nat.{ℕ, zero, suc, ◌≤◌, ◌<◌}
use native.Mathlib.Omega.{arith}
use lib.ListN.{length, get_or, set}

module _ {A : Type 0} where
  -- the first i are copied
  unfoldable pub copied : ℕ → (from to : List A) → List A
  copied zero from to = to
  copied (suc i) [] to = to
  copied (suc i) (x ∷ from) [] = []
  copied (suc i) (x ∷ from) (c ∷ to) = x ∷ copied i from to

  pub copied_next : (i : ℕ) (from to : List A) (x : A) → i < length from → length to ≡ length from → x ≡ get_or from i x → set (copied i from to) i x ≡ copied (suc i) from to
  unfolding copied
  copied_next i [] to x h e q = absurd (omega arith)
  copied_next i (y ∷ from) [] x h e q = absurd (omega arith)
  copied_next zero (y ∷ from) (c ∷ to) x h e q = ap (λ (z : A). z ∷ to) q
  copied_next (suc i) (y ∷ from) (c ∷ to) x h e q = ap (λ (l : List A). y ∷ l) (copied_next i from to x (omega arith) (omega arith) q)

  pub copied_all : (i : ℕ) (from to : List A) → length from ≤ i → length to ≡ length from → copied i from to ≡ from
  unfolding copied
  copied_all zero [] [] h e = refl
  copied_all (suc i) [] [] h e = refl
  copied_all i [] (c ∷ to) h e = absurd (omega arith)
  copied_all i (x ∷ from) [] h e = absurd (omega arith)
  copied_all zero (x ∷ from) (c ∷ to) h e = absurd (omega arith)
  copied_all (suc i) (x ∷ from) (c ∷ to) h e = ap (λ (l : List A). x ∷ l) (copied_all i from to (omega arith) (omega arith))
