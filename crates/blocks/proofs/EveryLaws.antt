-- What is so of every element of a list.
use mathlib.Core.List.{List, [], ◌∷◌, ◌++◌}
use Prim.Native.Nat.{ℕ, zero, suc, ◌<◌}
use native.Mathlib.Omega.{arith}
use lib.ListN.{length, get_or, take}

pub data Every {A : Type 0} (P : A → Type 0) : List A → Type 0 where
  none : Every P []
  also : {x : A} {l : List A} → P x → Every P l → Every P (x ∷ l)

module _ {A : Type 0} {P : A → Type 0} where
  pub every_append : {xs ys : List A} → Every P xs → Every P ys → Every P (xs ++ ys)
  every_append none k = k
  every_append (also h hs) k = also h (every_append hs k)

  pub every_map : {Q : A → Type 0} {l : List A} → ((x : A) → P x → Q x) → Every P l → Every Q l
  every_map f none = none
  every_map f (also {x} h hs) = also (f x h) (every_map f hs)

  pub every_take : (k : ℕ) {l : List A} → Every P l → Every P (take k l)
  every_take zero h = none
  every_take (suc k) none = none
  every_take (suc k) (also h hs) = also h (every_take k hs)

  pub every_at : {l : List A} → Every P l → (k : ℕ) (other : A) → k < length l → P (get_or l k other)
  every_at none k other h = absurd (omega arith)
  every_at (also h hs) zero other k = h
  every_at (also h hs) (suc i) other k = every_at hs i other (omega arith)
