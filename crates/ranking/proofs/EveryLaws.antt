-- What is so of every move offered is so of every move kept. Assumes nothing.
use mathlib.Core.Bool.{Bool, true, false, cond}
use mathlib.Core.List.{List, [], ◌∷◌, ◌++◌}
use Prim.Native.Nat.{ℕ, zero, suc, ◌<◌}
use native.Mathlib.Omega.{arith}
use lib.ListN.{length, get_or, take}
use lib.Seq.{length-take-le}
use Rattle.ranking.specs.declared.held.Rated.{Rated}
use Rattle.ranking.specs.declared.held.Three.{Three}
use Rattle.ranking.specs.Ranking.{precedes, insert_by, sort_into, best_three, ranked}

unfoldable pub Every : {A : Type 0} → (A → Type 0) → List A → Type 0
Every P [] = Unit {0}
Every P (x ∷ l) = P x × Every P l

module _ {A : Type 0} (P : A → Type 0) where
  pub every_append : (l m : List A) → Every P l → Every P m → Every P (l ++ m)
  unfolding Every
  every_append [] m e f = f
  every_append (x ∷ l) m e f = (e.0, every_append l m e.1 f)

  pub every_take : (k : ℕ) (l : List A) → Every P l → Every P (take k l)
  unfolding Every
  every_take zero l e = tt
  every_take (suc k) [] e = tt
  every_take (suc k) (x ∷ l) e = (e.0, every_take k l e.1)

  pub every_insert : (less : A → A → Bool) (x : A) (l : List A) → P x → Every P l → Every P (insert_by less x l)
  unfolding Every insert_by
  every_insert less x [] h e = (h, tt)
  every_insert less x (y ∷ l) h e = by_test (less x y) (every_insert less x l h e.1)
    where
      by_test : (t : Bool) → Every P (insert_by less x l) → Every P (cond t (x ∷ y ∷ l) (y ∷ insert_by less x l))
      by_test true f = (h, e)
      by_test false f = (e.0, f)

  pub every_sort : (less : A → A → Bool) (sorted l : List A) → Every P sorted → Every P l → Every P (sort_into less sorted l)
  unfolding Every sort_into
  every_sort less sorted [] e f = e
  every_sort less sorted (x ∷ l) e f = every_sort less (insert_by less x sorted) l (every_insert less x sorted f.0 e) f.1

  pub every_at : (l : List A) (k : ℕ) (other : A) → Every P l → k < length l → P (get_or l k other)
  unfolding Every
  every_at [] k other e h = absurd (omega arith)
  every_at (x ∷ l) zero other e h = e.0
  every_at (x ∷ l) (suc k) other e h = every_at l k other e.1 (omega arith)

module _ (P : Rated → Type 0) where
  pub every_best : (l : List Rated) → Every P l → Every P (best_three l)
  unfolding Every
  every_best l e = every_take P 3 (sort_into precedes [] l) (every_sort P precedes [] l tt e)

  -- .. of the k-th that is held
  pub every_held : (three : Three) → Every P (ranked three) → (k : ℕ) → k < three.count → (other : Rated) → P (get_or (ranked three) k other)
  every_held three e k h other =
      every_at P (ranked three) k other e (omega (arith, length-take-le three.count (three.first ∷ three.second ∷ three.third ∷ []) three.few))
