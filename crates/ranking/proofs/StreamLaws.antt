-- Three kept one after the other are the three of the whole list. Assumes nothing.
use mathlib.Core.Path.{◌≡◌, refl, sym, ap, ◌∙◌}
use mathlib.Core.Bool.{Bool, true, false, cond}
use mathlib.Core.List.{List, [], ◌∷◌, ◌++◌}
use Prim.Native.Nat.{ℕ, zero, suc}
use native.Mathlib.Omega.{arith}
use lib.ListN.{take}
use lib.Seq.{take-take}
use Rattle.ranking.specs.declared.held.Rated.{Rated}
use Rattle.ranking.specs.Ranking.{precedes, insert_by, sort_into, sort_by, best_three, with_one, with_all}

module _ {A : Type 0} (less : A → A → Bool) where
  -- the last is inserted last
  pub sort_last : (sorted l : List A) (x : A) → sort_into less sorted (l ++ (x ∷ [])) ≡ insert_by less x (sort_into less sorted l)
  unfolding sort_into
  sort_last sorted [] x = refl
  sort_last sorted (y ∷ l) x = sort_last (insert_by less y sorted) l x

  head_kept : (k : ℕ) (y : A) (l : List A) → take k (y ∷ l) ≡ take k (y ∷ take k l)
  head_kept zero y l = refl
  head_kept (suc k) y l = ap (λ (m : List A). y ∷ m) (sym (take-take k (suc k) l (omega arith)))

  -- what stands past the k-th does not change the first k of what is inserted
  pub insert_cut : (k : ℕ) (x : A) (l : List A) → take k (insert_by less x l) ≡ take k (insert_by less x (take k l))
  unfolding insert_by
  insert_cut zero x l = refl
  insert_cut (suc k) x [] = refl
  insert_cut (suc k) x (y ∷ l) = by_test (less x y) (insert_cut k x l)
    where
      by_test : (t : Bool) → take k (insert_by less x l) ≡ take k (insert_by less x (take k l))
          → take (suc k) (cond t (x ∷ y ∷ l) (y ∷ insert_by less x l)) ≡ take (suc k) (cond t (x ∷ y ∷ take k l) (y ∷ insert_by less x (take k l)))
      by_test true e = ap (λ (m : List A). x ∷ m) (head_kept k y l)
      by_test false e = ap (λ (m : List A). y ∷ m) e

-- one more at the end
pub streamed : (l : List Rated) (x : Rated) → best_three (l ++ (x ∷ [])) ≡ with_one x (best_three l)
streamed l x = ap (take 3) (sort_last precedes [] l x) ∙ insert_cut precedes 3 x (sort_by precedes l)

all_into : (sorted l : List Rated) → with_all (take 3 sorted) l ≡ take 3 (sort_into precedes sorted l)
unfolding with_all sort_into
all_into sorted [] = refl
all_into sorted (x ∷ l) =
    ap (λ (held : List Rated). with_all held l) (sym (insert_cut precedes 3 x sorted)) ∙ all_into (insert_by precedes x sorted) l

-- all of them, from none
pub streamed_all : (l : List Rated) → with_all [] l ≡ best_three l
streamed_all l = all_into [] l

-- some after others
pub with_append : (held l m : List Rated) → with_all held (l ++ m) ≡ with_all (with_all held l) m
unfolding with_all
with_append held [] m = refl
with_append held (x ∷ l) m = with_append (with_one x held) l m
