-- The last on a machine of the first of a list.
use Rattle.std.specs.Prelude.{None, Option, Some, ℕ}
use Prim.Native.Nat.{ℕ, zero, suc, ◌≤◌, ◌<◌}
use mathlib.Core.Path.{◌≡◌, refl, sym, ap₂, ◌∙◌, subst}
use mathlib.Core.Bool.{Bool, true, false, cond}
use mathlib.Core.List.{List, ◌++◌}
use native.Mathlib.Omega.{arith}
use borrow.Author.Tests.{eq-eqb, ne_eqb}
use lib.Dec.{eqb}
use lib.ListN.{length, get_or, get_or-append}
use Rattle.graph.specs.Counting.{count_of}
use Rattle.graph.proofs.CountingLaws.{either}
use Rattle.in_order.proofs.ReadyLaws.{in_list}
use Rattle.accepted_sheets.specs.Orderly.{last_before}

-- What comes later in the list plays no part.
pub last_longer : (on : ℕ → ℕ) (l rest : List ℕ) (m k : ℕ) → k ≤ length l → last_before on (l ++ rest) m k ≡ last_before on l m k
unfolding last_before
last_longer on l rest m zero h = refl
last_longer on l rest m (suc k) h =
    let e : get_or (l ++ rest) k 0 ≡ get_or l k 0 = get_or-append l rest 0 k (omega arith) in
    ap₂ (λ (x : ℕ) (y : Option ℕ). cond (eqb (on x) m) (Some x) y) e (last_longer on l rest m k (omega arith))

-- Whoever it is stands in the list.
pub last-listed : (on : ℕ → ℕ) (l : List ℕ) (m k q : ℕ) → k ≤ length l → last_before on l m k ≡ Some q → 0 < count_of q l
unfolding last_before
last-listed on l m zero q h e = let z : ◌≡◌ {A = ℕ} 0 1 = cc in absurd (omega arith)
last-listed on l m (suc k) q h e = go (eqb (on (get_or l k 0)) m) e (last-listed on l m k q (omega arith))
  where
    go : (t : Bool) → cond t (Some (get_or l k 0)) (last_before on l m k) ≡ Some q → (last_before on l m k ≡ Some q → 0 < count_of q l) → 0 < count_of q l
    go true f deeper = let w : get_or l k 0 ≡ q = cc in subst (λ (x : ℕ). 0 < count_of x l) w (in_list l k (omega arith))
    go false f deeper = deeper f

-- One more, on that machine or on another.
pub last-same : (on : ℕ → ℕ) (l : List ℕ) (m k : ℕ) → on (get_or l k 0) ≡ m → last_before on l m (suc k) ≡ Some (get_or l k 0)
unfolding last_before
last-same on l m k e = rw (eq-eqb (on (get_or l k 0)) m e)

pub last_other : (on : ℕ → ℕ) (l : List ℕ) (m k : ℕ) → (on (get_or l k 0) ≡ m → ⊥) → last_before on l m (suc k) ≡ last_before on l m k
unfolding last_before
last_other on l m k ne = rw (ne_eqb (on (get_or l k 0)) m ne)

-- Where none is on the machine there is none.
pub last_none : (on : ℕ → ℕ) (l : List ℕ) (m k : ℕ) → ((j : ℕ) → j < k → on (get_or l j 0) ≡ m → ⊥) → last_before on l m k ≡ None
unfolding last_before
last_none on l m zero h = refl
last_none on l m (suc k) h = rw (ne_eqb (on (get_or l k 0)) m (h k (omega arith))) (last_none on l m k (λ j b. h j (omega arith)))

-- One that is, with none of that machine after it, is the last.
pub last_is : (on : ℕ → ℕ) (l : List ℕ) (m k j : ℕ) → j < k → on (get_or l j 0) ≡ m → ((i : ℕ) → j < i → i < k → on (get_or l i 0) ≡ m → ⊥) → last_before on l m k ≡ Some (get_or l j 0)
last_is on l m zero j h e none = absurd (omega arith)
last_is on l m (suc k) j h e none =
    either k j (λ q. subst (λ (y : ℕ). last_before on l m (suc k) ≡ Some (get_or l y 0)) q (last-same on l m k (subst (λ (y : ℕ). on (get_or l y 0) ≡ m) (sym q) e)))
    (λ ne. last_other on l m k (none k (omega arith) (omega arith)) ∙ last_is on l m k j (omega arith) e (λ i a b. none i a (omega arith)))
