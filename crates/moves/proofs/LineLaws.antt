-- One line: taking out and putting in, one place at a time and at once, and what then stands where. Assumes nothing.
use mathlib.Core.Path.{◌≡◌, refl, sym, ap, ◌∙◌}
use mathlib.Core.List.{List, [], ◌∷◌, ◌++◌}
use Prim.Native.Nat.{ℕ, zero, suc, ◌+◌, ◌-◌, ◌≤◌, ◌<◌}
use native.Mathlib.Numerals.{add-one}
use native.Mathlib.Omega.{arith}
use lib.ListN.{length, get_or, set, take, length-set}
use lib.Seq.{get_or-set_same}
use Rattle.std.specs.List.{swap}
use Rattle.std.proofs.lemmas.List.Edits.{swap_is}
use Rattle.graph.specs.Counting.{count_of, hit}
use Rattle.moves.specs.Moves.{swap_at, remove_at, insert_at, shifted}

-- ---- lengths

pub length_remove : (l : List ℕ) (i : ℕ) → i < length l → suc (length (remove_at l i)) ≡ length l
length_remove [] i h = absurd (omega arith)
length_remove (x ∷ l) zero h = refl
length_remove (x ∷ l) (suc i) h = ap suc (length_remove l i (omega arith))

pub length_insert : (l : List ℕ) (i a : ℕ) → length (insert_at l i a) ≡ suc (length l)
length_insert l zero a = refl
length_insert [] (suc i) a = refl
length_insert (x ∷ l) (suc i) a = ap suc (length_insert l i a)

pub length-shifted : (l : List ℕ) (i j : ℕ) → i < length l → length (shifted l i j) ≡ length l
unfolding shifted
length-shifted l i j h = length_insert (remove_at l i) j (get_or l i 0) ∙ length_remove l i h

pub length_swapped : (l : List ℕ) (i : ℕ) → length (swap_at l i) ≡ length l
unfolding swap_at
length_swapped l i = length-set (set l i (get_or l (suc i) 0)) (suc i) (get_or l i 0) ∙ length-set l i (get_or l (suc i) 0)

-- ---- out and in again

-- put in where it was taken out
pub put_back : (l : List ℕ) (i : ℕ) → i < length l → insert_at (remove_at l i) i (get_or l i 0) ≡ l
put_back [] i h = absurd (omega arith)
put_back (x ∷ l) zero h = refl
put_back (x ∷ l) (suc i) h = ap (λ (t : List ℕ). x ∷ t) (put_back l i (omega arith))

-- taken out where it was put in
pub take_back : (l : List ℕ) (i a : ℕ) → i ≤ length l → remove_at (insert_at l i a) i ≡ l
take_back l zero a h = refl
take_back [] (suc i) a h = absurd (omega arith)
take_back (x ∷ l) (suc i) a h = ap (λ (t : List ℕ). x ∷ t) (take_back l i a (omega arith))

pub stays : (l : List ℕ) (i : ℕ) → i < length l → shifted l i i ≡ l
unfolding shifted
stays l i h = put_back l i h

-- ---- what stands where

pub insert_at_lem : (l : List ℕ) (i a : ℕ) → i ≤ length l → get_or (insert_at l i a) i 0 ≡ a
insert_at_lem l zero a h = refl
insert_at_lem [] (suc i) a h = absurd (omega arith)
insert_at_lem (x ∷ l) (suc i) a h = insert_at_lem l i a (omega arith)

insert_before : (l : List ℕ) (i a k : ℕ) → i ≤ length l → k < i → get_or (insert_at l i a) k 0 ≡ get_or l k 0
insert_before l zero a k h b = absurd (omega arith)
insert_before [] (suc i) a k h b = absurd (omega arith)
insert_before (x ∷ l) (suc i) a zero h b = refl
insert_before (x ∷ l) (suc i) a (suc k) h b = insert_before l i a k (omega arith) (omega arith)

insert_after : (l : List ℕ) (i a k : ℕ) → i ≤ length l → i ≤ k → get_or (insert_at l i a) (suc k) 0 ≡ get_or l k 0
insert_after l zero a k h b = refl
insert_after [] (suc i) a k h b = absurd (omega arith)
insert_after (x ∷ l) (suc i) a zero h b = absurd (omega arith)
insert_after (x ∷ l) (suc i) a (suc k) h b = insert_after l i a k (omega arith) (omega arith)

remove_before : (l : List ℕ) (i k : ℕ) → k < i → get_or (remove_at l i) k 0 ≡ get_or l k 0
remove_before [] i k h = refl
remove_before (x ∷ l) zero k h = absurd (omega arith)
remove_before (x ∷ l) (suc i) zero h = refl
remove_before (x ∷ l) (suc i) (suc k) h = remove_before l i k (omega arith)

remove_after : (l : List ℕ) (i k : ℕ) → i ≤ k → get_or (remove_at l i) k 0 ≡ get_or l (suc k) 0
remove_after [] i k h = refl
remove_after (x ∷ l) zero k h = refl
remove_after (x ∷ l) (suc i) zero h = absurd (omega arith)
remove_after (x ∷ l) (suc i) (suc k) h = remove_after l i k (omega arith)

module _ (l : List ℕ) (from to : ℕ) (f : from < length l) (t : to < length l) where
  fits : to ≤ length (remove_at l from)
  fits = omega (arith, length_remove l from f)

  pub moved_there : (k : ℕ) → k ≡ to → get_or l from 0 ≡ get_or (shifted l from to) k 0
  unfolding shifted
  moved_there k e = sym (rw e (insert_at_lem (remove_at l from) to (get_or l from 0) fits))

  -- in front of both
  pub moved_front : (k : ℕ) → k < to → k < from → get_or l k 0 ≡ get_or (shifted l from to) k 0
  unfolding shifted
  moved_front k h g = sym (insert_before (remove_at l from) to (get_or l from 0) k fits h ∙ remove_before l from k g)

  -- between, where the one moved went to the back
  pub moved_forward : (k : ℕ) → k < to → from ≤ k → get_or l (k + 1) 0 ≡ get_or (shifted l from to) k 0
  unfolding shifted
  moved_forward k h g =
      rw (add-one k) (sym (insert_before (remove_at l from) to (get_or l from 0) k fits h ∙ remove_after l from k g))

  -- behind both
  pub moved-behind : (k : ℕ) → to < k → from < k → get_or l k 0 ≡ get_or (shifted l from to) k 0
  unfolding shifted
  moved-behind zero h g = absurd (omega arith)
  moved-behind (suc k) h g =
      sym (insert_after (remove_at l from) to (get_or l from 0) k fits (omega arith) ∙ remove_after l from k (omega arith))

  -- between, where the one moved went to the front
  pub moved_back : (k k' : ℕ) → k ≡ suc k' → to < k → k ≤ from → get_or l k' 0 ≡ get_or (shifted l from to) k 0
  unfolding shifted
  moved_back k k' e h g =
      rw e
      (sym (insert_after (remove_at l from) to (get_or l from 0) k' fits (omega arith) ∙ remove_before l from k' (omega arith)))

-- ---- one place up or down is a swap

up : (l : List ℕ) (i x : ℕ) → i < length l → insert_at l (suc i) x ≡ swap_at (insert_at l i x) i
unfolding swap_at
up [] i x h = absurd (omega arith)
up (y ∷ l) zero x h = refl
up (y ∷ l) (suc i) x h = ap (λ (t : List ℕ). y ∷ t) (up l i x (omega arith))

down : (l : List ℕ) (i x : ℕ) → i < length l → insert_at l i x ≡ swap_at (insert_at l (suc i) x) i
unfolding swap_at
down [] i x h = absurd (omega arith)
down (y ∷ l) zero x h = refl
down (y ∷ l) (suc i) x h = ap (λ (t : List ℕ). y ∷ t) (down l i x (omega arith))

-- what std says of a swap of two neighbours
pub neighbours_swapped : (l : List ℕ) (i : ℕ) → i + 1 < length l → swap l i (i + 1) ≡ swap_at l i
unfolding swap_at
neighbours_swapped l i h = sym (swap_is l i (i + 1) 0 (omega arith) h) ∙ rw (add-one i) refl

-- a swap is a shift to the next place
pub swap-shifted : (l : List ℕ) (i : ℕ) → i + 1 < length l → swap_at l i ≡ shifted l i (i + 1)
unfolding shifted
swap-shifted l i h =
    sym (rw (add-one i) (up (remove_at l i) i (get_or l i 0) (omega (arith, length_remove l i (omega arith))) ∙ ap (λ (t : List ℕ). swap_at t i) (put_back l i (omega arith))))

pub swap_twice : (l : List ℕ) (i : ℕ) → i + 1 < length l → swap_at (swap_at l i) i ≡ l
unfolding swap_at
swap_twice [] i h = absurd (omega arith)
swap_twice (x ∷ []) i h = absurd (omega arith)
swap_twice (x ∷ y ∷ l) zero h = refl
swap_twice (x ∷ y ∷ l) (suc i) h = ap (λ (t : List ℕ). x ∷ t) (swap_twice (y ∷ l) i (omega arith))

-- a shift there and back
pub shift_back : (l : List ℕ) (i j : ℕ) → i < length l → j < length l → shifted (shifted l i j) j i ≡ l
unfolding shifted
shift_back l i j h k =
    let g : j ≤ length (remove_at l i) = omega (arith, length_remove l i h) in
    rw (take_back (remove_at l i) j (get_or l i 0) g, insert_at_lem (remove_at l i) j (get_or l i 0) g) (put_back l i h)

-- ---- a shift goes by swaps of neighbours, one place on or back each

module _ (l : List ℕ) (from : ℕ) (h : from < length l) (line : List ℕ) (k : ℕ) (b : k + 1 < length l) where
  pub swapped_on : line ≡ shifted l from k → swap line k (k + 1) ≡ shifted l from (k + 1)
  unfolding shifted
  swapped_on e =
      neighbours_swapped line k (omega (arith, ap length e, length-shifted l from k h))
      ∙ ap (λ (t : List ℕ). swap_at t k) e
      ∙ rw (add-one k) (sym (up (remove_at l from) k (get_or l from 0) (omega (arith, length_remove l from h))))

  pub swapped_back : line ≡ shifted l from (k + 1) → swap line k (k + 1) ≡ shifted l from k
  unfolding shifted
  swapped_back e =
      neighbours_swapped line k (omega (arith, ap length e, length-shifted l from (k + 1) h))
      ∙ ap (λ (t : List ℕ). swap_at t k) e
      ∙ rw (add-one k) (sym (down (remove_at l from) k (get_or l from 0) (omega (arith, length_remove l from h))))

-- ---- taking out by a shift to the end, putting in by a shift from there

insert_last : (l : List ℕ) (a : ℕ) → insert_at l (length l) a ≡ l ++ (a ∷ [])
insert_last [] a = refl
insert_last (x ∷ l) a = ap (λ (t : List ℕ). x ∷ t) (insert_last l a)

pub to_last : (l : List ℕ) (i : ℕ) → i < length l → shifted l i (length l - 1) ≡ remove_at l i ++ (get_or l i 0 ∷ [])
unfolding shifted
to_last l i h =
    let e : length l - 1 ≡ length (remove_at l i) = omega (arith, length_remove l i h) in
    rw e (insert_last (remove_at l i) (get_or l i 0))

remove_last : (l : List ℕ) (n a : ℕ) → length l ≡ suc n → remove_at (set l n a) n ≡ take n l
remove_last [] n a e = absurd (omega arith)
remove_last (x ∷ []) zero a e = refl
remove_last (x ∷ y ∷ l) zero a e = absurd (omega arith)
remove_last (x ∷ l) (suc n) a e = ap (λ (t : List ℕ). x ∷ t) (remove_last l n a (omega arith))

pub from_last : (l : List ℕ) (i a : ℕ) → 0 < length l → shifted (set l (length l - 1) a) (length l - 1) i ≡ insert_at (take (length l - 1) l) i a
unfolding shifted
from_last l i a h =
    rw (remove_last l (length l - 1) a (omega arith), get_or-set_same l (length l - 1) a 0 (omega arith))

-- ---- how often one stands

pub count_insert : (l : List ℕ) (i a b : ℕ) → count_of b (insert_at l i a) ≡ hit a b + count_of b l
unfolding count_of
count_insert l zero a b = refl
count_insert [] (suc i) a b = refl
count_insert (x ∷ l) (suc i) a b = omega (arith, count_insert l i a b)

pub count_remove : (l : List ℕ) (i b : ℕ) → i < length l → hit (get_or l i 0) b + count_of b (remove_at l i) ≡ count_of b l
unfolding count_of
count_remove [] i b h = absurd (omega arith)
count_remove (x ∷ l) zero b h = refl
count_remove (x ∷ l) (suc i) b h = omega (arith, count_remove l i b (omega arith))

pub count_shifted : (l : List ℕ) (i j b : ℕ) → i < length l → count_of b (shifted l i j) ≡ count_of b l
unfolding shifted
count_shifted l i j b h = count_insert (remove_at l i) j (get_or l i 0) b ∙ count_remove l i b h

pub count_swapped : (l : List ℕ) (i b : ℕ) → i + 1 < length l → count_of b (swap_at l i) ≡ count_of b l
count_swapped l i b h = ap (count_of b) (swap-shifted l i h) ∙ count_shifted l i (i + 1) b (omega arith)
