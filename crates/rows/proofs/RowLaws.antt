-- One cell written after the other: the first i hold the column's first i, the others stay.
use Rattle.std.proofs.Common.{map}
use Rattle.std.proofs.lemmas.List.{get_or_default, get_or-map, length-map}
use Prim.Native.Nat.{ℕ, zero, suc, ◌+◌, ◌≤◌, ◌<◌}
use mathlib.Core.Path.{◌≡◌, refl, sym, ap, ap₂, ◌∙◌}
use mathlib.Core.List.{List, [], ◌∷◌, ◌++◌}
use native.Mathlib.Omega.{arith}
use native.Mathlib.Numerals.{add-one}
use lib.ListN.{length, get_or, set, drop}
use Rattle.rows.specs.Rows.{gathered, over}

pub length-gathered : (values order : List ℕ) → length (gathered values order) ≡ length order
unfolding gathered
length-gathered values [] = refl
length-gathered values (a ∷ order) = ap suc (length-gathered values order)

pub gathered_at : (values order : List ℕ) (i : ℕ) → i < length order → get_or (gathered values order) i 0 ≡ get_or values (get_or order i 0) 0
unfolding gathered
gathered_at values [] i h = absurd (omega arith)
gathered_at values (a ∷ order) zero h = refl
gathered_at values (a ∷ order) (suc i) h = gathered_at values order i (omega arith)

-- the first i of a column over cells
pub up_to : {A : Type 0} → ℕ → (column cells : List A) → List A
up_to zero column cells = cells
up_to (suc i) [] cells = cells
up_to (suc i) (x ∷ column) [] = []
up_to (suc i) (x ∷ column) (c ∷ cells) = x ∷ up_to i column cells

module _ {A : Type 0} where
  pub up_to_length : (i : ℕ) (column cells : List A) → length (up_to i column cells) ≡ length cells
  unfolding up_to
  up_to_length zero column cells = refl
  up_to_length (suc i) [] cells = refl
  up_to_length (suc i) (x ∷ column) [] = refl
  up_to_length (suc i) (x ∷ column) (c ∷ cells) = ap suc (up_to_length i column cells)

  pub up_to_next : (i : ℕ) (column cells : List A) (d : A) → i < length column → length column ≤ length cells → set (up_to i column cells) i (get_or column i d) ≡ up_to (suc i) column cells
  unfolding up_to
  up_to_next i [] cells d h k = absurd (omega arith)
  up_to_next i (x ∷ column) [] d h k = absurd (omega arith)
  up_to_next zero (x ∷ column) (c ∷ cells) d h k = refl
  up_to_next (suc i) (x ∷ column) (c ∷ cells) d h k = ap (λ (l : List A). x ∷ l) (up_to_next i column cells d (omega arith) (omega arith))

  pub up_to_all : (i : ℕ) (column cells : List A) → i ≡ length column → length column ≤ length cells → up_to i column cells ≡ column ++ drop (length column) cells
  unfolding up_to
  up_to_all zero [] cells e k = refl
  up_to_all (suc i) [] cells e k = absurd (omega arith)
  up_to_all zero (x ∷ column) cells e k = absurd (omega arith)
  up_to_all (suc i) (x ∷ column) [] e k = absurd (omega arith)
  up_to_all (suc i) (x ∷ column) (c ∷ cells) e k = ap (λ (l : List A). x ∷ l) (up_to_all i column cells (omega arith) (omega arith))

-- ---- `gather`: at any default, the first i of the column that the order has of the values are written

pub record Gathering {A : Type 0} (values : List A) (order : List ℕ) (cells₀ cells : List A) (i : ℕ) (d : A) : Type 0 where
  pub within : i ≤ length order
  pub room : length order ≤ length cells₀
  pub so_far : cells ≡ up_to i (map (λ a. get_or values a d) order) cells₀

pub none_gathered : {A : Type 0} (values : List A) (order : List ℕ) (cells : List A) → length order ≤ length cells → (d : A) → Gathering values order cells cells 0 d
unfolding up_to
none_gathered values order cells h d = record { within = omega arith; room = h; so_far = refl }

module _ {A : Type 0} {values : List A} {order : List ℕ} {cells₀ cells : List A} {i : ℕ} {d : A} (k : Gathering values order cells₀ cells i d) where
  pub gather_next : i < length order → get_or order i 0 < length values → {x : A} → x ≡ get_or values (get_or order i 0) x → Gathering values order cells₀ (set cells i x) (i + 1) d
  gather_next h b {x} e =
      let column : List A = map (λ a. get_or values a d) order in
      let long : length column ≡ length order = length-map order (λ a. get_or values a d) in
      let v : x ≡ get_or column i d = e ∙ get_or_default values (get_or order i 0) x d b ∙ sym (get_or-map (λ a. get_or values a d) order i 0 d h) in
      record {
        within = omega arith;
        room = k.room;
        so_far =
            ap₂ (λ (l : List A) (y : A). set l i y) k.so_far v
            ∙ up_to_next i column cells₀ d (omega arith) (omega (arith, k.room))
            ∙ ap (λ (j : ℕ). up_to j column cells₀) (sym (add-one i));
      }

  pub all-gathered : length order ≤ i → cells ≡ map (λ a. get_or values a d) order ++ drop (length order) cells₀
  all-gathered h =
      let long : length (map (λ a. get_or values a d) order) ≡ length order = length-map order (λ a. get_or values a d) in
      k.so_far
      ∙ up_to_all i (map (λ a. get_or values a d) order) cells₀ (omega (arith, k.within)) (omega (arith, k.room))
      ∙ ap (λ (n : ℕ). map (λ a. get_or values a d) order ++ drop n cells₀) long

mapped : (values order : List ℕ) → map (λ a. get_or values a 0) order ≡ gathered values order
unfolding gathered
mapped values [] = refl
mapped values (a ∷ order) = ap (λ (l : List ℕ). get_or values a 0 ∷ l) (mapped values order)

-- that column over the cells
pub gathered_over : (values order cells₀ : List ℕ) {cells : List ℕ} → cells ≡ map (λ a. get_or values a 0) order ++ drop (length order) cells₀ → cells ≡ over (gathered values order) cells₀
gathered_over values order cells₀ e =
    e ∙ ap₂ (λ (l : List ℕ) (n : ℕ). l ++ drop n cells₀) (mapped values order) (sym (length-gathered values order))
