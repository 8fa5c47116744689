-- The words of renewed bytes: those before the Order section as they were, then the new Order and Assignment.
use Prim.Native.Nat.{ℕ, ◌+◌, ◌*◌, ◌-◌, ◌%◌, ◌^◌, ◌≤◌, ◌<◌}
use mathlib.Core.Path.{◌≡◌, refl, sym, ap, ap₂, ◌∙◌}
use mathlib.Core.List.{List, [], ◌∷◌, ◌++◌}
use native.Mathlib.Omega.{arith}
use lib.ListN.{length, get_or, take, drop, length-append, take-append-drop, get_or-append}
use lib.Seq.{length-take-le, get_or-append-add}
use Rattle.words.specs.Words.{le32, words, Below}
use Rattle.words.proofs.WordLaws.{length-words, words_bytes}
use Rattle.renewed.specs.Renewed.{low_words, section, renewed_bytes}
use Rattle.renewed.proofs.RenewedLaws.{length_low, length-section}

-- Whole words, and what follows them.
words_append : (k : ℕ) (s t : List ℕ) → length s ≡ 4 * k → words (s ++ t) ≡ words s ++ words t
unfolding words
words_append k [] t h = refl
words_append k (a ∷ []) t h = absurd (omega (arith, h))
words_append k (a ∷ b ∷ []) t h = absurd (omega (arith, h))
words_append k (a ∷ b ∷ c ∷ []) t h = absurd (omega (arith, h))
words_append k (a ∷ b ∷ c ∷ d ∷ s) t h = ap (λ (l : List ℕ). le32 a b c d ∷ l) (words_append (k - 1) s t (omega (arith, h)))

-- Numbers below 2^32 are their own words.
pub low_same : (xs : List ℕ) → Below (2 ^ 32) xs → low_words xs ≡ xs
unfolding low_words
low_same [] h = refl
low_same (x ∷ xs) h = let e : x % 2 ^ 32 ≡ x = omega (arith, h.0) in ap₂ (λ (y : ℕ) (l : List ℕ). y ∷ l) e (low_same xs h.1)

-- Of bytes whose first k words stay.
module _ (k : ℕ) (s tasks machines : List ℕ) (fits : 4 * k ≤ length s) where
  abbrev front : List ℕ
  front = words (take (4 * k) s)

  abbrev order : List ℕ
  order = low_words (length tasks ∷ tasks)

  abbrev assignment : List ℕ
  assignment = low_words (length machines ∷ machines)

  abbrev renewed : List ℕ
  renewed = words (renewed_bytes (take (4 * k) s) tasks machines)

  long : length (take (4 * k) s) ≡ 4 * k
  long = length-take-le (4 * k) s fits

  front_long : length front ≡ k
  front_long = length-words (take (4 * k) s) ∙ omega (arith, long)

  order_long : length (front ++ order) ≡ k + 1 + length tasks
  order_long = length-append front order ∙ omega (arith, front_long, length_low (length tasks ∷ tasks))

  split : renewed ≡ front ++ order ++ assignment
  unfolding renewed_bytes section
  split =
      words_append (k + 1 + length tasks) (take (4 * k) s ++ section tasks) (section machines) (length-append (take (4 * k) s) (section tasks) ∙ omega (arith, long, length-section tasks))
      ∙ ap₂ (λ (x y : List ℕ). x ++ y) (words_append k (take (4 * k) s) (section tasks) long ∙ ap (λ (y : List ℕ). front ++ y) (words_bytes order)) (words_bytes assignment)

  pub renewed_long : length renewed ≡ k + 1 + length tasks + 1 + length machines
  renewed_long =
      ap length split ∙ length-append (front ++ order) assignment ∙ omega (arith, order_long, length_low (length machines ∷ machines))

  pub words_stay : (i : ℕ) → i < k → get_or renewed i 0 ≡ get_or (words s) i 0
  words_stay i h =
      let all : words s ≡ front ++ words (drop (4 * k) s) =
      ap words (sym (take-append-drop (4 * k) s)) ∙ words_append k (take (4 * k) s) (drop (4 * k) s) long in
      ap (λ (l : List ℕ). get_or l i 0) split
      ∙ get_or-append (front ++ order) assignment 0 i (omega (arith, order_long))
      ∙ get_or-append front order 0 i (omega (arith, front_long))
      ∙ sym (ap (λ (l : List ℕ). get_or l i 0) all ∙ get_or-append front (words (drop (4 * k) s)) 0 i (omega (arith, front_long)))

  pub order_words : (i : ℕ) → i ≤ length tasks → get_or renewed (k + i) 0 ≡ get_or order i 0
  order_words i h =
      ap (λ (l : List ℕ). get_or l (k + i) 0) split
      ∙ get_or-append (front ++ order) assignment 0 (k + i) (omega (arith, order_long))
      ∙ ap (λ (j : ℕ). get_or (front ++ order) (j + i) 0) (sym front_long)
      ∙ get_or-append-add front order i 0

  pub assignment-words : (i : ℕ) → get_or renewed (k + 1 + length tasks + i) 0 ≡ get_or assignment i 0
  assignment-words i =
      ap (λ (l : List ℕ). get_or l (k + 1 + length tasks + i) 0) split
      ∙ ap (λ (j : ℕ). get_or (front ++ order ++ assignment) (j + i) 0) (sym order_long)
      ∙ get_or-append-add (front ++ order) assignment i 0
