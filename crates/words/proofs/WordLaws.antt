-- Laws of stored words: how many there are, which four bytes each is made of, what a put word changes, and that bytes and words give each
-- other back.
use Prim.Native.Nat.{ℕ, zero, suc, ◌+◌, ◌*◌, ◌/◌, ◌%◌, ◌<◌, ◌≤◌, ◌^◌}
use mathlib.Core.Path.{◌≡◌, refl, sym, ◌∙◌, ap, ap₂}
use mathlib.Core.Logic.{◌≢◌}
use mathlib.Core.Bool.{Bool, true, false}
use mathlib.Core.List.{List, [], ◌∷◌, ◌++◌, append_assoc}
use native.Mathlib.Omega.{arith}
use borrow.Author.Tests.{ltb-true, ltb-false, le-leb}
use lib.Dec.{ltb}
use lib.ListN.{length, get_or, set, take, drop, length-append, get_or-eq_default}
use lib.Seq.{sets, drop-drop, sets-eq, set_out, get_or-set_same, get_or-set_other}
use borrow.Rule.Slice.PartMut.{put_mid}
use Rattle.std.specs.Int.{w32, to_le_bytes, from_le_bytes}
use Rattle.words.specs.Text.{written}
use Rattle.words.specs.Words.{le32, bytes4, words, bytes_of, put_word, Below}
use Rattle.words.proofs.TextLaws.{written-fits, written_full, length-written}

-- ---- std's bytes of a word

pub bytes_low : (w : ℕ) → w < 2 ^ 32 → to_le_bytes w32 w ≡ bytes4 w
bytes_low w h = ap (λ (d : ℕ). w % 256 ∷ w / 256 % 256 ∷ w / 65536 % 256 ∷ d ∷ []) (omega arith)

pub word_low : (a b c d : ℕ) → from_le_bytes w32 (a ∷ b ∷ c ∷ d ∷ []) ≡ le32 a b c d
word_low a b c d = omega arith

-- ---- reading

pub length-words : (s : List ℕ) → length (words s) ≡ length s / 4
unfolding words
length-words [] = refl
length-words (a ∷ []) = refl
length-words (a ∷ b ∷ []) = refl
length-words (a ∷ b ∷ c ∷ []) = refl
length-words (a ∷ b ∷ c ∷ d ∷ s) = omega (arith, length-words s)

four : (k : ℕ) → 4 * suc k ≡ suc (suc (suc (suc (4 * k))))
four k = omega arith

four_on : (k n : ℕ) → 4 * suc k + n ≡ suc (suc (suc (suc (4 * k + n))))
four_on k n = omega arith

pub words_at : (s : List ℕ) (k : ℕ) → k < length s / 4
    → get_or (words s) k 0 ≡ le32 (get_or s (4 * k) 0) (get_or s (4 * k + 1) 0) (get_or s (4 * k + 2) 0) (get_or s (4 * k + 3) 0)
unfolding words
words_at [] k h = omega arith
words_at (a ∷ []) k h = omega arith
words_at (a ∷ b ∷ []) k h = omega arith
words_at (a ∷ b ∷ c ∷ []) k h = omega arith
words_at (a ∷ b ∷ c ∷ d ∷ s) zero h = refl
words_at (a ∷ b ∷ c ∷ d ∷ s) (suc k) h = rw (four_on k 1, four_on k 2, four_on k 3, four k) (words_at s k (omega arith))

pub words_past : (s : List ℕ) (k : ℕ) → length s / 4 ≤ k → get_or (words s) k 0 ≡ 0
words_past s k h = get_or-eq_default (words s) 0 (omega (arith, length-words s))

-- Four bytes make a word below 2^32.
pub words_below : (s : List ℕ) → Below 256 s → Below (2 ^ 32) (words s)
unfolding words
words_below [] h = tt
words_below (a ∷ []) h = tt
words_below (a ∷ b ∷ []) h = tt
words_below (a ∷ b ∷ c ∷ []) h = tt
words_below (a ∷ b ∷ c ∷ d ∷ s) h = (omega arith, words_below s h.1.1.1.1)

-- ---- what every number of a list being below n gives, and how it is shown

pub below_at : (n : ℕ) (s : List ℕ) (k : ℕ) → 0 < n → Below n s → get_or s k 0 < n
below_at n [] k p h = p
below_at n (a ∷ s) zero p h = h.0
below_at n (a ∷ s) (suc k) p h = below_at n s k p h.1

pub below_all : (n : ℕ) (s : List ℕ) → ((k : ℕ) → k < length s → get_or s k 0 < n) → Below n s
below_all n [] h = tt
below_all n (a ∷ s) h = (h 0 (omega arith), below_all n s (λ k l. h (suc k) (omega arith)))

pub below_append : (n : ℕ) (s t : List ℕ) → Below n s → Below n t → Below n (s ++ t)
below_append n [] t h g = g
below_append n (a ∷ s) t h g = (h.0, below_append n s t h.1 g)

-- ---- bytes and words give each other back

pub length_bytes : (ws : List ℕ) → length (bytes_of ws) ≡ 4 * length ws
unfolding bytes_of
length_bytes [] = refl
length_bytes (w ∷ ws) = omega (arith, length_bytes ws)

pub bytes_append : (xs ys : List ℕ) → bytes_of (xs ++ ys) ≡ bytes_of xs ++ bytes_of ys
unfolding bytes_of
bytes_append [] ys = refl
bytes_append (x ∷ xs) ys = rw (bytes_append xs ys)

pub bytes_below : (ws : List ℕ) → Below (2 ^ 32) ws → Below 256 (bytes_of ws)
unfolding bytes_of
bytes_below [] h = tt
bytes_below (w ∷ ws) h = (omega arith, (omega arith, (omega arith, (omega arith, bytes_below ws h.1))))

whole : (w : ℕ) → le32 (w % 256) (w / 256 % 256) (w / 65536 % 256) (w / 16777216) ≡ w
whole w = omega arith

pub words_bytes : (ws : List ℕ) → words (bytes_of ws) ≡ ws
unfolding words bytes_of
words_bytes [] = refl
words_bytes (w ∷ ws) = ap₂ ◌∷◌ (whole w) (words_bytes ws)

pub bytes_words : (s : List ℕ) → Below 256 s → length s % 4 ≡ 0 → bytes_of (words s) ≡ s
unfolding words bytes_of
bytes_words [] h l = refl
bytes_words (a ∷ []) h l = absurd (omega arith)
bytes_words (a ∷ b ∷ []) h l = absurd (omega arith)
bytes_words (a ∷ b ∷ c ∷ []) h l = absurd (omega arith)
bytes_words (a ∷ b ∷ c ∷ d ∷ s) h l =
    let w : ℕ = le32 a b c d in
    let first : w % 256 ≡ a = omega arith in
    let above_first : w / 256 ≡ b + 256 * c + 65536 * d = omega arith in
    let above_second : w / 65536 ≡ c + 256 * d = omega arith in
    let second : w / 256 % 256 ≡ b = rw above_first (omega arith) in
    let third : w / 65536 % 256 ≡ c = rw above_second (omega arith) in
    let fourth : w / 16777216 ≡ d = omega arith in
    ap₂ ◌∷◌ first (ap₂ ◌∷◌ second (ap₂ ◌∷◌ third (ap₂ ◌∷◌ fourth (bytes_words s h.1.1.1.1 (omega arith)))))

-- ---- a put word

words-sets : (s : List ℕ) (k w : ℕ) → k < length s / 4 → words (sets s (4 * k) (bytes4 w)) ≡ set (words s) k w
unfolding words
words-sets [] k w h = absurd (omega arith)
words-sets (a ∷ []) k w h = absurd (omega arith)
words-sets (a ∷ b ∷ []) k w h = absurd (omega arith)
words-sets (a ∷ b ∷ c ∷ []) k w h = absurd (omega arith)
words-sets (a ∷ b ∷ c ∷ d ∷ s) zero w h = ap (λ (v : ℕ). v ∷ words s) (whole w)
words-sets (a ∷ b ∷ c ∷ d ∷ s) (suc k) w h = rw (four k) (ap (λ (ws : List ℕ). le32 a b c d ∷ ws) (words-sets s k w (omega arith)))

module _ (s : List ℕ) (k w : ℕ) where
  pub put_fits : k < length s / 4 → put_word s k w ≡ sets s (4 * k) (bytes4 w)
  unfolding put_word
  put_fits h = written-fits s (4 * k) (bytes4 w) (omega arith)

  pub put_past : length s / 4 ≤ k → put_word s k w ≡ s
  unfolding put_word
  put_past h = written_full s (4 * k) (bytes4 w) (omega arith)

  -- A word's four bytes over a part put it.
  pub put_part : {part : List ℕ} {n : ℕ} → k < length s / 4 → n ≡ 4 → part ≡ bytes4 w → put_mid (4 * k) n s part ≡ put_word s k w
  unfolding put_word written
  put_part h en ep =
      rw (en, ep, le-leb (4 * k + 4) (length s) (omega arith))
      (ap (λ (l : List ℕ). take (4 * k) s ++ (bytes4 w ++ l)) (drop-drop 4 (4 * k) s) ∙ sym (append_assoc (take (4 * k) s) (bytes4 w) (drop (4 * k + 4) s)))

  pub length_put : length (put_word s k w) ≡ length s
  unfolding put_word
  length_put = length-written s (4 * k) (bytes4 w)

  -- Of the words, word k alone is replaced.
  pub words_put : words (put_word s k w) ≡ set (words s) k w
  words_put = by_room (ltb k (length s / 4)) refl
    where
      by_room : (b : Bool) → ltb k (length s / 4) ≡ b → words (put_word s k w) ≡ set (words s) k w
      by_room true e = let h = ltb-true k (length s / 4) e in ap words (put_fits h) ∙ words-sets s k w h
      by_room false e =
          let h = ltb-false k (length s / 4) e in
          ap words (put_past h) ∙ sym (set_out (words s) k w (omega (arith, length-words s)))

  pub put_here : k < length s / 4 → get_or (words (put_word s k w)) k 0 ≡ w
  put_here h = rw words_put (get_or-set_same (words s) k w 0 (omega (arith, length-words s)))

  pub put_elsewhere : (j : ℕ) → j ≢ k → get_or (words (put_word s k w)) j 0 ≡ get_or (words s) j 0
  put_elsewhere j h = rw words_put (get_or-set_other (words s) k j w 0 h)

-- A word put after the bytes of others: how words are written one after the other.
sets-after : (ws s : List ℕ) (w : ℕ) → sets (bytes_of ws ++ s) (4 * length ws) (bytes4 w) ≡ bytes_of ws ++ sets s 0 (bytes4 w)
unfolding bytes_of
sets-after [] s w = refl
sets-after (x ∷ ws) s w = rw (four (length ws)) (ap (λ (l : List ℕ). bytes4 x ++ l) (sets-after ws s w))

pub put_after : (ws s : List ℕ) (w : ℕ) → 4 ≤ length s → put_word (bytes_of ws ++ s) (length ws) w ≡ bytes_of (ws ++ w ∷ []) ++ drop 4 s
unfolding bytes_of
put_after ws s w h =
    put_fits (bytes_of ws ++ s) (length ws) w (omega (arith, length-append (bytes_of ws) s, length_bytes ws))
    ∙ sets-after ws s w
    ∙ rw (bytes_append ws (w ∷ []), append_assoc) (ap (λ (l : List ℕ). bytes_of ws ++ l) (sets-eq (bytes4 w) s 0 h))

-- ---- an example, computed: one whole word, and a byte that is in none

pub words_of_five : words (1 ∷ 2 ∷ 3 ∷ 4 ∷ 5 ∷ []) ≡ 67305985 ∷ []
unfolding words
words_of_five = refl
