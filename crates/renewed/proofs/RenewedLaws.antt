-- Words put one after the other, and the sections that they make.
use Prim.Native.Nat.{ℕ, zero, suc, ◌+◌, ◌*◌, ◌%◌, ◌^◌, ◌≤◌, ◌<◌}
use mathlib.Core.Path.{◌≡◌, refl, sym, ap, ap₂, ◌∙◌}
use mathlib.Core.List.{List, [], ◌∷◌, ◌++◌}
use native.Mathlib.Numerals.{add-one}
use native.Mathlib.Omega.{arith}
use lib.ListN.{length, get_or, take, length-append}
use lib.Seq.{length-take-le}
use Rattle.words.specs.Text.{written}
use Rattle.words.specs.Words.{bytes4, bytes_of, put_word}
use Rattle.words.proofs.WordLaws.{length_bytes, bytes_append}
use Rattle.writing.specs.Writing.{Put}
use Rattle.writing.proofs.WritingLaws.{written-append, written_none}
use Rattle.renewed.specs.Renewed.{low_words, section, renewed_bytes}

pub length_low : (xs : List ℕ) → length (low_words xs) ≡ length xs
unfolding low_words
length_low [] = refl
length_low (x ∷ xs) = ap suc (length_low xs)

low_next : (xs : List ℕ) (i : ℕ) → i < length xs → low_words (take (suc i) xs) ≡ low_words (take i xs) ++ get_or xs i 0 % 2 ^ 32 ∷ []
unfolding low_words
low_next [] i h = absurd (omega arith)
low_next (x ∷ xs) zero h = refl
low_next (x ∷ xs) (suc i) h = ap (λ (l : List ℕ). x % 2 ^ 32 ∷ l) (low_next xs i (omega arith))

pub record Stored (buf₀ : List ℕ) (k : ℕ) (numbers buf : List ℕ) (i : ℕ) : Type 0 where
  pub within : i ≤ length numbers
  pub fits : 4 * (k + length numbers) ≤ length buf₀
  pub so_far : buf ≡ written buf₀ (4 * k) (bytes_of (low_words (take i numbers)))

pub none_stored : (buf : List ℕ) (k : ℕ) (numbers : List ℕ) → 4 * (k + length numbers) ≤ length buf → Stored buf k numbers buf 0
unfolding low_words bytes_of
none_stored buf k numbers h = record { within = omega arith; fits = h; so_far = sym (written_none buf (4 * k) (omega arith)) }

module _ {buf₀ : List ℕ} {k : ℕ} {numbers buf : List ℕ} {i : ℕ} (st : Stored buf₀ k numbers buf i) where
  pub stored_next : i < length numbers → {buf₁ : List ℕ} {x : ℕ} → x ≡ get_or numbers i 0 % 2 ^ 32 → buf₁ ≡ put_word buf (k + i) x → Stored buf₀ k numbers buf₁ (i + 1)
  unfolding put_word bytes_of
  stored_next h {buf₁} {x} e p =
      let front : List ℕ = bytes_of (low_words (take i numbers)) in
      let long : length front ≡ 4 * i = length_bytes (low_words (take i numbers)) ∙ ap (λ (j : ℕ). 4 * j) (length_low (take i numbers) ∙ length-take-le i numbers (omega arith)) in
      let place : 4 * (k + i) ≡ 4 * k + length front = omega (arith, long) in
      record {
        within = omega arith;
        fits = st.fits;
        so_far =
            p
            ∙ ap₂ (λ (b : List ℕ) (y : ℕ). written b (4 * (k + i)) (bytes4 y)) st.so_far e
            ∙ ap (λ (j : ℕ). written (written buf₀ (4 * k) front) j (bytes4 (get_or numbers i 0 % 2 ^ 32))) place
            ∙ written-append buf₀ (4 * k) front (bytes4 (get_or numbers i 0 % 2 ^ 32)) (omega (arith, long, st.fits))
            ∙ ap (written buf₀ (4 * k)) (sym (bytes_append (low_words (take i numbers)) (get_or numbers i 0 % 2 ^ 32 ∷ [])) ∙ ap bytes_of (sym (low_next numbers i h) ∙ ap (λ (j : ℕ). low_words (take j numbers)) (sym (add-one i))));
      }

-- ---- sections

pub length-section : (xs : List ℕ) → length (section xs) ≡ 4 * (1 + length xs)
unfolding section
length-section xs = length_bytes (low_words (length xs ∷ xs)) ∙ ap (λ (j : ℕ). 4 * j) (length_low (length xs ∷ xs) ∙ omega arith)

-- A count put, and the numbers after it.
pub section_put : (buf₀ : List ℕ) {buf₁ buf₂ : List ℕ} (k : ℕ) {next w : ℕ} (xs : List ℕ) → 4 * (k + 1 + length xs) ≤ length buf₀ → w ≡ length xs % 2 ^ 32 → next ≡ k + 1 → buf₁ ≡ put_word buf₀ k w
    → buf₂ ≡ written buf₁ (4 * next) (bytes_of (low_words xs)) → buf₂ ≡ written buf₀ (4 * k) (section xs)
unfolding section low_words put_word bytes_of
section_put buf₀ {buf₁} {buf₂} k {next} {w} xs h ew en e₁ e₂ =
    let low : List ℕ = bytes_of (low_words xs) in
    let long : length low ≡ 4 * length xs = length_bytes (low_words xs) ∙ ap (λ (j : ℕ). 4 * j) (length_low xs) in
    let place : 4 * next ≡ 4 * k + 4 = omega (arith, en) in
    e₂
    ∙ ap₂ (λ (b : List ℕ) (j : ℕ). written b j low) (e₁ ∙ ap (λ (v : ℕ). written buf₀ (4 * k) (bytes4 v)) ew) place
    ∙ written-append buf₀ (4 * k) (bytes4 (length xs % 2 ^ 32)) low (omega (arith, long))

-- ---- the whole

module _ (k : ℕ) (before tasks machines : List ℕ) (words : length before ≡ 4 * k) where
  pub length_renewed : length (renewed_bytes before tasks machines) ≡ 4 * (k + 1 + length tasks + 1 + length machines)
  unfolding renewed_bytes
  length_renewed =
      length-append (before ++ section tasks) (section machines)
      ∙ omega (arith, words, length-append before (section tasks), length-section tasks, length-section machines)

  pub renewed_put : (buf₀ : List ℕ) {buf₁ buf₂ buf₃ : List ℕ} {next place : ℕ} → 4 * (k + 2 + length tasks + length machines) ≤ length buf₀ → Put buf₀ 0 before buf₁ place
      → buf₂ ≡ written buf₁ (4 * k) (section tasks) → next ≡ k + 1 + length tasks → buf₃ ≡ written buf₂ (4 * next) (section machines)
      → buf₃ ≡ written buf₀ 0 (renewed_bytes before tasks machines)
  unfolding renewed_bytes
  renewed_put buf₀ {buf₁} {buf₂} {buf₃} {next} h p e₂ en e₃ =
      let t = length-section tasks in
      let m = length-section machines in
      let both : List ℕ = before ++ section tasks in
      let first : 4 * k ≡ 0 + length before = omega (arith, words) in
      let long : 4 * next ≡ 0 + length both = omega (arith, length-append before (section tasks), t, words, en) in
      let second : buf₂ ≡ written buf₀ 0 both =
      e₂ ∙ ap₂ (λ (b : List ℕ) (j : ℕ). written b j (section tasks)) p.holds first
      ∙ written-append buf₀ 0 before (section tasks) (omega (arith, t, words)) in
      e₃ ∙ ap₂ (λ (b : List ℕ) (j : ℕ). written b j (section machines)) second long
      ∙ written-append buf₀ 0 both (section machines) (omega (arith, long, m, en))
