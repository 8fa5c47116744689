-- The pieces of what is printed, put together.
use Prim.Native.Nat.{ℕ, suc, ◌+◌, ◌*◌, ◌^◌, ◌≤◌, ◌<◌}
use mathlib.Core.Path.{◌≡◌, ◌∙◌}
use mathlib.Core.List.{List, [], ◌∷◌}
use native.Mathlib.Numerals.{add-one}
use native.Mathlib.Omega.{arith}
use lib.ListN.{length, get_or}
use Rattle.words.specs.Text.{written, place_after}
use Rattle.words.specs.Digits.{decimal, hex16}
use Rattle.words.proofs.DigitLaws.{decimal_most, length_hex}
use Rattle.writing.specs.Writing.{Put}
use Rattle.writing.proofs.WritingLaws.{put_none, put_long, put_then, put_of}
use Rattle.printing.specs.Printing.{number_text, row_text, rows_to, outcome_word, fitness_word, head_text}

-- A number, and the byte after it.
pub number_put : (line₀ : List ℕ) {line₁ line₂ : List ℕ} (at : ℕ) {next place : ℕ} (v after : ℕ) → v < 2 ^ 64 → at + 21 ≤ length line₀
    → line₁ ≡ written line₀ at (decimal v) → next ≡ place_after line₀ at (decimal v) → line₂ ≡ written line₁ next (after ∷ []) → place ≡ place_after line₁ next (after ∷ [])
    → Put line₀ at (number_text v after) line₂ place × (place ≤ at + 21)
unfolding number_text
number_put line₀ {line₁} {line₂} at {next} {place} v after small h e₁ p₁ e₂ p₂ =
    let few = decimal_most v small in
    let first : Put line₀ at (decimal v) line₁ next = put_of (omega (arith, few)) e₁ p₁ in
    let second : Put line₁ next (after ∷ []) line₂ place = put_of (omega (arith, few, first.ends, put_long first)) e₂ p₂ in
    let short : place ≤ at + 21 = omega (arith, few, first.ends, second.ends) in
    (put_then (omega (arith, short)) first second, short)

-- The lines of the outcome and of the fitness.
pub head_put : (line₀ : List ℕ) {line₁ line₂ line₃ line₄ line₅ : List ℕ} {first second third fourth place : ℕ} (outcome bits : ℕ) → 64 ≤ length line₀
    → Put line₀ 0 outcome_word line₁ first → Put line₁ first (number_text outcome 10) line₂ second → second ≤ first + 21 → Put line₂ second fitness_word line₃ third
    → line₄ ≡ written line₃ third (hex16 bits) → fourth ≡ place_after line₃ third (hex16 bits) → line₅ ≡ written line₄ fourth (10 ∷ []) → place ≡ place_after line₄ fourth (10 ∷ [])
    → Put line₀ 0 (head_text outcome bits) line₅ place × (place ≤ 64)
unfolding head_text
head_put line₀ {line₁} {line₂} {line₃} {line₄} {line₅} {first} {second} {third} {fourth} {place} outcome bits h o n short f e₄ p₄ e₅ p₅ =
    let sixteen = length_hex bits in
    let begun : first ≡ 8 = o.ends in
    let far : third ≡ second + 8 = f.ends in
    let long : length line₃ ≡ length line₀ = put_long f ∙ put_long n ∙ put_long o in
    let digits : Put line₃ third (hex16 bits) line₄ fourth = put_of (omega (arith, sixteen, begun, far, long)) e₄ p₄ in
    let broken : Put line₄ fourth (10 ∷ []) line₅ place = put_of (omega (arith, sixteen, begun, far, long, digits.ends, put_long digits)) e₅ p₅ in
    let last : place ≡ fourth + 1 = broken.ends in
    let next = digits.ends in (
      put_then (omega (arith, sixteen, begun, far, next, last))
          (put_then (omega (arith, sixteen, begun, far, next)) (put_then (omega (arith, begun, far)) (put_then (omega (arith, begun)) o n) f) digits)
          broken,
      omega (arith, sixteen, begun, far, next, last),
    )

-- ---- rows one after the other

pub record Rows (line₀ : List ℕ) (at : ℕ) (a m s e u : List ℕ) (line : List ℕ) (next i : ℕ) : Type 0 where
  pub within : i ≤ length a
  pub fits : at + 105 * length a ≤ length line₀
  pub so_far : Put line₀ at (rows_to a m s e u i) line next
  pub short : next ≤ at + 105 * i

pub no_rows : (line : List ℕ) (at : ℕ) (a m s e u : List ℕ) → at + 105 * length a ≤ length line → Rows line at a m s e u line at 0
unfolding rows_to
no_rows line at a m s e u h = record { within = omega arith; fits = h; so_far = put_none line at (omega arith); short = omega arith }

module _ {line₀ : List ℕ} {at : ℕ} {a m s e u line : List ℕ} {next i : ℕ} (k : Rows line₀ at a m s e u line next i) where
  module _ (h : i < length a) {line₁ : List ℕ} {place : ℕ} (p : Put line next (row_text (get_or a i 0) (get_or m i 0) (get_or s i 0) (get_or e i 0) (get_or u i 0)) line₁ place) (q : place ≤ next + 105) where
    one_more : Put line₀ at (rows_to a m s e u (suc i)) line₁ place
    unfolding rows_to
    one_more = put_then (omega (arith, k.short, k.fits)) k.so_far p

    pub row_next : Rows line₀ at a m s e u line₁ place (i + 1)
    row_next = record { within = omega arith; fits = k.fits; so_far = rw (add-one i) one_more; short = omega (arith, k.short) }
