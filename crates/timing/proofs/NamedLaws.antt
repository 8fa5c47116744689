-- One turn of the loop over those that are named: the greatest of what is left and of the latest so far stays the same.
use Prim.Native.Nat.{ℕ, ◌+◌, ◌≤◌, ◌<◌, max}
use mathlib.Core.Path.{◌≡◌, sym, ap, ◌∙◌}
use mathlib.Core.List.{List, []}
use native.Mathlib.Omega.{arith}
use native.Mathlib.Numerals.{add-one}
use lib.ListN.{length, get_or, drop}
use lib.Seq.{drop-cons, drop-length}
use Rattle.graph.specs.Shop.{greatest}

pub record Looking (f : ℕ → ℕ) (named : List ℕ) (first latest i : ℕ) : Type 0 where
  pub within : i ≤ length named
  pub left : greatest f named first ≡ greatest f (drop i named) latest

module _ {f : ℕ → ℕ} {named : List ℕ} {first latest i : ℕ} (k : Looking f named first latest i) where
  pub looked : length named ≤ i → latest ≡ greatest f named first
  unfolding greatest
  looked h =
      let e : i ≡ length named = omega (arith, k.within) in
      let d : drop i named ≡ [] = ap (λ (j : ℕ). drop j named) e ∙ drop-length named in
      sym (k.left ∙ ap (λ (l : List ℕ). greatest f l latest) d)

  module _ (h : i < length named) where
    next : greatest f named first ≡ greatest f (drop (i + 1) named) (max latest (f (get_or named i 0)))
    unfolding greatest
    next = k.left ∙ rw (drop-cons named i 0 h, add-one i)

    pub greater : Looking f named first (max latest (f (get_or named i 0))) (i + 1)
    greater = record { within = omega arith; left = next }

    pub later : latest < f (get_or named i 0) → Looking f named first (f (get_or named i 0)) (i + 1)
    later l =
        let e : max latest (f (get_or named i 0)) ≡ f (get_or named i 0) = omega arith in
        record { within = omega arith; left = next ∙ ap (greatest f (drop (i + 1) named)) e }

    pub no_later : f (get_or named i 0) ≤ latest → Looking f named first latest (i + 1)
    no_later l =
        let e : max latest (f (get_or named i 0)) ≡ latest = omega arith in
        record { within = omega arith; left = next ∙ ap (greatest f (drop (i + 1) named)) e }
