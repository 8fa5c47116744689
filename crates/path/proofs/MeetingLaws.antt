-- The first of a list that passes a test, one turn of its loop; and what a link that meets a start is.
use Rattle.std.specs.Prelude.{None, Option, Some, ℕ}
use Prim.Native.Nat.{ℕ, ◌+◌, ◌≤◌, ◌<◌}
use mathlib.Core.Path.{◌≡◌, sym, ap, ◌∙◌}
use mathlib.Core.List.{List, [], ◌∷◌}
use mathlib.Core.Bool.{Bool, true, false}
use mathlib.Core.Logic.{◌⊎◌, inl, inr, ⊎_elim}
use native.Mathlib.Omega.{arith}
use native.Mathlib.Numerals.{add-one}
use lib.ListN.{length, get_or, drop}
use lib.Seq.{drop-cons, drop-length}
use Rattle.graph.specs.Counting.{count_of}
use Rattle.graph.specs.Links.{to_if}
use Rattle.graph.proofs.CountingLaws.{hit-eq}
use Rattle.path.specs.Path.{or_else, first_meeting}
use Rattle.path.proofs.NeighbourLaws.{nothing_to, to_is}

pub record Passing (test : ℕ → Bool) (named : List ℕ) (i : ℕ) : Type 0 where
  pub within : i ≤ length named
  pub left : first_meeting test (drop i named) ≡ first_meeting test named

module _ {test : ℕ → Bool} {named : List ℕ} {i : ℕ} (k : Passing test named i) where
  pub none_met : length named ≤ i → None ≡ first_meeting test named
  unfolding first_meeting
  none_met h =
      let e : i ≡ length named = omega (arith, k.within) in
      let d : drop i named ≡ [] = ap (λ (j : ℕ). drop j named) e ∙ drop-length named in
      ap (first_meeting test) (sym d) ∙ k.left

  module _ (h : i < length named) where
    next : or_else (to_if (test (get_or named i 0)) (get_or named i 0)) (first_meeting test (drop (i + 1) named)) ≡ first_meeting test named
    unfolding first_meeting
    next = rw (add-one i) (ap (first_meeting test) (sym (drop-cons named i 0 h)) ∙ k.left)

    pub met : test (get_or named i 0) ≡ true → Some (get_or named i 0) ≡ first_meeting test named
    met e = rw e at next

    pub passed : test (get_or named i 0) ≡ false → Passing test named (i + 1)
    passed e = record { within = omega arith; left = rw e at next }

-- Two links, of which the first is asked first.
pub second : (first : Option ℕ) {other r : Option ℕ} → first ≡ None → r ≡ other → r ≡ or_else first other
second first e g = rw e g

pub first_to : (first other : Option ℕ) (b : ℕ) → first ≡ Some b → Some b ≡ or_else first other
first_to first other b e = rw e

pub either_link : (first other : Option ℕ) (q : ℕ) → or_else first other ≡ Some q → (first ≡ Some q) ⊎ (other ≡ Some q)
either_link (Some b) other q e = inl e
either_link None other q e = inr e

-- The first of a list that passes is one of it.
pub first-named : (test : ℕ → Bool) (named : List ℕ) (q : ℕ) → first_meeting test named ≡ Some q → 0 < count_of q named
unfolding first_meeting count_of
first-named test [] q e = absurd (nothing_to e)
first-named test (b ∷ named) q e =
    let deeper = first-named test named q in
    ⊎_elim (λ x. omega (arith, hit-eq b q (to_is (test b) b q x).1)) (λ y. omega (arith, deeper y)) (either_link (to_if (test b) b) (first_meeting test named) q e)
