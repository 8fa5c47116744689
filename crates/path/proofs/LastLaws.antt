-- One turn of the loop that looks for the greatest end: what is left, from the last so far, gives the same activity.
use Rattle.std.specs.Prelude.{Some}
use Rattle.std.proofs.Common.{length-drop}
use Rattle.std.proofs.lemmas.Grind.{get_or_after_one}
use Rattle.std.proofs.lemmas.List.{take_all}
use Prim.Native.Nat.{ℕ, ◌+◌, ◌-◌, ◌≤◌, ◌<◌}
use mathlib.Core.Path.{◌≡◌, refl, sym, ap, ◌∙◌}
use mathlib.Core.List.{List, [], ◌∷◌}
use mathlib.Core.Bool.{Bool, true, false, cond}
use native.Mathlib.Omega.{arith}
use native.Mathlib.Numerals.{add-one}
use borrow.Author.Tests.{le-leb, lt-leb}
use lib.Dec.{leb}
use lib.ListN.{length, get_or, take, drop}
use lib.Seq.{drop-cons, drop-length}
use Rattle.graph.specs.Counting.{Below}
use Rattle.graph.proofs.CountingLaws.{below_at}
use Rattle.path.specs.Path.{last_from, last_to_end}
use Rattle.path.proofs.NeighbourLaws.{nothing_to}

pub record Seeking (order ends : List ℕ) (last i : ℕ) : Type 0 where
  pub within : i ≤ length order
  pub known : last < length ends
  pub left : last_from ends last (drop i order) ≡ last_from ends (get_or order 0 0) (drop 1 order)

rest_is : (l : List ℕ) → take (length l - 1) (drop 1 l) ≡ drop 1 l
rest_is l = take_all (length l - 1) (drop 1 l) (omega (arith, length-drop 1 l))

pub rest_at : (l : List ℕ) (i : ℕ) → get_or (take (length l - 1) (drop 1 l)) i 0 ≡ get_or l (i + 1) 0
rest_at l i =
    let e : 1 + i ≡ i + 1 = omega arith in
    ap (λ (m : List ℕ). get_or m i 0) (rest_is l) ∙ get_or_after_one l i 0 ∙ ap (λ (k : ℕ). get_or l k 0) e

pub rest_length : (l : List ℕ) → length (take (length l - 1) (drop 1 l)) ≡ length l - 1
rest_length l = ap length (rest_is l) ∙ length-drop 1 l

pub starts_with : (order ends : List ℕ) → 0 < length order → last_to_end order ends ≡ Some (last_from ends (get_or order 0 0) (drop 1 order))
starts_with [] ends h = absurd (omega arith)
starts_with (a ∷ order) ends h = refl

module _ {order ends : List ℕ} (some : 0 < length order) (below : Below (length ends) order) where
  pub begin : Seeking order ends (get_or order 0 0) 1
  begin = record { within = omega arith; known = below_at (length ends) order 0 below some; left = refl }

  module _ {last i : ℕ} (k : Seeking order ends last i) where
    pub found : length order ≤ i → last_to_end order ends ≡ Some last
    unfolding last_from
    found h =
        let e : i ≡ length order = omega (arith, k.within) in
        let d : drop i order ≡ [] = ap (λ (j : ℕ). drop j order) e ∙ drop-length order in
        let f : last ≡ last_from ends (get_or order 0 0) (drop 1 order) = ap (last_from ends last) (sym d) ∙ k.left in
        starts_with order ends some ∙ ap Some (sym f)

    module _ (h : i < length order) where
      pub next_known : get_or order i 0 < length ends
      next_known = below_at (length ends) order i below h

      next : last_from ends (cond (leb (get_or ends last 0) (get_or ends (get_or order i 0) 0)) (get_or order i 0) last) (drop (i + 1) order)
          ≡ last_from ends (get_or order 0 0) (drop 1 order)
      unfolding last_from
      next = rw (add-one i) (ap (last_from ends last) (sym (drop-cons order i 0 h)) ∙ k.left)

      pub later : get_or ends last 0 ≤ get_or ends (get_or order i 0) 0 → Seeking order ends (get_or order i 0) (i + 1)
      later l = record { within = omega arith; known = next_known; left = rw (le-leb _ _ l) at next }

      pub kept : get_or ends (get_or order i 0) 0 < get_or ends last 0 → Seeking order ends last (i + 1)
      kept l = record { within = omega arith; known = k.known; left = rw (lt-leb _ _ l) at next }

-- ---- it is one of the order

chosen : (n : ℕ) (t : Bool) (b a : ℕ) → b < n → a < n → cond t b a < n
chosen n true b a h k = h
chosen n false b a h k = k

from_below : (n : ℕ) (ends : List ℕ) (a : ℕ) (order : List ℕ) → a < n → Below n order → last_from ends a order < n
unfolding last_from Below
from_below n ends a [] h w = h
from_below n ends a (b ∷ order) h w =
    from_below n ends (cond (leb (get_or ends a 0) (get_or ends b 0)) b a) order (chosen n (leb (get_or ends a 0) (get_or ends b 0)) b a w.0 h) w.1

pub last_below : (n : ℕ) (order ends : List ℕ) → Below n order → (r : ℕ) → last_to_end order ends ≡ Some r → r < n
unfolding Below
last_below n [] ends w r e = absurd (nothing_to e)
last_below n (a ∷ order) ends w r e =
    let z : last_from ends a order ≡ r = cc in
    omega (arith, z, from_below n ends a order w.0 w.1)
