-- The longest way through an activity: what is before it, and what is behind it. Assumes nothing.
use Rattle.std.specs.Prelude.{None, Option, Some, ℕ}
use mathlib.Core.Path.{◌≡◌, sym, ap, ◌∙◌}
use mathlib.Core.Bool.{Bool, true, false}
use mathlib.Core.List.{List, [], ◌∷◌, ◌++◌}
use Prim.Native.Nat.{ℕ, zero, suc, ◌+◌, ◌<◌, max}
use native.Mathlib.Omega.{arith}
use native.Mathlib.Numerals.{add-one}
use Rattle.graph.specs.Counting.{Below}
use Rattle.graph.specs.Links.{linked}
use Rattle.graph.specs.Shop.{greatest}
use Rattle.bounds.specs.Bounds.{arrival_of}
use Rattle.path.proofs.TailLaws.{greatest-append}
use Rattle.reassign.specs.Reassignments.{any_from}

-- ---- the greatest of some

-- an arrival without a way is the greatest over a link
pub arrival_greatest : (f : ℕ → ℕ) (link : Option ℕ) (m : ℕ) → max m (arrival_of link f 0) ≡ greatest f (linked link) m
unfolding greatest
arrival_greatest f (Some t) m = omega arith
arrival_greatest f None m = omega arith

pub greatest_under : (f : ℕ → ℕ) (n k : ℕ) (l : List ℕ) (m : ℕ) → m < k → Below n l → ((x : ℕ) → x < n → f x < k) → greatest f l m < k
unfolding greatest Below
greatest_under f n k [] m h b w = h
greatest_under f n k (x ∷ l) m h b w = greatest_under f n k l (max m (f x)) (omega (arith, w x b.0)) b.1 w

-- over a link, then over a list
pub greatest-two : (f : ℕ → ℕ) (link : Option ℕ) (l : List ℕ) (m : ℕ) {x y : ℕ} → x ≡ greatest f (linked link) m → y ≡ greatest f l x
    → y ≡ greatest f (linked link ++ l) m
greatest-two f link l m ex ey = ey ∙ ap (greatest f l) ex ∙ sym (greatest-append f (linked link) l m)

-- ---- whether any passes

module _ (test : ℕ → Bool) where
  pub any_here : (count at : ℕ) → 0 < count → test at ≡ true → any_from test count at ≡ true
  unfolding any_from
  any_here zero at h e = absurd (omega arith)
  any_here (suc count) at h e = rw e

  pub any_next : (count count' at : ℕ) → count ≡ suc count' → test at ≡ false → any_from test count at ≡ any_from test count' (at + 1)
  unfolding any_from
  any_next count count' at c e = rw (c, e, add-one at)

  pub any_none : (count at : ℕ) → count ≡ 0 → any_from test count at ≡ false
  unfolding any_from
  any_none count at c = rw c

-- over a list, then over a link
pub greatest_then : (f : ℕ → ℕ) (l : List ℕ) (link : Option ℕ) (m : ℕ) {x y : ℕ} → x ≡ greatest f l m → y ≡ greatest f (linked link) x
    → y ≡ greatest f (l ++ linked link) m
greatest_then f l link m ex ey = ey ∙ ap (greatest f (linked link)) ex ∙ sym (greatest-append f l (linked link) m)
