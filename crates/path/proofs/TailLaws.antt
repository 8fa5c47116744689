-- Laws of the greatest span plus tail.
use Rattle.std.specs.Prelude.{None, Option, Some, ℕ}
use Prim.Native.Nat.{ℕ, suc, ◌+◌, ◌<◌, max}
use mathlib.Core.Path.{◌≡◌, refl, sym, ap, ◌∙◌}
use mathlib.Core.List.{List, [], ◌∷◌, ◌++◌}
use native.Mathlib.Omega.{arith}
use native.Mathlib.Numerals.{add-one}
use lib.ListN.{length, get_or, drop}
use lib.Seq.{drop-cons}
use Rattle.graph.specs.Links.{linked}
use Rattle.graph.specs.Shop.{greatest}
use Rattle.timing.proofs.NamedLaws.{Looking}

pub greatest-append : (f : ℕ → ℕ) (xs ys : List ℕ) (m : ℕ) → greatest f (xs ++ ys) m ≡ greatest f ys (greatest f xs m)
unfolding greatest
greatest-append f [] ys m = refl
greatest-append f (x ∷ xs) ys m = greatest-append f xs ys (max m (f x))

-- Of one link: a link to nothing, or one to an activity.
module _ (f : ℕ → ℕ) {link : Option ℕ} (m : ℕ) where
  pub no_link : link ≡ None → m ≡ greatest f (linked link) m
  unfolding greatest
  no_link e = rw e

  pub one_link : (x : ℕ) → link ≡ Some x → max m (f x) ≡ greatest f (linked link) m
  unfolding greatest
  one_link x e = rw e

-- Of a link, then of another, then of a list.
pub greatest-three : (f : ℕ → ℕ) (line task : Option ℕ) (waiting : List ℕ) {x y z : ℕ} → x ≡ greatest f (linked line) 0 → y ≡ greatest f (linked task) x
    → z ≡ greatest f waiting y → z ≡ greatest f (linked line ++ (linked task ++ waiting)) 0
greatest-three f line task waiting ex ey ez =
    ez ∙ ap (greatest f waiting) (ey ∙ ap (greatest f (linked task)) ex)
    ∙ sym (greatest-append f (linked line) (linked task ++ waiting) 0 ∙ greatest-append f (linked task) waiting (greatest f (linked line) 0))

-- One turn over a list: the longest so far is the greater of it and the next.
pub longest_again : {f : ℕ → ℕ} {list : List ℕ} {first longest i x r : ℕ} → Looking f list first longest i → i < length list → x ≡ f (get_or list i 0)
    → r ≡ max longest x → Looking f list first r (i + 1)
unfolding greatest
longest_again {f} {list} {first} {longest} {i} {x} {r} k h e q =
    let s : r ≡ max longest (f (get_or list i 0)) = q ∙ ap (max longest) e in
    record { within = omega arith; left = k.left ∙ rw (drop-cons list i 0 h, add-one i) (ap (greatest f (drop (suc i) list)) (sym s)) }
