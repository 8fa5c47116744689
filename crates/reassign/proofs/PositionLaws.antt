-- Positions on a line: how many lead it, who stands at one, and which has the least length. Assumes nothing.
use mathlib.Core.Path.{◌≡◌, refl, ap, ◌∙◌}
use mathlib.Core.Bool.{Bool, true, false, cond}
use mathlib.Core.List.{List, [], ◌∷◌}
use Prim.Native.Nat.{ℕ, zero, suc, ◌+◌, ◌-◌, ◌≤◌, ◌<◌}
use native.Mathlib.Omega.{arith}
use native.Mathlib.Numerals.{add-one}
use borrow.Author.Tests.{lt-ltb, le-ltb, ltb-true}
use lib.Dec.{ltb}
use lib.ListN.{length, get_or, drop}
use lib.Seq.{drop-cons, drop-length}
use Rattle.graph.specs.Counting.{Below}
use Rattle.graph.specs.Links.{linked, to_if}
use Rattle.graph.proofs.CountingLaws.{below_at}
use Rattle.reassign.specs.declared.Spot.{Spot}
use Rattle.reassign.specs.Reassignments.{leading, line_at, line_before, least, least_of, spot_of}

-- ---- how many lead a line

-- all before i pass, and what leads from there on is the rest
pub record Leading (test : ℕ → Bool) (line : List ℕ) (i : ℕ) : Type 0 where
  pub within : i ≤ length line
  pub left : i + leading test (drop i line) ≡ leading test line

module _ {test : ℕ → Bool} {line : List ℕ} {i : ℕ} (k : Leading test line i) where
  next : i < length line → i + cond (test (get_or line i 0)) (suc (leading test (drop (suc i) line))) 0 ≡ leading test line
  unfolding leading
  next h = rw (drop-cons line i 0 h) at k.left

  pub leading_stop : i < length line → test (get_or line i 0) ≡ false → i ≡ leading test line
  leading_stop h e = let q = rw e at (next h) in omega arith

  pub leading_again : i < length line → test (get_or line i 0) ≡ true → Leading test line (i + 1)
  leading_again h e = record { within = omega arith; left = let q = rw e at (next h) in rw (add-one i) (omega arith) }

  pub leading_end : length line ≤ i → length line ≡ leading test line
  unfolding leading
  leading_end h =
      let e : i ≡ length line = omega (arith, k.within) in
      let d : drop i line ≡ [] = ap (λ (j : ℕ). drop j line) e ∙ drop-length line in
      let q = rw d at k.left in
      omega arith

pub leading_few : (test : ℕ → Bool) (line : List ℕ) → leading test line ≤ length line
unfolding leading
leading_few test [] = omega arith
leading_few test (x ∷ line) = by_test (test x) (leading_few test line)
  where
    by_test : (t : Bool) → leading test line ≤ length line → cond t (suc (leading test line)) 0 ≤ suc (length line)
    by_test true h = omega arith
    by_test false h = omega arith

-- ---- who stands at a position

if_below : (n x : ℕ) (t : Bool) → (t ≡ true → x < n) → Below n (linked (to_if t x))
unfolding Below
if_below n x true h = (h refl, tt)
if_below n x false h = tt

pub at_below : (n : ℕ) (line : List ℕ) (i : ℕ) → Below n line → Below n (linked (line_at line i))
at_below n line i b =
    if_below n (get_or line i 0) (ltb i (length line)) (λ e. below_at n line i b (ltb-true i (length line) e))

pub before_below : (n : ℕ) (line : List ℕ) (i : ℕ) → Below n line → Below n (linked (line_before line i))
unfolding Below
before_below n line zero b = tt
before_below n line (suc i) b = at_below n line i b

-- ---- the least length

-- the least so far, with what is left from the next up to the last, gives the least of all
pub record Choosing (f : ℕ → ℕ) (first last place long i : ℕ) : Type 0 where
  pub is : long ≡ f place
  pub left : least f place i (suc last - i) ≡ least_of f first last

module _ {f : ℕ → ℕ} {first last place long i : ℕ} (k : Choosing f first last place long i) where
  pub chosen : last + 1 ≤ i → ◌≡◌ {A = Spot} (record { length = long; place = place }) (spot_of f first last)
  unfolding least
  chosen h =
      let z : suc last - i ≡ 0 = omega arith in
      let e : place ≡ least_of f first last = rw z at k.left in
      rw (k.is, e)

  module _ (h : i < last + 1) where
    step : least f (cond (ltb (f i) (f place)) i place) (suc i) (suc last - suc i) ≡ least_of f first last
    unfolding least
    step = let e : suc last - i ≡ suc (suc last - suc i) = omega arith in rw e at k.left

    pub shorter : {x : ℕ} → x ≡ f i → x < long → Choosing f first last i x (i + 1)
    shorter e l =
        let t : ltb (f i) (f place) ≡ true = lt-ltb (f i) (f place) (omega (arith, k.is, e)) in
        record { is = e; left = rw (add-one i) (rw t at step) }

    pub no_shorter : {x : ℕ} → x ≡ f i → long ≤ x → Choosing f first last place long (i + 1)
    no_shorter e l =
        let t : ltb (f i) (f place) ≡ false = le-ltb (f i) (f place) (omega (arith, k.is, e)) in
        record { is = k.is; left = rw (add-one i) (rw t at step) }
