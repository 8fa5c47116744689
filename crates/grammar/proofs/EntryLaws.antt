-- Laws of the rules about entries: one turn of each search, and that a pair given twice is found among its activity's own entries.
use Prim.Native.Nat.{ℕ, zero, suc, ◌+◌, ◌-◌, ◌*◌, ◌≤◌, ◌<◌}
use mathlib.Core.Path.{◌≡◌, refl, sym, ap, ◌∙◌, subst}
use mathlib.Core.Bool.{Bool, true, false, ◌&&◌, ◌||◌}
use mathlib.Core.List.{List}
use native.Mathlib.Omega.{arith}
use lib.Dec.{eqb, ltb}
use Rattle.std.proofs.Math.Bool.{or-false}
use lib.ListN.{get_or}
use borrow.Author.Tests.{eq-eqb, ne_eqb, le-ltb, leb-true}
use Rattle.grammar.specs.Rules.{rising, pair_before, precedes, Risen, total_from}

-- A count that is not 0 is one more than another.
one_more : (n : ℕ) → 0 < n → n ≡ suc (n - 1)
one_more n h = omega arith

-- What rising says of an entry that has one before it.
pub risen_to : (ws : List ℕ) (w done at : ℕ) → rising ws w done at ≡ true → 0 < done → get_or ws (at - w) 0 ≤ get_or ws at 0
risen_to ws w done at e h = leb-true _ _ (go (eqb done 0) _ (ne_eqb done 0 (λ z. omega arith)) e)
  where
    go : (b x : Bool) → b ≡ false → (b || x) ≡ true → x ≡ true
    go false x p q = q
    go true x p q = cc

module _ (ws : List ℕ) (w : ℕ) where
  pub risen_before : (done at : ℕ) → Risen ws w done at → 0 < done → (rising ws w (done - 1) (at - w) ≡ true) × Risen ws w (done - 1) (at - w)
  unfolding Risen
  risen_before zero at r h = absurd (omega arith)
  risen_before (suc done) at r h = let e : suc done - 1 ≡ done = omega arith in rw e r

  pub risen_next : (done at next : ℕ) → next ≡ at + w → rising ws w done at ≡ true → Risen ws w done at → Risen ws w (done + 1) next
  unfolding Risen
  risen_next done at next e q r =
      let k : done + 1 ≡ suc done = omega arith in
      let b : next - w ≡ at = omega arith in
      subst (λ (n : ℕ). Risen ws w n next) (sym k) (subst (λ (n : ℕ). (rising ws w done n ≡ true) × Risen ws w done n) (sym b) (q, r))

  pub risen_none : (at : ℕ) → Risen ws w 0 at
  unfolding Risen
  risen_none at = tt

  module _ (a m : ℕ) where
    pair_step : (done at : ℕ) → 0 < done
        → pair_before ws w done at a m ≡ ((eqb (get_or ws (at - w) 0) a && eqb (get_or ws (at - w + 1) 0) m) || pair_before ws w (done - 1) (at - w) a m)
    unfolding pair_before
    pair_step done at h = ap (λ (n : ℕ). pair_before ws w n at a m) (one_more done h)

    -- The entry before is the pair.
    pub pair_found : (done at : ℕ) → 0 < done → get_or ws (at - w) 0 ≡ a → get_or ws (at - w + 1) 0 ≡ m → pair_before ws w done at a m ≡ true
    pair_found done at h p q = pair_step done at h ∙ rw (eq-eqb _ _ p, eq-eqb _ _ q)

    -- The entry before is of the activity, on another machine.
    pub pair_passed : (done at : ℕ) → 0 < done → get_or ws (at - w) 0 ≡ a → (get_or ws (at - w + 1) 0 ≡ m → ⊥)
        → pair_before ws w done at a m ≡ pair_before ws w (done - 1) (at - w) a m
    pair_passed done at h p q = pair_step done at h ∙ rw (eq-eqb _ _ p, ne_eqb _ _ q)

    pub pair_none : (done at : ℕ) → done ≤ 0 → pair_before ws w done at a m ≡ false
    unfolding pair_before
    pair_none done at h = let e : done ≡ 0 = omega arith in ap (λ (n : ℕ). pair_before ws w n at a m) e

    -- Entries that have risen to less than a hold no pair of a.
    below_none : (done at : ℕ) → Risen ws w done at → (0 < done → get_or ws (at - w) 0 < a) → pair_before ws w done at a m ≡ false
    unfolding Risen pair_before
    below_none zero at r l = refl
    below_none (suc done) at r l =
        let h = l (omega arith) in
        rw (ne_eqb (get_or ws (at - w) 0) a (λ e. omega arith))
        (below_none done (at - w) r.1 (λ k. omega (arith, risen_to ws w done (at - w) r.0 k)))

    -- The entry before is of another activity: none before it is of this one.
    pub pair_ended : (done at : ℕ) → 0 < done → Risen ws w done at → get_or ws (at - w) 0 ≤ a → (get_or ws (at - w) 0 ≡ a → ⊥)
        → pair_before ws w done at a m ≡ false
    pair_ended done at h r l ne = below_none done at r (λ k. omega arith)

-- One turn of comparing words.
module _ (ws : List ℕ) where
  before_step : (n k p q : ℕ) → k < n
      → precedes ws (n - k) (p + k) (q + k)
      ≡ (ltb (get_or ws (p + k) 0) (get_or ws (q + k) 0)
      || (eqb (get_or ws (p + k) 0) (get_or ws (q + k) 0) && precedes ws (n - (k + 1)) (p + (k + 1)) (q + (k + 1))))
  unfolding precedes
  before_step n k p q h =
      let e : n - k ≡ suc (n - (k + 1)) = omega arith in
      let f : p + k + 1 ≡ p + (k + 1) = omega arith in
      let g : q + k + 1 ≡ q + (k + 1) = omega arith in
      rw (e, f, g)

  -- The first words that differ decide.
  pub before_differs : (n k p q : ℕ) {x y : ℕ} → k < n → x ≡ get_or ws (p + k) 0 → y ≡ get_or ws (q + k) 0 → (x ≡ y → ⊥)
      → ltb x y ≡ precedes ws (n - k) (p + k) (q + k)
  before_differs n k p q h ex ey ne = rw (before_step n k p q h, ← ex, ← ey, ne_eqb _ _ ne, or-false)

  pub before_same : (n k p q : ℕ) {x y : ℕ} → k < n → x ≡ get_or ws (p + k) 0 → y ≡ get_or ws (q + k) 0 → x ≡ y
      → precedes ws (n - k) (p + k) (q + k) ≡ precedes ws (n - (k + 1)) (p + (k + 1)) (q + (k + 1))
  before_same n k p q {x} {y} h ex ey e = let l : y ≤ x = omega arith in rw (before_step n k p q h, ← ex, ← ey, le-ltb _ _ l, eq-eqb _ _ e)

  pub before_none : (n k p q : ℕ) → n ≤ k → precedes ws (n - k) p q ≡ false
  unfolding precedes
  before_none n k p q h = let e : n - k ≡ 0 = omega arith in rw e

  -- One turn of summing.
  pub total_step : (n e at : ℕ) → e < n
      → total_from ws (n - e) (at + 5 * e) ≡ get_or ws (at + 5 * e + 4) 0 + total_from ws (n - (e + 1)) (at + 5 * (e + 1))
  unfolding total_from
  total_step n e at h =
      let d : n - e ≡ suc (n - (e + 1)) = omega arith in
      let f : at + 5 * e + 5 ≡ at + 5 * (e + 1) = omega arith in
      rw (d, f)

  pub total_none : (n i : ℕ) → n ≤ 0 → total_from ws n i ≡ 0
  unfolding total_from
  total_none n i h = let e : n ≡ 0 = omega arith in ap (λ (k : ℕ). total_from ws k i) e
