-- Where an activity a is taken out of an order by time and put in elsewhere, a rank tells that no circle arises. Those that end before a starts
-- rank below it, those that start after its end above it; of those beside it in time, those of a place below `gap` rank below it, the others above.
-- Where nothing takes any time, the old place tells before and behind apart. Assumes nothing.
use Prim.Native.Nat.{ℕ, ◌+◌, ◌*◌, ◌≤◌, ◌<◌}
use mathlib.Core.Path.{◌≡◌, refl, ap}
use mathlib.Core.Bool.{Bool, true, false, not, ◌&&◌}
use mathlib.Core.Logic.{◌⊎◌, inl, inr, ⊎_elim}
use native.Mathlib.Omega.{arith}
use borrow.Author.Tests.{ltb-true, ltb-false, leb-true, leb-false, eq-eqb, ne_eqb}
use lib.Dec.{eqb, ltb, leb}
use Rattle.graph.specs.Arcs.{Leads, one, more, Circle}
use Rattle.graph.proofs.CountingLaws.{either}

-- along arcs that rise, nothing leads back
pub rising-no_circle : (n : ℕ) (R : ℕ → ℕ → Type 0) (rank : ℕ → ℕ) → ((x y : ℕ) → R x y → rank x < rank y) → Circle n R → ⊥
rising-no_circle n R rank rises c = let l = rise c.2 in omega (arith, l)
  where
    rise : {x y : ℕ} → Leads R x y → rank x < rank y
    rise (one r) = rises _ _ r
    rise (more r l) = omega (arith, rises _ _ r, rise l)

-- starts, ends and places
module _ (S E pos : ℕ → ℕ) (a gap : ℕ) where
  abbrev pub rank_as : (self before behind : Bool) → (place : ℕ) → ℕ
  rank_as true before behind i = 1000 + 2 * gap
  rank_as false true behind i = 2 * i + 1
  rank_as false false true i = 2001 + 2 * i
  rank_as false false false i = 1001 + 2 * i

  unfoldable pub rank : ℕ → ℕ
  rank x = rank_as (eqb x a) (leb (E x) (S a) && not (leb (E a) (S x) && ltb (pos a) (pos x))) (leb (E a) (S x)) (pos x)

  data Side (x : ℕ) : Type 0 where
    before : E x ≤ S a → (E a ≤ S x → pos x ≤ pos a) → rank x ≡ 2 * pos x + 1 → Side x
    behind : E a ≤ S x → (S a < E x) ⊎ (pos a < pos x) → rank x ≡ 2001 + 2 * pos x → Side x
    beside : S a < E x → S x < E a → rank x ≡ 1001 + 2 * pos x → Side x

  rank_own : rank a ≡ 1000 + 2 * gap
  unfolding rank
  rank_own = rw (eq-eqb a a refl)

  side : (x : ℕ) → (x ≡ a → ⊥) → Side x
  unfolding rank
  side x ne = by (leb (E x) (S a)) (leb (E a) (S x)) (ltb (pos a) (pos x)) refl refl refl
    where
      is : (s t u : Bool) → leb (E x) (S a) ≡ s → leb (E a) (S x) ≡ t → ltb (pos a) (pos x) ≡ u → rank x ≡ rank_as false (s && not (t && u)) t (pos x)
      is s t u es et eu = rw (ne_eqb x a ne, es, et, eu)

      by : (s t u : Bool) → leb (E x) (S a) ≡ s → leb (E a) (S x) ≡ t → ltb (pos a) (pos x) ≡ u → Side x
      by true true true es et eu = behind (leb-true (E a) (S x) et) (inr (ltb-true (pos a) (pos x) eu)) (is true true true es et eu)
      by true true false es et eu = before (leb-true (E x) (S a) es) (λ h. ltb-false (pos a) (pos x) eu) (is true true false es et eu)
      by true false u es et eu = before (leb-true (E x) (S a) es) (λ h. absurd (omega (arith, h, leb-false (E a) (S x) et))) (is true false u es et eu)
      by false true u es et eu = behind (leb-true (E a) (S x) et) (inl (leb-false (E x) (S a) es)) (is false true u es et eu)
      by false false u es et eu = beside (leb-false (E x) (S a) es) (leb-false (E a) (S x) et) (is false false u es et eu)

  module _ (upright : (x : ℕ) → S x ≤ E x) (low : (x : ℕ) → pos x ≤ 200) (few : gap ≤ 300) where
    -- ---- arcs that were there

    others_rise : (x y : ℕ) → E x ≤ S y → pos x < pos y → Side x → Side y → rank x < rank y
    others_rise x y h k (before ex px rx) (before ey py ry) = omega (arith, k, rx, ry)
    others_rise x y h k (before ex px rx) (behind ey py ry) = omega (arith, k, rx, ry)
    others_rise x y h k (before ex px rx) (beside ey sy ry) = omega (arith, rx, ry, low x)
    others_rise x y h k (behind ex px rx) (before ey py ry) =
        ⊎_elim (λ l. absurd (omega (arith, l, h, upright y, ey))) (λ l. absurd (omega (arith, l, k, py (omega (arith, ex, upright x, h))))) px
    others_rise x y h k (behind ex px rx) (behind ey py ry) = omega (arith, k, rx, ry)
    others_rise x y h k (behind ex px rx) (beside ey sy ry) = absurd (omega (arith, ex, upright x, h, sy))
    others_rise x y h k (beside ex sx rx) (before ey py ry) = absurd (omega (arith, ex, h, upright y, ey))
    others_rise x y h k (beside ex sx rx) (behind ey py ry) = omega (arith, rx, ry, low x)
    others_rise x y h k (beside ex sx rx) (beside ey sy ry) = omega (arith, k, rx, ry)

    up_to_own : (x : ℕ) → E x ≤ S a → pos x < pos a → Side x → rank x < rank a
    up_to_own x h k (before ex px rx) = omega (arith, rx, rank_own, low x)
    up_to_own x h k (behind ex px rx) = ⊎_elim (λ l. absurd (omega (arith, l, h))) (λ l. absurd (omega (arith, l, k))) px
    up_to_own x h k (beside ex sx rx) = absurd (omega (arith, ex, h))

    up_from_own : (y : ℕ) → E a ≤ S y → pos a < pos y → Side y → rank a < rank y
    up_from_own y h k (before ey py ry) = absurd (omega (arith, k, py h))
    up_from_own y h k (behind ey py ry) = omega (arith, ry, rank_own, few)
    up_from_own y h k (beside ey sy ry) = absurd (omega (arith, sy, h))

    pub old_rises : (x y : ℕ) → E x ≤ S y → pos x < pos y → rank x < rank y
    old_rises x y h k =
        either x a
        (λ e.
        rw e
        (up_from_own y (omega (arith, h, ap E e)) (omega (arith, k, ap pos e)) (side y (λ q. absurd (omega (arith, k, ap pos e, ap pos q))))))
        (λ nx.
        either y a (λ e. rw e (up_to_own x (omega (arith, h, ap S e)) (omega (arith, k, ap pos e)) (side x nx))) (λ ny. others_rise x y h k (side x nx) (side y ny)))

    -- ---- new ones

    pub joins_after : (x : ℕ) → (x ≡ a → ⊥) → S x < E a → pos x < gap → rank x < rank a
    joins_after x ne h k = by (side x ne)
      where
        by : Side x → rank x < rank a
        by (before ex px rx) = omega (arith, rx, rank_own, low x)
        by (behind ex px rx) = absurd (omega (arith, ex, h))
        by (beside ex sx rx) = omega (arith, rx, rank_own, k)

    pub joins_before : (y : ℕ) → (y ≡ a → ⊥) → S a < E y → gap ≤ pos y → rank a < rank y
    joins_before y ne h k = by (side y ne)
      where
        by : Side y → rank a < rank y
        by (before ey py ry) = absurd (omega (arith, ey, h))
        by (behind ey py ry) = omega (arith, ry, rank_own, few)
        by (beside ey sy ry) = omega (arith, ry, rank_own, k)
