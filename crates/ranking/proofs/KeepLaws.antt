-- Where a move goes among three. Assumes nothing.
use mathlib.Core.Path.{◌≡◌, refl}
use mathlib.Core.Bool.{Bool, true, false, ◌||◌, true≢false}
use mathlib.Core.List.{[], ◌∷◌}
use Prim.Native.Nat.{ℕ, zero, suc, ◌≤◌, ◌<◌, min}
use native.Mathlib.Omega.{arith}
use lib.ListN.{take, get_or}
use Rattle.ranking.specs.declared.held.Rated.{Rated}
use Rattle.ranking.specs.declared.held.Three.{Three}
use Rattle.ranking.specs.Ranking.{insert_by, ranked, with_one, goes_at, enters}

neither : (a b : Bool) → (a || b) ≡ false → (a ≡ false) × (b ≡ false)
neither false b e = (refl, e)
neither true b e = (e, absurd (true≢false e))

module _ (x a b c : Rated) where
  abbrev goes : (count place : ℕ) → Rated → Bool
  goes n k y = goes_at n k x.length x.time y

  pub goes_first : (n : ℕ) → n ≤ 3 → goes n 0 a ≡ true → take (min (suc n) 3) (x ∷ a ∷ b ∷ []) ≡ with_one x (take n (a ∷ b ∷ c ∷ []))
  unfolding insert_by
  goes_first zero h e = refl
  goes_first (suc zero) h e = rw e
  goes_first (suc (suc zero)) h e = rw e
  goes_first (suc (suc (suc zero))) h e = rw e
  goes_first (suc (suc (suc (suc n)))) h e = absurd (omega arith)

  pub goes_second : (n : ℕ) → n ≤ 3 → goes n 0 a ≡ false → goes n 1 b ≡ true → take (min (suc n) 3) (a ∷ x ∷ b ∷ []) ≡ with_one x (take n (a ∷ b ∷ c ∷ []))
  unfolding insert_by
  goes_second zero h z e = cc
  goes_second (suc zero) h z e = rw z
  goes_second (suc (suc zero)) h z e = rw (z, e)
  goes_second (suc (suc (suc zero))) h z e = rw (z, e)
  goes_second (suc (suc (suc (suc n)))) h z e = absurd (omega arith)

  pub goes_third : (n : ℕ) → n ≤ 3 → goes n 0 a ≡ false → goes n 1 b ≡ false → goes n 2 c ≡ true
      → take (min (suc n) 3) (a ∷ b ∷ x ∷ []) ≡ with_one x (take n (a ∷ b ∷ c ∷ []))
  unfolding insert_by
  goes_third zero h z y e = cc
  goes_third (suc zero) h z y e = cc
  goes_third (suc (suc zero)) h z y e = rw (z, y)
  goes_third (suc (suc (suc zero))) h z y e = rw (z, y, e)
  goes_third (suc (suc (suc (suc n)))) h z y e = absurd (omega arith)

  pub falls_out : (n : ℕ) → n ≤ 3 → goes n 0 a ≡ false → goes n 1 b ≡ false → goes n 2 c ≡ false
      → take n (a ∷ b ∷ c ∷ []) ≡ with_one x (take n (a ∷ b ∷ c ∷ []))
  unfolding insert_by
  falls_out zero h z y e = cc
  falls_out (suc zero) h z y e = cc
  falls_out (suc (suc zero)) h z y e = cc
  falls_out (suc (suc (suc zero))) h z y e = rw (z, y, e)
  falls_out (suc (suc (suc (suc n)))) h z y e = absurd (omega arith)

-- what enters nowhere leaves the three as they are
pub stays_out : (three : Three) (x : Rated) → enters three.count three.first three.second three.third x.length x.time ≡ false
    → ranked three ≡ with_one x (ranked three)
stays_out three x e =
    let f = neither _ _ e in
    let g = neither _ _ f.0 in
    falls_out x three.first three.second three.third three.count three.few g.0 g.1 f.1

module _ (a b c other : Rated) where
  pub first_at : (n k : ℕ) → k < n → k ≡ 0 → a ≡ get_or (take n (a ∷ b ∷ c ∷ [])) k other
  first_at n zero h e = at n h
    where
      at : (m : ℕ) → 0 < m → a ≡ get_or (take m (a ∷ b ∷ c ∷ [])) 0 other
      at zero l = absurd (omega arith)
      at (suc m) l = refl
  first_at n (suc k) h e = absurd (omega arith)

  pub second_at : (n k : ℕ) → k < n → k ≡ 1 → b ≡ get_or (take n (a ∷ b ∷ c ∷ [])) k other
  second_at (suc (suc n)) (suc zero) h e = refl
  second_at zero k h e = absurd (omega arith)
  second_at (suc zero) (suc zero) h e = absurd (omega arith)
  second_at (suc n) zero h e = absurd (omega arith)
  second_at (suc n) (suc (suc k)) h e = absurd (omega arith)

  pub third_at : (n k : ℕ) → n ≤ 3 → k < n → (k ≡ 0 → ⊥) → (k ≡ 1 → ⊥) → c ≡ get_or (take n (a ∷ b ∷ c ∷ [])) k other
  third_at (suc (suc (suc n))) (suc (suc zero)) l h y z = refl
  third_at n zero l h y z = absurd (omega arith)
  third_at n (suc zero) l h y z = absurd (omega arith)
  third_at (suc (suc (suc n))) (suc (suc (suc k))) l h y z = absurd (omega arith)
  third_at (suc (suc zero)) (suc (suc k)) l h y z = absurd (omega arith)
  third_at (suc zero) (suc (suc k)) l h y z = absurd (omega arith)
  third_at zero (suc (suc k)) l h y z = absurd (omega arith)
