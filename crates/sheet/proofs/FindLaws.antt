-- More laws of the first and the last number that pass a test: which number it is, from what passes and what does not, and back.
use Prim.Native.Nat.{ℕ, zero, suc, ◌+◌, ◌≤◌, ◌<◌}
use mathlib.Core.Path.{◌≡◌, refl, sym, ◌∙◌, subst}
use mathlib.Core.Bool.{Bool, true, false, cond}
use mathlib.Core.List.{List, [], ◌∷◌}
use mathlib.Core.Logic.{◌⊎◌, inl, inr, ⊎_elim}
use native.Mathlib.Omega.{arith}
use Rattle.graph.specs.Counting.{count_of}
use Rattle.graph.proofs.CountingLaws.{either, hit-eq, hit-ne}
use Rattle.sheet.specs.Rows.{first, last}
use Rattle.sheet.specs.Sheet.{all}
use Rattle.sheet.proofs.SearchLaws.{split_and}

pub opposite {ℓ} : {A : Type ℓ} {t : Bool} → t ≡ true → t ≡ false → A
opposite e f = let o : ◌≡◌ {A = ℕ} 0 1 = cc in absurd (omega arith)

pub by_test {ℓ} : {A : Type ℓ} (t : Bool) → (t ≡ true → A) → (t ≡ false → A) → A
by_test true f g = f refl
by_test false f g = g refl

module _ (test : ℕ → Bool) where
  -- ---- the first

  pub first_none : (k i : ℕ) → ((j : ℕ) → i ≤ j → j < i + k → test j ≡ false) → first test k i ≡ i + k
  unfolding first
  first_none zero i h = omega arith
  first_none (suc k) i h = rw (h i (omega arith) (omega arith)) (first_none k (suc i) (λ j a b. h j (omega arith) (omega arith)) ∙ omega arith)

  pub first_is : (k i x : ℕ) → i ≤ x → x < i + k → test x ≡ true → ((j : ℕ) → i ≤ j → j < x → test j ≡ false) → first test k i ≡ x
  unfolding first
  first_is zero i x l h e f = absurd (omega arith)
  first_is (suc k) i x l h e f =
      either i x (λ q. subst (λ (y : ℕ). cond (test i) i (first test k (suc i)) ≡ y) q (rw (subst (λ (y : ℕ). test y ≡ true) (sym q) e)))
      (λ ne. rw (f i (omega arith) (omega arith)) (first_is k (suc i) x (omega arith) (omega arith) e (λ j a b. f j (omega arith) b)))

  -- either none passes, or the first is one that does, with none before it
  abbrev pub FirstFound : (k i x : ℕ) → Type 0
  FirstFound k i x =
      (first test k i ≡ x) × (i ≤ x) × (x < i + k) × (test x ≡ true) × ((j : ℕ) → i ≤ j → j < x → test j ≡ false)

  abbrev pub NoneFound : (k i : ℕ) → Type 0
  NoneFound k i = (first test k i ≡ i + k) × ((j : ℕ) → i ≤ j → j < i + k → test j ≡ false)

  shift_none : (k i : ℕ) → test i ≡ false → NoneFound k (suc i) → NoneFound (suc k) i
  unfolding first
  shift_none k i e (q, f) =
      (rw e (q ∙ omega arith), λ j a b. either i j (λ w. subst (λ (y : ℕ). test y ≡ false) w e) (λ ne. f j (omega arith) (omega arith)))

  shift_found : (k i x : ℕ) → test i ≡ false → FirstFound k (suc i) x → FirstFound (suc k) i x
  unfolding first
  shift_found k i x e (q, l, h, p, f) =
      (rw e q, omega arith, omega arith, p, λ j a b. either i j (λ w. subst (λ (y : ℕ). test y ≡ false) w e) (λ ne. f j (omega arith) b))

  pub first_cases : (k i : ℕ) → NoneFound k i ⊎ ((x : ℕ) × FirstFound k i x)
  unfolding first
  first_cases zero i = inl (omega arith, λ j a b. absurd (omega arith))
  first_cases (suc k) i =
      by_test (test i) (λ e. inr (i, (rw e, omega arith, omega arith, e, λ j a b. absurd (omega arith))))
      (λ e. ⊎_elim (λ w. inl (shift_none k i e w)) (λ w. inr (w.0, shift_found k i w.0 e w.1)) (first_cases k (suc i)))

  -- ---- the last

  pub last_none : (none k : ℕ) → ((j : ℕ) → j < k → test j ≡ false) → last test none k ≡ none
  unfolding last
  last_none none zero h = refl
  last_none none (suc k) h = rw (h k (omega arith)) (last_none none k (λ j b. h j (omega arith)))

  pub last_is : (none k x : ℕ) → x < k → test x ≡ true → ((j : ℕ) → x < j → j < k → test j ≡ false) → last test none k ≡ x
  unfolding last
  last_is none zero x h e f = absurd (omega arith)
  last_is none (suc k) x h e f =
      either k x (λ q. subst (λ (y : ℕ). cond (test k) k (last test none k) ≡ y) q (rw (subst (λ (y : ℕ). test y ≡ true) (sym q) e)))
      (λ ne. rw (f k (omega arith) (omega arith)) (last_is none k x (omega arith) e (λ j a b. f j a (omega arith))))

  abbrev pub LastFound : (none k x : ℕ) → Type 0
  LastFound none k x = (last test none k ≡ x) × (x < k) × (test x ≡ true) × ((j : ℕ) → x < j → j < k → test j ≡ false)

  abbrev pub NoneLast : (none k : ℕ) → Type 0
  NoneLast none k = (last test none k ≡ none) × ((j : ℕ) → j < k → test j ≡ false)

  grow_none : (none k : ℕ) → test k ≡ false → NoneLast none k → NoneLast none (suc k)
  unfolding last
  grow_none none k e (q, f) = (rw e q, λ j a. either k j (λ w. subst (λ (y : ℕ). test y ≡ false) w e) (λ ne. f j (omega arith)))

  grow_found : (none k x : ℕ) → test k ≡ false → LastFound none k x → LastFound none (suc k) x
  unfolding last
  grow_found none k x e (q, h, p, f) =
      (rw e q, omega arith, p, λ j a b. either k j (λ w. subst (λ (y : ℕ). test y ≡ false) w e) (λ ne. f j a (omega arith)))

  pub last_cases : (none k : ℕ) → NoneLast none k ⊎ ((x : ℕ) × LastFound none k x)
  unfolding last
  last_cases none zero = inl (refl, λ j a. absurd (omega arith))
  last_cases none (suc k) =
      by_test (test k) (λ e. inr (k, (rw e, omega arith, e, λ j a b. absurd (omega arith))))
      (λ e. ⊎_elim (λ w. inl (grow_none none k e w)) (λ w. inr (w.0, grow_found none k w.0 e w.1)) (last_cases none k))

  -- ---- all

  pub all-each : (l : List ℕ) (b : ℕ) → all test l ≡ true → 0 < count_of b l → test b ≡ true
  unfolding all count_of
  all-each [] b e h = absurd (omega arith)
  all-each (x ∷ l) b e h =
      let s = split_and (test x) (all test l) e in
      either x b (λ w. subst (λ (y : ℕ). test y ≡ true) w s.0) (λ ne. all-each l b s.1 (omega (arith, hit-ne x b ne)))

  pub each_all : (l : List ℕ) → ((b : ℕ) → 0 < count_of b l → test b ≡ true) → all test l ≡ true
  unfolding all count_of
  each_all [] h = refl
  each_all (x ∷ l) h = rw (h x (omega (arith, hit-eq x x refl))) (each_all l (λ b k. h b (omega arith)))
