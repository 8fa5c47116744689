-- Laws of counting in lists, of sums below a number, and of sums over what is not done. Assumes nothing.
use mathlib.Core.Path.{◌≡◌, refl, sym, ap, ◌∙◌, subst}
use mathlib.Core.Bool.{Bool, true, false}
use mathlib.Core.List.{List, [], ◌∷◌, ◌++◌}
use mathlib.Core.Logic.{◌⊎◌, inl, inr, ⊎_elim}
use Prim.Native.Nat.{ℕ, zero, suc, ◌+◌, ◌≤◌, ◌<◌}
use native.Mathlib.Nat.{zero-add}
use native.Mathlib.Omega.{arith}
use native.Mathlib.Decide.{ℕ_discrete}
use lib.ListN.{length, get_or}
use lib.Dec.{eqb}
use borrow.Author.Tests.{eq-eqb, ne_eqb}
use Rattle.graph.specs.Counting.{bit, hit, count_of, sum_to, Below}

pub hit-eq : (a b : ℕ) → a ≡ b → hit a b ≡ 1
unfolding hit
hit-eq a b e = rw (eq-eqb a b e)

pub hit-ne : (a b : ℕ) → (a ≡ b → ⊥) → hit a b ≡ 0
unfolding hit
hit-ne a b h = rw (ne_eqb a b h)

pub hit-le : (a b : ℕ) → hit a b ≤ 1
unfolding hit
hit-le a b = go (eqb a b)
  where
    go : (t : Bool) → bit t ≤ 1
    go true = omega arith
    go false = omega arith

-- two numbers are equal or not
pub same? : (a b : ℕ) → (a ≡ b) ⊎ (a ≡ b → ⊥)
same? a b = go (ℕ_discrete a b)
  where
    go : Dec (a ≡ b) → (a ≡ b) ⊎ (a ≡ b → ⊥)
    go (yes e) = inl e
    go (no h) = inr h

-- by cases on whether two numbers are equal
pub either {ℓ} : {A : Type ℓ} (a b : ℕ) → (a ≡ b → A) → ((a ≡ b → ⊥) → A) → A
either a b f g = ⊎_elim f g (same? a b)

pub hit_pos : (a b : ℕ) → 0 < hit a b → a ≡ b
hit_pos a b h = ⊎_elim (λ e. e) (λ n. absurd (omega (arith, hit-ne a b n))) (same? a b)

pub count_of-append : (b : ℕ) (s t : List ℕ) → count_of b (s ++ t) ≡ count_of b s + count_of b t
unfolding count_of
count_of-append b [] t = omega arith
count_of-append b (x ∷ s) t = omega (arith, count_of-append b s t)

pub sum_to-ap : (k : ℕ) (f g : ℕ → ℕ) → ((i : ℕ) → i < k → f i ≡ g i) → sum_to k f ≡ sum_to k g
unfolding sum_to
sum_to-ap zero f g h = refl
sum_to-ap (suc k) f g h = omega (arith, sum_to-ap k f g (λ i l. h i (omega arith)), h k (omega arith))

pub sum_to-add : (k : ℕ) (f g : ℕ → ℕ) → sum_to k (λ i. f i + g i) ≡ sum_to k f + sum_to k g
unfolding sum_to
sum_to-add zero f g = omega arith
sum_to-add (suc k) f g = omega (arith, sum_to-add k f g)

pub sum_to-zero : (k : ℕ) → sum_to k (λ i. 0) ≡ 0
unfolding sum_to
sum_to-zero zero = refl
sum_to-zero (suc k) = omega (arith, sum_to-zero k)

-- of numbers that are at most 1 each
pub sum_to-le : (k : ℕ) (f : ℕ → ℕ) → ((i : ℕ) → f i ≤ 1) → sum_to k f ≤ k
unfolding sum_to
sum_to-le zero f h = omega arith
sum_to-le (suc k) f h = omega (arith, sum_to-le k f h, h k)

-- if they fall short of k, one of them is 0
pub sum_to_short : (k : ℕ) (f : ℕ → ℕ) → ((i : ℕ) → f i ≤ 1) → sum_to k f < k → (i : ℕ) × (i < k) × (f i ≡ 0)
unfolding sum_to
sum_to_short zero f h l = absurd (omega arith)
sum_to_short (suc k) f h l = ⊎_elim (λ e. (k, omega arith, e)) (λ ne. up (sum_to_short k f h (omega (arith, h k)))) (same? (f k) 0)
  where
    up : (i : ℕ) × (i < k) × (f i ≡ 0) → (i : ℕ) × (i < suc k) × (f i ≡ 0)
    up r = (r.0, omega arith, r.2)

-- if they reach k, each of them is 1
pub sum_to_full : (k : ℕ) (f : ℕ → ℕ) → ((i : ℕ) → f i ≤ 1) → sum_to k f ≡ k → (i : ℕ) → i < k → f i ≡ 1
unfolding sum_to
sum_to_full zero f h e i l = absurd (omega arith)
sum_to_full (suc k) f h e i l =
    let w = sum_to-le k f h in
    let v = h k in
    ⊎_elim (λ q. ap f q ∙ omega arith) (λ ne. sum_to_full k f h (omega arith) i (omega arith)) (same? i k)

hits_none : (k a : ℕ) → k ≤ a → sum_to k (λ i. hit a i) ≡ 0
unfolding sum_to
hits_none zero a h = refl
hits_none (suc k) a h = omega (arith, hits_none k a (omega arith), hit-ne a k (λ e. omega arith))

hits : (k a : ℕ) → a < k → sum_to k (λ i. hit a i) ≡ 1
unfolding sum_to
hits zero a h = absurd (omega arith)
hits (suc k) a h =
    ⊎_elim (λ e. omega (arith, hits_none k a (omega arith), hit-eq a k e)) (λ ne. omega (arith, hits k a (omega arith), hit-ne a k ne)) (same? a k)

-- a list of numbers below k has as many elements as all of them are counted in it
pub count_all : (k : ℕ) (l : List ℕ) → Below k l → sum_to k (λ i. count_of i l) ≡ length l
unfolding count_of Below
count_all k [] h = sum_to-zero k
count_all k (x ∷ xs) h = sum_to-add k (λ i. hit x i) (λ i. count_of i xs) ∙ omega (arith, hits k x h.0, count_all k xs h.1)

-- ---- lists of numbers below n

pub below_of : (n a : ℕ) (l : List ℕ) → Below n l → 0 < count_of a l → a < n
unfolding Below count_of
below_of n a [] h k = absurd (omega arith)
below_of n a (x ∷ l) h k =
    either x a (λ e. subst (λ y. y < n) e h.0) (λ ne. below_of n a l h.1 (omega (arith, hit-ne x a ne)))

pub below_at : (n : ℕ) (l : List ℕ) (i : ℕ) → Below n l → i < length l → get_or l i 0 < n
unfolding Below
below_at n [] i h k = absurd (omega arith)
below_at n (x ∷ xs) zero h k = h.0
below_at n (x ∷ xs) (suc i) h k = below_at n xs i h.1 (omega arith)

pub below_more : (n m : ℕ) (l : List ℕ) → n ≤ m → Below n l → Below m l
unfolding Below
below_more n m [] h b = tt
below_more n m (x ∷ l) h b = (omega (arith, b.0), below_more n m l h b.1)

pub below_append : (n : ℕ) (xs ys : List ℕ) → Below n xs → Below n ys → Below n (xs ++ ys)
unfolding Below
below_append n [] ys h k = k
below_append n (x ∷ xs) ys h k = (h.0, below_append n xs ys h.1 k)

-- ---- the test for 0 as a number

-- 1 at 0, else 0
unfoldable pub is_zero : ℕ → ℕ
is_zero zero = 1
is_zero (suc n) = 0

pub is_zero-le : (n : ℕ) → is_zero n ≤ 1
unfolding is_zero
is_zero-le zero = omega arith
is_zero-le (suc n) = omega arith

pub is_zero_of : (n : ℕ) → n ≡ 0 → is_zero n ≡ 1
unfolding is_zero
is_zero_of zero e = refl
is_zero_of (suc n) e = absurd (omega arith)

pub is_zero_pos : (n : ℕ) → 0 < n → is_zero n ≡ 0
unfolding is_zero
is_zero_pos zero e = absurd (omega arith)
is_zero_pos (suc n) e = refl

pub pos_of : (n : ℕ) → is_zero n ≡ 0 → 0 < n
unfolding is_zero
pos_of zero e = absurd (omega arith)
pos_of (suc n) e = omega arith

-- ---- what is not done

-- m where the first number is 0, else 0
unfoldable pub keep : ℕ → ℕ → ℕ
keep zero m = m
keep (suc k) m = 0

pub keep-zero : (k m : ℕ) → k ≡ 0 → keep k m ≡ m
unfolding keep
keep-zero zero m e = refl
keep-zero (suc k) m e = absurd (omega arith)

pub keep_pos : (k m : ℕ) → 0 < k → keep k m ≡ 0
unfolding keep
keep_pos zero m e = absurd (omega arith)
keep_pos (suc k) m e = refl

-- the sum of f over the numbers below k that are not in d
unfoldable pub left : ℕ → List ℕ → (ℕ → ℕ) → ℕ
left zero d f = 0
left (suc k) d f = left k d f + keep (count_of k d) (f k)

pub left-nil : (k : ℕ) (f : ℕ → ℕ) → left k [] f ≡ sum_to k f
unfolding left count_of sum_to
left-nil zero f = refl
left-nil (suc k) f = omega (arith, left-nil k f, keep-zero 0 (f k) refl)

keep_other : (k a m : ℕ) (d : List ℕ) → (a ≡ k → ⊥) → keep (count_of k (a ∷ d)) m ≡ keep (count_of k d) m
unfolding count_of
keep_other k a m d h = rw (hit-ne a k h, zero-add)

left-same : (k a : ℕ) (d : List ℕ) (f : ℕ → ℕ) → k ≤ a → left k (a ∷ d) f ≡ left k d f
unfolding left
left-same zero a d f h = refl
left-same (suc k) a d f h = omega (arith, left-same k a d f (omega arith), keep_other k a (f k) d (λ e. omega arith))

in_front : (k a : ℕ) (d : List ℕ) → a ≡ k → 0 < count_of k (a ∷ d)
unfolding count_of
in_front k a d e = omega (arith, hit-eq a k e)

-- what is left before a is done: what is left after, and a's own
pub left_more : (k a : ℕ) (d : List ℕ) (f : ℕ → ℕ) → a < k → count_of a d ≡ 0 → left k d f ≡ left k (a ∷ d) f + f a
unfolding left
left_more zero a d f h z = absurd (omega arith)
left_more (suc k) a d f h z =
    ⊎_elim
    (λ e. omega (arith, left-same k a d f (omega arith), keep-zero (count_of k d) (f k) (ap (λ x. count_of x d) (sym e) ∙ z), keep_pos (count_of k (a ∷ d)) (f k) (in_front k a d e), ap f e))
    (λ ne. omega (arith, left_more k a d f (omega arith) z, keep_other k a (f k) d ne))
    (same? a k)

-- nothing is left: each number that is not done adds nothing
pub left_none : (k : ℕ) (d : List ℕ) (f : ℕ → ℕ) → left k d f ≡ 0 → (p : ℕ) → p < k → 0 < f p → 0 < count_of p d
unfolding left
left_none zero d f e p l h = absurd (omega arith)
left_none (suc k) d f e p l h =
    ⊎_elim (λ q. ⊎_elim (λ z. absurd (omega (arith, keep-zero (count_of k d) (f k) (ap (λ x. count_of x d) (sym q) ∙ z), ap f q))) (λ nz. omega arith) (same? (count_of p d) 0))
    (λ ne. left_none k d f (omega arith) p (omega arith) h) (same? p k)

-- something is left: a number that is not done adds it
pub left_some : (k : ℕ) (d : List ℕ) (f : ℕ → ℕ) → 0 < left k d f → (p : ℕ) × (p < k) × (count_of p d ≡ 0) × (0 < f p)
unfolding left
left_some zero d f h = absurd (omega arith)
left_some (suc k) d f h = ⊎_elim (λ e. here (left_some k d f (omega arith))) there (same? (keep (count_of k d) (f k)) 0)
  where
    here : (p : ℕ) × (p < k) × (count_of p d ≡ 0) × (0 < f p) → (p : ℕ) × (p < suc k) × (count_of p d ≡ 0) × (0 < f p)
    here r = (r.0, omega arith, r.2, r.3)

    there : (keep (count_of k d) (f k) ≡ 0 → ⊥) → (p : ℕ) × (p < suc k) × (count_of p d ≡ 0) × (0 < f p)
    there ne =
        ⊎_elim (λ z. (k, omega arith, z, omega (arith, keep-zero (count_of k d) (f k) z)))
        (λ nz. absurd (ne (keep_pos (count_of k d) (f k) (omega arith)))) (same? (count_of k d) 0)
