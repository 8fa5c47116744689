-- Flags: all of the order are pending at first, and no others.
use Prim.Native.Nat.{ℕ, zero, suc, ◌≤◌, ◌<◌}
use mathlib.Core.Path.{◌≡◌, refl, sym, ◌∙◌, subst}
use mathlib.Core.Bool.{Bool, true, false, ◌&&◌, ◌||◌}
use mathlib.Core.List.{List, [], ◌∷◌}
use mathlib.Core.Logic.{◌⊎◌, inl, inr, ⊎_elim}
use native.Mathlib.Omega.{arith}
use lib.ListN.{length, get_or, set, replicate, length-set}
use lib.Seq.{get_or-set_same, get_or-set_other}
use Rattle.graph.specs.Counting.{count_of, hit, sum_to, Below}
use Rattle.graph.proofs.CountingLaws.{hit-eq, hit-ne, hit-le, either}
use Rattle.graph.proofs.NamingLaws.{zeros_at}
use Rattle.lines.specs.Linking.{marked}
use Rattle.in_order.specs.InOrder.{all_pending}

pub or_true : (a b : Bool) → (a || b) ≡ true → (a ≡ true) ⊎ (b ≡ true)
or_true true b e = inl refl
or_true false b e = inr e

pub and_true : (a b : Bool) → (a && b) ≡ true → (a ≡ true) × (b ≡ true)
and_true true b e = (refl, e)
and_true false b e = let z : ◌≡◌ {A = ℕ} 0 1 = cc in absurd (omega arith)

-- ---- all of the order are pending at first, and no others

pub marked_in : (ks c : List ℕ) (x : ℕ) → Below (length c) ks → (0 < count_of x ks) ⊎ (get_or c x 0 ≡ 1) → get_or (marked ks 1 c) x 0 ≡ 1
unfolding marked count_of Below
marked_in [] c x b h = ⊎_elim (λ k. absurd (omega arith)) (λ e. e) h
marked_in (a ∷ ks) c x b h =
    let deeper = marked_in ks (set c a 1) x (rw (length-set c a 1) b.1) in
    either a x (λ e. deeper (inr (subst (λ (y : ℕ). get_or (set c a 1) y 0 ≡ 1) e (get_or-set_same c a 1 0 b.0))))
    (λ ne. deeper (⊎_elim (λ k. inl (omega (arith, hit-ne a x ne))) (λ e. inr (get_or-set_other c a x 1 0 (λ q. ne (sym q)) ∙ e)) h))

marked_of : (ks c : List ℕ) (x : ℕ) → get_or (marked ks 1 c) x 0 ≡ 1 → (0 < count_of x ks) ⊎ (get_or c x 0 ≡ 1)
unfolding marked count_of
marked_of [] c x e = inr e
marked_of (a ∷ ks) c x e =
    let deeper = marked_of ks (set c a 1) x e in
    either a x (λ q. inl (omega (arith, hit-eq a x q))) (λ ne. ⊎_elim (λ k. inl (omega arith)) (λ z. inr (sym (get_or-set_other c a x 1 0 (λ q. ne (sym q))) ∙ z)) deeper)

pub pending_of : (activities : List ℕ) (x : ℕ) → get_or (all_pending activities) x 0 ≡ 1 → 0 < count_of x activities
pending_of activities x e = ⊎_elim (λ k. k) (λ z. absurd (omega (arith, z, zeros_at 128 x))) (marked_of activities (replicate 128 0) x e)

pub sum_most : (k : ℕ) (f g : ℕ → ℕ) → ((i : ℕ) → f i ≤ g i) → sum_to k f ≤ sum_to k g
unfolding sum_to
sum_most zero f g h = omega arith
sum_most (suc k) f g h = omega (arith, sum_most k f g h, h k)

pub pending_most : (activities : List ℕ) (x : ℕ) → hit (get_or (all_pending activities) x 0) 1 ≤ count_of x activities
pending_most activities x =
    either (get_or (all_pending activities) x 0) 1 (λ e. omega (arith, hit-le (get_or (all_pending activities) x 0) 1, pending_of activities x e)) (λ ne. omega (arith, hit-ne (get_or (all_pending activities) x 0) 1 ne))
