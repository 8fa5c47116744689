-- Where each of some activities waits for another of them, the arcs close a circle. Assumes nothing.
use mathlib.Core.Path.{◌≡◌, sym, ap, subst}
use mathlib.Core.List.{List, [], ◌∷◌}
use mathlib.Core.Logic.{◌⊎◌, inl, inr, ⊎_elim}
use Prim.Native.Nat.{ℕ, zero, suc, ◌+◌, ◌≤◌, ◌<◌}
use native.Mathlib.Omega.{arith}
use lib.ListN.{length}
use Rattle.graph.specs.Counting.{count_of, Below}
use Rattle.graph.specs.Arcs.{Leads, one, more, Circle}
use Rattle.graph.proofs.CountingLaws.{hit-ne, hit_pos, hit-le, same?, sum_to-le, count_all}

module _ (n : ℕ) (R : ℕ → ℕ → Type 0) (S : ℕ → Type 0) (back : (a : ℕ) → a < n → S a → (p : ℕ) × (p < n) × S p × R p a) where
  -- the numbers passed so far: each is the present one or follows it, and none comes twice
  record Passed (cur : ℕ) (l : List ℕ) : Type 0 where
    below : Below n l
    once : (x : ℕ) → count_of x l ≤ 1
    after : (x : ℕ) → 0 < count_of x l → (x ≡ cur) ⊎ Leads R cur x

  step : (cur p : ℕ) (l : List ℕ) → p < n → R p cur → count_of p l ≡ 0 → Passed cur l → Passed p (p ∷ l)
  unfolding count_of Below
  step cur p l h r z w =
      record {
        below = (h, w.below);
        once = λ x. ⊎_elim (λ e. omega (arith, hit-le p x, ap (λ y. count_of y l) e)) (λ ne. omega (arith, hit-ne p x ne, w.once x)) (same? p x);
        after = λ x k. ⊎_elim (λ e. inl (sym e)) (λ ne. inr (⊎_elim (λ q. one (subst (λ y. R p y) (sym q) r)) (λ m. more r m) (w.after x (omega (arith, hit-ne p x ne))))) (same? p x);
      }

  walk : (fuel cur : ℕ) (l : List ℕ) → length l + fuel ≡ suc n → cur < n → S cur → Passed cur l → Circle n R
  walk zero cur l e h s w = absurd (omega (arith, count_all n l w.below, sum_to-le n (λ i. count_of i l) w.once))
  walk (suc fuel) cur l e h s w =
      let r = back cur h s in
      ⊎_elim (λ z. walk fuel r.0 (r.0 ∷ l) (omega arith) r.1 r.2 (step cur r.0 l r.1 r.3 z w))
      (λ ne. (r.0, r.1, ⊎_elim (λ q. one (subst (λ x. R r.0 x) (sym q) r.3)) (λ m. more r.3 m) (w.after r.0 (omega arith))))
      (same? (count_of r.0 l) 0)

  -- such numbers hold a circle
  pub circle : (a : ℕ) → a < n → S a → Circle n R
  unfolding count_of Below
  circle a h s =
      walk n a (a ∷ []) (omega arith) h s
      (record { below = (h, tt); once = λ x. omega (arith, hit-le a x); after = λ x k. inl (sym (hit_pos a x (omega arith))) })

pub leads_map : {R Q : ℕ → ℕ → Type 0} → ((a b : ℕ) → R a b → Q a b) → {x y : ℕ} → Leads R x y → Leads Q x y
leads_map f (one r) = one (f _ _ r)
leads_map f (more r l) = more (f _ _ r) (leads_map f l)

pub circle_map : {n : ℕ} {R Q : ℕ → ℕ → Type 0} → ((a b : ℕ) → R a b → Q a b) → Circle n R → Circle n Q
circle_map f c = (c.0, c.1, leads_map f c.2)
