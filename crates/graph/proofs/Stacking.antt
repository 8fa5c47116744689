-- The loop of `stack_free`: from here the rules stack what they stack from the start. Assumes nothing.
use mathlib.Core.Path.{◌≡◌, refl, sym, ◌∙◌, subst}
use mathlib.Core.List.{List, []}
use Prim.Native.Nat.{ℕ, suc, ◌+◌, ◌-◌, ◌≤◌, ◌<◌}
use native.Mathlib.Numerals.{add-one}
use native.Mathlib.Omega.{arith}
use lib.ListN.{length, get_or, set, length-set}
use lib.Dec.{eqb}
use borrow.Author.Tests.{eq-eqb, ne_eqb}
use Rattle.graph.specs.Order.{stack_free, push_if}
use Rattle.graph.specs.Run.{stack_of}
use Rattle.graph.proofs.StackLaws.{stack_of_push}

pub record Stacking (c s₀ s : List ℕ) (top k : ℕ) : Type 0 where
  pub within : k ≤ length c
  pub fits : top ≤ k
  pub sized : length s ≡ length s₀
  pub rest : stack_free c (length c - k) k (stack_of s top) ≡ stack_free c (length c) 0 []

pub stack_begin : (c s : List ℕ) → Stacking c s s 0 0
unfolding stack_of
stack_begin c s = let e : length c - 0 ≡ length c = omega arith in record { within = omega arith; fits = omega arith; sized = refl; rest = rw e }

module _ {c s₀ s : List ℕ} {top k : ℕ} (w : Stacking c s₀ s top k) where
  pub stack_end : length c ≤ k → (stack_of s top ≡ stack_free c (length c) 0 []) × (top ≤ length c)
  unfolding stack_free
  stack_end h = let e : length c - k ≡ 0 = omega arith in (rw e at w.rest, omega arith)

  module _ (h : k < length c) where
    opened : stack_free c (length c - (k + 1)) (k + 1) (push_if (eqb (get_or c k 0) 0) k (stack_of s top)) ≡ stack_free c (length c) 0 []
    unfolding stack_free
    opened =
        let e : length c - k ≡ suc (length c - (k + 1)) = omega arith in
        subst (λ (x : ℕ). stack_free c (length c - (k + 1)) x (push_if (eqb (get_or c k 0) 0) k (stack_of s top)) ≡ stack_free c (length c) 0 []) (sym (add-one k)) (rw e at w.rest)

    pub stack_push : top < length s → get_or c k 0 ≡ 0 → Stacking c s₀ (set s top k) (top + 1) (k + 1)
    stack_push room z =
        record {
          within = omega arith;
          fits = omega arith;
          sized = length-set s top k ∙ w.sized;
          rest = rw (stack_of_push s top k room) (rw (eq-eqb _ _ z) at opened);
        }

    pub stack_skip : (get_or c k 0 ≡ 0 → ⊥) → Stacking c s₀ s top (k + 1)
    stack_skip nz = record { within = omega arith; fits = omega arith; sized = w.sized; rest = rw (ne_eqb _ _ nz) at opened }
