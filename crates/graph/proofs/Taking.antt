-- The loop of `take_all`: what is taken, then what the rules take from here, is what they take from the start. Assumes nothing.
use mathlib.Core.Path.{◌≡◌, refl, sym, ap, ◌∙◌, subst}
use mathlib.Core.List.{List, [], ◌∷◌, ◌++◌, append-nil}
use mathlib.Core.Logic.{⊎_elim}
use Prim.Native.Nat.{ℕ, zero, suc, ◌+◌, ◌-◌, ◌≤◌, ◌<◌}
use native.Mathlib.Numerals.{add-one}
use native.Mathlib.Omega.{arith}
use lib.ListN.{length, get_or, set, take, length-set, length-append}
use lib.Seq.{take-suc-set, append_snoc, length-take-le}
use Rattle.graph.specs.Order.{State, free_all, order_from}
use Rattle.graph.specs.Run.{stack_of, state_of, Safe, SafeRun}
use Rattle.graph.proofs.CountingLaws.{same?}
use Rattle.graph.proofs.StackLaws.{length-stack_of, stack_of_pop}

pub record Taking (n : ℕ) (succs : ℕ → List ℕ) (c₀ s₀ : List ℕ) (top₀ : ℕ) (o₀ c s : List ℕ) (o : List ℕ) (top k : ℕ) : Type 0 where
  pub within : k ≤ length o₀
  pub orderly : length o ≡ length o₀
  pub counted : length c ≡ length c₀
  pub roomy : length s ≡ length s₀
  pub fits : top ≤ length s₀
  pub safe : SafeRun n succs (length o₀ - k) c (stack_of s top) (length s₀)
  pub rest : take k o ++ order_from succs (length o₀ - k) c (stack_of s top) ≡ order_from succs (length o₀) c₀ (stack_of s₀ top₀)

at_end_lem : (l r : List ℕ) (x : ℕ) → get_or (l ++ (x ∷ r)) (length l) 0 ≡ x
at_end_lem [] r x = refl
at_end_lem (y ∷ l) r x = at_end_lem l r x

dry : (n : ℕ) (succs : ℕ → List ℕ) (most : ℕ) (c s : List ℕ) (top room : ℕ) → most ≡ 0 → 0 < top → SafeRun n succs most c (stack_of s top) room → ⊥
unfolding SafeRun
dry n succs zero c s top room e h q = omega (arith, length-stack_of s top, ap length q)
dry n succs (suc most) c s top room e h q = omega arith

done : (succs : ℕ → List ℕ) (most : ℕ) (c : List ℕ) → order_from succs most c [] ≡ []
unfolding order_from
done succs zero c = refl
done succs (suc most) c = refl

module _ {n : ℕ} {succs : ℕ → List ℕ} {c₀ s₀ : List ℕ} {top₀ : ℕ} {o₀ : List ℕ} where
  pub take_begin : top₀ ≤ length s₀ → SafeRun n succs (length o₀) c₀ (stack_of s₀ top₀) (length s₀) → Taking n succs c₀ s₀ top₀ o₀ c₀ s₀ o₀ top₀ 0
  take_begin h q =
      let e : length o₀ - 0 ≡ length o₀ = omega arith in
      record { within = omega arith; orderly = refl; counted = refl; roomy = refl; fits = h; safe = rw e q; rest = rw e }

  module _ {c s o : List ℕ} {top k : ℕ} (w : Taking n succs c₀ s₀ top₀ o₀ c s o top k) where
    pub take_end : top ≤ 0 → (take k o ≡ order_from succs (length o₀) c₀ (stack_of s₀ top₀)) × (k ≤ length o₀)
    unfolding stack_of
    take_end h =
        let e : top ≡ 0 = omega arith in
        let q : take k o ++ [] ≡ order_from succs (length o₀) c₀ (stack_of s₀ top₀) = rw (done succs (length o₀ - k) c) at (rw e at w.rest) in
        (rw append-nil at q, w.within)

    module _ (h : 0 < top) where
      -- there is a place for one more
      pub take-place : k < length o₀
      take-place =
          ⊎_elim (λ e. absurd (dry n succs (length o₀ - k) c s top (length s₀) (omega arith) h w.safe)) (λ ne. omega (arith, w.within)) (same? k (length o₀))

      one_less : length o₀ - k ≡ suc (length o₀ - (k + 1))
      one_less = omega (arith, take-place)

      opened : SafeRun n succs (suc (length o₀ - (k + 1))) c (get_or s (top - 1) 0 ∷ stack_of s (top - 1)) (length s₀)
      opened = rw (one_less, stack_of_pop s top h) at w.safe

      -- it is the next of the whole order
      pub take_next : (get_or (order_from succs (length o₀) c₀ (stack_of s₀ top₀)) k 0 ≡ get_or s (top - 1) 0) × (k < length (order_from succs (length o₀) c₀ (stack_of s₀ top₀)))
      unfolding order_from
      take_next = behind (take k o) _ (length-take-le k o (omega (arith, w.within, w.orderly))) (rw (one_less, stack_of_pop s top h) at w.rest)
        where
          behind : (l r : List ℕ) {x : ℕ} {m : List ℕ} → length l ≡ k → l ++ (x ∷ r) ≡ m → (get_or m k 0 ≡ x) × (k < length m)
          behind l r {x} {m} e q =
              let z = length-append l (x ∷ r) in
              let y = ap length q in
              (sym (ap (λ (y : List ℕ). get_or y k 0) q) ∙ ap (λ (j : ℕ). get_or (l ++ (x ∷ r)) j 0) (sym e) ∙ at_end_lem l r x, omega arith)

      -- what `release` asks
      pub take_known : get_or s (top - 1) 0 < n
      unfolding SafeRun
      take_known = opened.0

      pub take_asks : Safe (succs (get_or s (top - 1) 0)) (state_of c s (top - 1)) (length s)
      unfolding SafeRun
      take_asks = rw w.roomy opened.1

      pub take_again : {c' s' : List ℕ} {r : ℕ} → state_of c' s' r ≡ free_all (succs (get_or s (top - 1) 0)) (state_of c s (top - 1)) → length c' ≡ length c → length s' ≡ length s → r ≤ length s
          → Taking n succs c₀ s₀ top₀ o₀ c' s' (set o k (get_or s (top - 1) 0)) r (k + 1)
      unfolding SafeRun order_from
      take_again st cl sl rl =
          record {
            within = omega (arith, take-place);
            orderly = length-set o k (get_or s (top - 1) 0) ∙ w.orderly;
            counted = cl ∙ w.counted;
            roomy = sl ∙ w.roomy;
            fits = omega (arith, w.roomy);
            safe = subst (λ (x : State). SafeRun n succs (length o₀ - (k + 1)) x.counts x.stack (length s₀)) (sym st) opened.2;
            rest =
                rw (add-one, take-suc-set o k (get_or s (top - 1) 0) (omega (arith, take-place, w.orderly)), append_snoc)
                (subst (λ (x : State). take k o ++ (get_or s (top - 1) 0 ∷ order_from succs (length o₀ - suc k) x.counts x.stack) ≡ order_from succs (length o₀) c₀ (stack_of s₀ top₀)) (sym st)
                (rw add-one at (rw (one_less, stack_of_pop s top h) at w.rest)));
          }
