-- What holds of the counts, the stack and the activities taken, at each moment of the order. Assumes nothing.
use mathlib.Core.Path.{◌≡◌, refl, sym, ap, ◌∙◌, subst}
use mathlib.Core.Bool.{Bool, true, false}
use mathlib.Core.List.{List, [], ◌∷◌}
use mathlib.Core.Logic.{⊎_elim}
use Prim.Native.Nat.{ℕ, ◌+◌, ◌-◌, ◌≤◌, ◌<◌}
use native.Mathlib.Omega.{arith}
use lib.ListN.{length, get_or, set, length-set}
use lib.Seq.{get_or-set_same, get_or-set_other}
use lib.Dec.{eqb}
use borrow.Author.Tests.{eqb-true, eqb-false}
use Rattle.graph.specs.Counting.{count_of, Below}
use Rattle.graph.specs.Order.{State, push_if, free, free_all}
use Rattle.graph.proofs.CountingLaws.{hit-eq, hit-ne, same?, sum_to-ap, sum_to-add, sum_to-le, count_all, is_zero, is_zero-le, is_zero_of, is_zero_pos, left, left_more}

module _ (n : ℕ) (succs : ℕ → List ℕ) where
  -- `d` are the activities taken, and `rest` is what the one taken last has yet to free
  pub record Inv (d counts stack rest : List ℕ) : Type 0 where
    pub long : n ≤ length counts
    pub stacked : Below n stack
    pub taken : Below n d
    pub waits : (b : ℕ) → b < n → get_or counts b 0 ≡ left n d (λ a. count_of b (succs a)) + count_of b rest
    pub once : (b : ℕ) → b < n → count_of b d + count_of b stack ≡ is_zero (get_or counts b 0)

  -- a number that is freed waits for something
  pub waiting : (b : ℕ) (d counts stack rest : List ℕ) → b < n → Inv d counts stack (b ∷ rest) → 0 < get_or counts b 0
  unfolding count_of
  waiting b d counts stack rest h v = omega (arith, v.waits b h, hit-eq b b refl)

  waits_less : (b : ℕ) (d counts stack rest : List ℕ) → b < n → Inv d counts stack (b ∷ rest) → (x : ℕ) → x < n
      → get_or (set counts b (get_or counts b 0 - 1)) x 0 ≡ left n d (λ a. count_of x (succs a)) + count_of x rest
  unfolding count_of
  waits_less b d counts stack rest h v x k =
      let w = v.waits x k in
      let l = v.long in
      ⊎_elim
      (λ e. subst (λ y. get_or (set counts b (get_or counts b 0 - 1)) y 0 ≡ left n d (λ a. count_of x (succs a)) + count_of x rest) (sym e)
      (get_or-set_same counts b (get_or counts b 0 - 1) 0 (omega arith) ∙ omega (arith, hit-eq b x (sym e), ap (λ y. get_or counts y 0) e)))
      (λ ne. get_or-set_other counts b x (get_or counts b 0 - 1) 0 ne ∙ omega (arith, hit-ne b x (λ e. ne (sym e))))
      (same? x b)

  once_less : (b : ℕ) (d counts stack rest : List ℕ) → b < n → Inv d counts stack (b ∷ rest) → (t : Bool) → eqb (get_or counts b 0 - 1) 0 ≡ t → (x : ℕ) → x < n
      → count_of x d + count_of x (push_if t b stack) ≡ is_zero (get_or (set counts b (get_or counts b 0 - 1)) x 0)
  unfolding count_of
  once_less b d counts stack rest h v t q x k =
      ⊎_elim
      (λ e. subst (λ y. count_of y d + count_of y (push_if t b stack) ≡ is_zero (get_or (set counts b (get_or counts b 0 - 1)) y 0)) (sym e)
      (mine t q ∙ ap is_zero (sym (get_or-set_same counts b (get_or counts b 0 - 1) 0 (omega (arith, v.long))))))
      (λ ne. other ne t ∙ ap is_zero (sym (get_or-set_other counts b x (get_or counts b 0 - 1) 0 ne)))
      (same? x b)
    where
      pos : 0 < get_or counts b 0
      pos = waiting b d counts stack rest h v

      mine : (t : Bool) → eqb (get_or counts b 0 - 1) 0 ≡ t → count_of b d + count_of b (push_if t b stack) ≡ is_zero (get_or counts b 0 - 1)
      mine true q = omega (arith, hit-eq b b refl, v.once b h, is_zero_pos (get_or counts b 0) pos, is_zero_of (get_or counts b 0 - 1) (eqb-true _ _ q))
      mine false q =
          let nz = eqb-false (get_or counts b 0 - 1) 0 q in
          omega (arith, v.once b h, is_zero_pos (get_or counts b 0) pos, is_zero_pos (get_or counts b 0 - 1) (omega arith))

      other : (x ≡ b → ⊥) → (t : Bool) → count_of x d + count_of x (push_if t b stack) ≡ is_zero (get_or counts x 0)
      other ne true = omega (arith, hit-ne b x (λ e. ne (sym e)), v.once x k)
      other ne false = v.once x k

  stacked_more : (b : ℕ) (stack : List ℕ) (t : Bool) → b < n → Below n stack → Below n (push_if t b stack)
  unfolding Below
  stacked_more b stack true h s = (h, s)
  stacked_more b stack false h s = s

  -- one arc is met
  pub free_inv : (b : ℕ) (d counts stack rest : List ℕ) → b < n → Inv d counts stack (b ∷ rest)
      → Inv d (set counts b (get_or counts b 0 - 1)) (push_if (eqb (get_or counts b 0 - 1) 0) b stack) rest
  free_inv b d counts stack rest h v =
      record {
        long = rw length-set v.long;
        stacked = stacked_more b stack (eqb (get_or counts b 0 - 1) 0) h v.stacked;
        taken = v.taken;
        waits = waits_less b d counts stack rest h v;
        once = once_less b d counts stack rest h v (eqb (get_or counts b 0 - 1) 0) refl;
      }

  pub free_all_inv : (bs d : List ℕ) (s : State) → Below n bs → Inv d s.counts s.stack bs → Inv d (free_all bs s).counts (free_all bs s).stack []
  unfolding free_all Below
  free_all_inv [] d s h v = v
  free_all_inv (b ∷ bs) d s h v = free_all_inv bs d (free b s) h.1 (free_inv b d s.counts s.stack bs h.0 v)

  -- the one on top was not taken before
  pub top_new : (a : ℕ) (d counts stack : List ℕ) → Inv d counts (a ∷ stack) [] → count_of a d ≡ 0
  unfolding count_of Below
  top_new a d counts stack v = omega (arith, v.once a v.stacked.0, hit-eq a a refl, is_zero-le (get_or counts a 0))

  -- one activity is taken
  pub take_inv : (a : ℕ) (d counts stack : List ℕ) → Inv d counts (a ∷ stack) [] → Inv (a ∷ d) counts stack (succs a)
  unfolding count_of Below
  take_inv a d counts stack v =
      record {
        long = v.long;
        stacked = v.stacked.1;
        taken = (v.stacked.0, v.taken);
        waits = λ b h. omega (arith, v.waits b h, left_more n a d (λ x. count_of b (succs x)) v.stacked.0 (top_new a d counts stack v));
        once = λ b h. omega (arith, v.once b h);
      }

  -- no more than n are taken and stacked
  pub room : (d counts stack rest : List ℕ) → Inv d counts stack rest → length d + length stack ≤ n
  room d counts stack rest v =
      omega (
        arith,
        count_all n d v.taken,
        count_all n stack v.stacked,
        sum_to-add n (λ i. count_of i d) (λ i. count_of i stack),
        sum_to-ap n (λ i. count_of i d + count_of i stack) (λ i. is_zero (get_or counts i 0)) v.once,
        sum_to-le n (λ i. is_zero (get_or counts i 0)) (λ i. is_zero-le (get_or counts i 0)),
      )
