-- The loops over a list: ranks that are put, and whether one of the list is not settled.
use Prim.Native.Nat.{ℕ, ◌+◌, ◌-◌, ◌≤◌, ◌<◌}
use mathlib.Core.Path.{◌≡◌, refl, sym, ap, ◌∙◌}
use mathlib.Core.Bool.{Bool, true, false, not, ◌||◌}
use mathlib.Core.List.{List}
use native.Mathlib.Omega.{arith}
use native.Mathlib.Numerals.{add-one}
use borrow.Author.Tests.{eq-eqb, ne_eqb}
use lib.ListN.{length, get_or, set, drop, length-set}
use Rattle.in_order.proofs.ReadyLaws.{next_of, none_left}
use Rattle.active.specs.Active.{ranked_from, settled_in, any_unsettled}

pub denied : (r : Bool) → not r ≡ true → r ≡ false
denied true e = sym e
denied false e = refl

pub granted : (r : Bool) → not r ≡ false → r ≡ true
granted true e = refl
granted false e = sym e

-- ---- `put_ranks`

pub record Ranking (activities ranks₀ ranks : List ℕ) (i : ℕ) : Type 0 where
  pub within : i ≤ length activities
  pub sized : length ranks ≡ length ranks₀
  pub rest : ranked_from i (drop i activities) ranks ≡ ranked_from 0 activities ranks₀

module _ {activities ranks₀ ranks : List ℕ} {i : ℕ} (w : Ranking activities ranks₀ ranks i) where
  pub rank_again : i < length activities → Ranking activities ranks₀ (set ranks (get_or activities i 0) i) (i + 1)
  unfolding ranked_from
  rank_again h =
      record {
        within = omega arith;
        sized = length-set ranks (get_or activities i 0) i ∙ w.sized;
        rest =
            ap (λ (k : ℕ). ranked_from k (drop (i + 1) activities) (set ranks (get_or activities i 0) i)) (add-one i)
            ∙ sym (next_of (λ (l : List ℕ). ranked_from i l ranks) activities i h) ∙ w.rest;
      }

  pub rank_end : length activities ≤ i → ranks ≡ ranked_from 0 activities ranks₀
  unfolding ranked_from
  rank_end h = sym (none_left (λ (l : List ℕ). ranked_from i l ranks) activities i w.within h) ∙ w.rest

-- ---- `any_unsettled`

pub record Asking (settled list : List ℕ) (i : ℕ) : Type 0 where
  pub within : i ≤ length list
  pub left : any_unsettled settled (drop i list) ≡ any_unsettled settled list

module _ {settled list : List ℕ} {i : ℕ} (w : Asking settled list i) where
  pub none_unsettled : length list ≤ i → false ≡ any_unsettled settled list
  unfolding any_unsettled
  none_unsettled h = sym (none_left (any_unsettled settled) list i w.within h) ∙ w.left

  module _ (h : i < length list) where
    asked : (not (settled_in settled (get_or list i 0)) || any_unsettled settled (drop (i + 1) list)) ≡ any_unsettled settled list
    unfolding any_unsettled
    asked = sym (next_of (any_unsettled settled) list i h) ∙ w.left

    pub one_unsettled : (get_or settled (get_or list i 0) 0 ≡ 1 → ⊥) → true ≡ any_unsettled settled list
    one_unsettled ne = rw (ne_eqb (get_or settled (get_or list i 0) 0) 1 ne) at asked

    pub ask_again : get_or settled (get_or list i 0) 0 ≡ 1 → Asking settled list (i + 1)
    ask_again e = record { within = omega arith; left = rw (eq-eqb (get_or settled (get_or list i 0) 0) 1 e) at asked }
