-- Starts placed one after the other along an order: they meet a monotone rule and are the least that do. Assumes nothing.
use mathlib.Core.Path.{◌≡◌, refl, sym, ap, ◌∙◌, subst}
use mathlib.Core.List.{List, [], ◌∷◌, ◌++◌}
use mathlib.Core.Logic.{⊎_elim}
use Prim.Native.Nat.{ℕ, ◌+◌, ◌≤◌, ◌<◌}
use native.Mathlib.Nat.{le_antisymm, le_trans, le_of_eq}
use native.Mathlib.Omega.{arith}
use lib.ListN.{length, get_or, length-set}
use lib.Seq.{get_or-set_same, get_or-set_other}
use Rattle.graph.specs.Counting.{count_of, hit}
use Rattle.graph.specs.Order.{InTurn}
use Rattle.graph.specs.Starts.{Rule, ends_of, place, timed, Meets}
use Rattle.graph.proofs.CountingLaws.{hit-ne, same?}
use Rattle.graph.proofs.OrderLaws.{Closed, closed_more}

pub timed-append : (rule : Rule) (span : ℕ → ℕ) (o p s : List ℕ) → timed rule span (o ++ p) s ≡ timed rule span p (timed rule span o s)
unfolding timed
timed-append rule span [] p s = refl
timed-append rule span (a ∷ o) p s = timed-append rule span o p (place rule span a s)

module _ (n : ℕ) (R : ℕ → ℕ → Type 0) (rule : Rule) (span : ℕ → ℕ)
    (mono : (a : ℕ) (f g : ℕ → ℕ) → a < n → ((p : ℕ) → R p a → f p ≤ g p) → rule a f ≤ rule a g) where
  -- of those in d, the starts are as the rule says
  Placed : List ℕ → List ℕ → Type 0
  Placed d s = (a : ℕ) → a < n → 0 < count_of a d → get_or s a 0 ≡ rule a (ends_of span s)

  -- a later place changes no rule of an activity whose arcs come from d
  same_rule : (x a : ℕ) (d s : List ℕ) → a < n → count_of x d ≡ 0 → ((p : ℕ) → R p a → 0 < count_of p d)
      → rule a (ends_of span (place rule span x s)) ≡ rule a (ends_of span s)
  same_rule x a d s l z h =
      le_antisymm (mono a _ _ l (λ p r. le_of_eq (kept p r))) (mono a _ _ l (λ p r. le_of_eq (sym (kept p r))))
    where
      kept : (p : ℕ) → R p a → ends_of span (place rule span x s) p ≡ ends_of span s p
      kept p r = ap (λ y. y + span p) (get_or-set_other s x p (rule x (ends_of span s)) 0 (λ e. omega (arith, h p r, ap (λ y. count_of y d) e)))

  placed_more : (x : ℕ) (d s : List ℕ) → x < n → x < length s → count_of x d ≡ 0 → ((p : ℕ) → R p x → 0 < count_of p d) → Closed n R d → Placed d s
      → Placed (x ∷ d) (place rule span x s)
  unfolding Placed count_of
  placed_more x d s b l z h c w a t k =
      ⊎_elim
      (λ e. subst (λ y. get_or (place rule span x s) y 0 ≡ rule y (ends_of span (place rule span x s))) e
      (get_or-set_same s x (rule x (ends_of span s)) 0 l ∙ sym (same_rule x x d s b z h)))
      (λ ne. old ne (omega (arith, hit-ne x a ne))) (same? x a)
    where
      old : (x ≡ a → ⊥) → 0 < count_of a d → get_or (place rule span x s) a 0 ≡ rule a (ends_of span (place rule span x s))
      old ne m = get_or-set_other s x a (rule x (ends_of span s)) 0 (λ e. ne (sym e)) ∙ w a t m ∙ sym (same_rule x a d s t z (λ p r. c p a r m))

  timed_from : (o d s : List ℕ) → n ≤ length s → InTurn n R d o → Closed n R d → Placed d s → (a : ℕ) → a < n → 0 < count_of a o + count_of a d
      → get_or (timed rule span o s) a 0 ≡ rule a (ends_of span (timed rule span o s))
  unfolding timed InTurn count_of Placed
  timed_from [] d s l t c w a h k = w a h (omega arith)
  timed_from (x ∷ o) d s l t c w a h k =
      timed_from o (x ∷ d) (place rule span x s) (rw length-set l) t.3 (closed_more n R x d c t.2)
      (placed_more x d s t.0 (omega arith) t.1 t.2 c w) a h (omega arith)

  -- no starts that meet the rule are before
  least_from : (o d s : List ℕ) → n ≤ length s → InTurn n R d o → (S : ℕ → ℕ) → Meets n rule span S → ((a : ℕ) → 0 < count_of a d → get_or s a 0 ≤ S a)
      → (a : ℕ) → 0 < count_of a o + count_of a d → get_or (timed rule span o s) a 0 ≤ S a
  unfolding timed InTurn count_of
  least_from [] d s l t S m w a k = w a (omega arith)
  least_from (x ∷ o) d s l t S m w a k =
      least_from o (x ∷ d) (place rule span x s) (rw length-set l) t.3 S m more a (omega arith)
    where
      here : rule x (ends_of span s) ≤ S x
      here = le_trans (mono x (ends_of span s) (λ p. S p + span p) t.0 (λ p r. omega (arith, w p (t.2 p r)))) (m x t.0)

      more : (b : ℕ) → 0 < hit x b + count_of b d → get_or (place rule span x s) b 0 ≤ S b
      more b q =
          ⊎_elim (λ e. subst (λ y. get_or (place rule span x s) y 0 ≤ S y) e (le_trans (le_of_eq (get_or-set_same s x (rule x (ends_of span s)) 0 (omega arith))) here))
          (λ ne. le_trans (le_of_eq (get_or-set_other s x b (rule x (ends_of span s)) 0 (λ e. ne (sym e)))) (w b (omega (arith, hit-ne x b ne)))) (same? x b)

  module _ (o s : List ℕ) (l : n ≤ length s) (t : InTurn n R [] o) (all : (a : ℕ) → a < n → 0 < count_of a o) where
    -- each start is the earliest that the rule allows
    pub timed_meets : (a : ℕ) → a < n → get_or (timed rule span o s) a 0 ≡ rule a (ends_of span (timed rule span o s))
    unfolding Placed count_of
    timed_meets a h = timed_from o [] s l t (λ p b r k. absurd (omega arith)) (λ b q k. absurd (omega arith)) a h (omega (arith, all a h))

    pub timed-least : (S : ℕ → ℕ) → Meets n rule span S → (a : ℕ) → a < n → get_or (timed rule span o s) a 0 ≤ S a
    unfolding count_of
    timed-least S m a h = least_from o [] s l t S m (λ b k. absurd (omega arith)) a (omega (arith, all a h))
