-- The order is short exactly when the arcs close a circle; otherwise it names each activity once, after all that it waits for.
-- Assumes nothing.
use mathlib.Core.Path.{◌≡◌, refl, sym, ap, ◌∙◌, subst}
use mathlib.Core.Bool.{Bool, true, false}
use mathlib.Core.List.{List, [], ◌∷◌}
use mathlib.Core.Logic.{⊎_elim}
use Prim.Native.Nat.{ℕ, zero, suc, ◌+◌, ◌≤◌, ◌<◌}
use native.Mathlib.Omega.{arith}
use lib.ListN.{length, get_or}
use lib.Dec.{eqb}
use borrow.Author.Tests.{eqb-true, eqb-false}
use Rattle.graph.specs.Counting.{count_of, sum_to, Below}
use Rattle.graph.specs.Arcs.{Leads, one, more, Circle, arcs_into}
use Rattle.graph.specs.Order.{push_if, free_all, order_from, stack_free, InTurn}
use Rattle.graph.proofs.CountingLaws.{hit-eq, hit-ne, same?, sum_to-ap, sum_to-le, sum_to_short, sum_to_full, count_all, is_zero, is_zero-le, is_zero_of, is_zero_pos, pos_of, left-nil, left_none, left_some}
use Rattle.graph.proofs.CircleLaws.{circle}
use Rattle.graph.proofs.Invariant.{Inv, free_all_inv, take_inv, top_new, room}

-- the list o, turned round, before d
unfoldable pub onto : List ℕ → List ℕ → List ℕ
onto [] d = d
onto (a ∷ o) d = onto o (a ∷ d)

pub onto-length : (o d : List ℕ) → length (onto o d) ≡ length o + length d
unfolding onto
onto-length [] d = omega arith
onto-length (a ∷ o) d = omega (arith, onto-length o (a ∷ d))

pub onto_count : (b : ℕ) (o d : List ℕ) → count_of b (onto o d) ≡ count_of b o + count_of b d
unfolding onto count_of
onto_count b [] d = omega arith
onto_count b (a ∷ o) d = omega (arith, onto_count b o (a ∷ d))

-- p frees a
abbrev pub Frees : ℕ → (ℕ → List ℕ) → ℕ → ℕ → Type 0
Frees n succs p a = (p < n) × (0 < count_of a (succs p))

-- the first activities of all that wait for nothing
pub stack_below : (n : ℕ) (counts : List ℕ) (m k : ℕ) (st : List ℕ) → k + m ≡ n → Below n st → Below n (stack_free counts m k st)
unfolding stack_free Below
stack_below n counts zero k st e h = h
stack_below n counts (suc m) k st e h = stack_below n counts m (suc k) _ (omega arith) (go (eqb (get_or counts k 0) 0))
  where
    go : (t : Bool) → Below n (push_if t k st)
    go true = (omega arith, h)
    go false = h

stack_count : (n : ℕ) (counts : List ℕ) (m k : ℕ) (st : List ℕ) → k + m ≡ n
    → ((b : ℕ) → b < k → count_of b st ≡ is_zero (get_or counts b 0)) → ((b : ℕ) → k ≤ b → count_of b st ≡ 0)
    → (b : ℕ) → b < n → count_of b (stack_free counts m k st) ≡ is_zero (get_or counts b 0)
unfolding stack_free count_of
stack_count n counts zero k st e lo hi b h = lo b (omega arith)
stack_count n counts (suc m) k st e lo hi b h =
    stack_count n counts m (suc k) (push_if (eqb (get_or counts k 0) 0) k st) (omega arith) (below (eqb (get_or counts k 0) 0) refl) (above (eqb (get_or counts k 0) 0)) b h
  where
    mine : (t : Bool) → eqb (get_or counts k 0) 0 ≡ t → count_of k (push_if t k st) ≡ is_zero (get_or counts k 0)
    mine true q = omega (arith, hit-eq k k refl, hi k (omega arith), is_zero_of (get_or counts k 0) (eqb-true _ _ q))
    mine false q =
        let nz = eqb-false (get_or counts k 0) 0 q in
        omega (arith, hi k (omega arith), is_zero_pos (get_or counts k 0) (omega arith))

    old : (t : Bool) (x : ℕ) → (k ≡ x → ⊥) → count_of x (push_if t k st) ≡ count_of x st
    old true x ne = omega (arith, hit-ne k x ne)
    old false x ne = refl

    below : (t : Bool) → eqb (get_or counts k 0) 0 ≡ t → (x : ℕ) → x < suc k → count_of x (push_if t k st) ≡ is_zero (get_or counts x 0)
    below t q x l =
        ⊎_elim (λ e'. subst (λ y. count_of y (push_if t k st) ≡ is_zero (get_or counts y 0)) e' (mine t q)) (λ ne. old t x ne ∙ lo x (omega arith)) (same? k x)

    above : (t : Bool) (x : ℕ) → suc k ≤ x → count_of x (push_if t k st) ≡ 0
    above t x l = old t x (λ e'. omega arith) ∙ hi x (omega arith)

module _ (n : ℕ) (succs : ℕ → List ℕ) where
  -- what the order and the last counts are
  pub record Ordered (d o : List ℕ) : Type 0 where
    pub turns : InTurn n (Frees n succs) d o
    pub counts : List ℕ
    pub last : Inv n succs (onto o d) counts [] []

  empty : (d counts stack : List ℕ) → n ≤ length d → Inv n succs d counts stack [] → stack ≡ []
  empty d counts [] h v = refl
  empty d counts (a ∷ stack) h v = absurd (omega (arith, room n succs d counts (a ∷ stack) [] v))

  met : (a : ℕ) (d counts stack : List ℕ) → Inv n succs d counts (a ∷ stack) [] → (p : ℕ) → Frees n succs p a → 0 < count_of p d
  unfolding count_of Below
  met a d counts stack v p r =
      left_none n d (λ x. count_of a (succs x)) (omega (arith, v.waits a v.stacked.0, zero_count)) p r.0 r.1
    where
      zero_count : get_or counts a 0 ≡ 0
      zero_count =
          ⊎_elim (λ e. e) (λ ne. absurd (omega (arith, v.once a v.stacked.0, hit-eq a a refl, is_zero_pos (get_or counts a 0) (omega arith)))) (same? (get_or counts a 0) 0)

  module _ (below : (a : ℕ) → a < n → Below n (succs a)) where
    pub ordered : (fuel : ℕ) (d counts stack : List ℕ) → length d + fuel ≡ n → Inv n succs d counts stack [] → Ordered d (order_from succs fuel counts stack)
    unfolding order_from onto InTurn Below
    ordered zero d counts stack e v = record { turns = tt; counts = counts; last = subst (λ s. Inv n succs d counts s []) (empty d counts stack (omega arith) v) v }
    ordered (suc fuel) d counts [] e v = record { turns = tt; counts = counts; last = v }
    ordered (suc fuel) d counts (a ∷ stack) e v =
        let s = free_all (succs a) (record { counts = counts; stack = stack }) in
        let h = v.stacked.0 in
        let r = ordered fuel (a ∷ d) s.counts s.stack (omega arith) (free_all_inv n succs (succs a) (a ∷ d) (record { counts = counts; stack = stack }) (below a h) (take_inv n succs a d counts stack v)) in
        record { turns = (h, top_new n succs a d counts stack v, met a d counts stack v, r.turns); counts = r.counts; last = r.last }

  -- counts that are right, and the stack of those at 0
  pub start_inv : (counts : List ℕ) → n ≤ length counts → ((b : ℕ) → b < n → get_or counts b 0 ≡ arcs_into n succs b) → Inv n succs [] counts (stack_free counts n 0 []) []
  unfolding count_of Below
  start_inv counts l w =
      record {
        long = l;
        stacked = stack_below n counts n 0 [] (omega arith) tt;
        taken = tt;
        waits = λ b h. omega (arith, w b h, left-nil n (λ a. count_of b (succs a)));
        once = λ b h. omega (arith, stack_count n counts n 0 [] (omega arith) (λ x k. absurd (omega arith)) (λ x k. refl) b h);
      }

  module _ (o : List ℕ) (r : Ordered [] o) where
    total : length o ≡ sum_to n (λ b. is_zero (get_or r.counts b 0))
    unfolding count_of
    total =
        omega (
          arith,
          onto-length o [],
          count_all n (onto o []) r.last.taken,
          sum_to-ap n (λ b. count_of b (onto o [])) (λ b. is_zero (get_or r.counts b 0)) (λ b h. omega (arith, r.last.once b h)),
        )

    -- as many as there are: each is there
    pub all_there : length o ≡ n → (a : ℕ) → a < n → 0 < count_of a o
    unfolding count_of
    all_there e a h =
        omega
        (arith, onto_count a o [], r.last.once a h, sum_to_full n (λ b. is_zero (get_or r.counts b 0)) (λ b. is_zero-le (get_or r.counts b 0)) (sym total ∙ e) a h)

    -- each is there once at most
    pub named-once : (a : ℕ) → a < n → count_of a o ≤ 1
    unfolding count_of
    named-once a h = omega (arith, onto_count a o [], r.last.once a h, is_zero-le (get_or r.counts a 0))

    -- one that was not taken waits for one that was not taken
    stuck : (a : ℕ) → a < n → 0 < get_or r.counts a 0 → (p : ℕ) × (p < n) × (0 < get_or r.counts p 0) × Frees n succs p a
    unfolding count_of
    stuck a h w =
        let q = left_some n (onto o []) (λ x. count_of a (succs x)) (omega (arith, r.last.waits a h)) in
        (q.0, q.1, pos_of (get_or r.counts q.0 0) (omega (arith, r.last.once q.0 q.1)), (q.1, q.3))

    -- fewer than there are: a circle
    pub short_circle : length o < n → Circle n (Frees n succs)
    short_circle h =
        let q = sum_to_short n (λ b. is_zero (get_or r.counts b 0)) (λ b. is_zero-le (get_or r.counts b 0)) (omega (arith, total)) in
        circle n (Frees n succs) (λ a. 0 < get_or r.counts a 0) stuck q.0 q.1 (pos_of (get_or r.counts q.0 0) q.2)

    pub at_most : length o ≤ n
    at_most = omega (arith, total, sum_to-le n (λ b. is_zero (get_or r.counts b 0)) (λ b. is_zero-le (get_or r.counts b 0)))

-- in an order no circle is closed
module _ (n : ℕ) (R : ℕ → ℕ → Type 0) where
  abbrev pub Closed : List ℕ → Type 0
  Closed d = (p a : ℕ) → R p a → 0 < count_of a d → 0 < count_of p d

  led : (d : List ℕ) → Closed d → {x a : ℕ} → ((p : ℕ) → R p a → 0 < count_of p d) → Leads R x a → 0 < count_of x d
  led d c h (one r) = h _ r
  led d c h (more {a = x} {b = b} r l) = c x b r (led d c h l)

  pub closed_more : (a : ℕ) (d : List ℕ) → Closed d → ((p : ℕ) → R p a → 0 < count_of p d) → Closed (a ∷ d)
  unfolding count_of
  closed_more a d c h p b r k =
      ⊎_elim (λ e. omega (arith, h p (subst (λ y. R p y) (sym e) r))) (λ ne. omega (arith, c p b r (omega (arith, hit-ne a b ne)))) (same? a b)

  no_circle_from : (o d : List ℕ) → InTurn n R d o → Closed d → (a : ℕ) → 0 < count_of a o → Leads R a a → ⊥
  unfolding InTurn count_of
  no_circle_from [] d t c a k l = omega arith
  no_circle_from (x ∷ o) d t c a k l =
      ⊎_elim
      (λ e. absurd (omega (arith, t.1, ap (λ y. count_of y d) e, led d c (λ p r. t.2 p (subst (λ y. R p y) (sym e) r)) l)))
      (λ ne. no_circle_from o (x ∷ d) t.3 (closed_more x d c t.2) a (omega (arith, hit-ne x a ne)) l)
      (same? x a)

  pub no_circle : (o : List ℕ) → InTurn n R [] o → ((a : ℕ) → a < n → 0 < count_of a o) → Circle n R → ⊥
  unfolding count_of
  no_circle o t all q = no_circle_from o [] t (λ p a r k. absurd (omega arith)) q.0 (all q.0 q.1) q.2

-- all that an order names is below n
pub turns_below : (n : ℕ) (R : ℕ → ℕ → Type 0) (d o : List ℕ) → InTurn n R d o → Below n o
unfolding InTurn Below
turns_below n R d [] t = tt
turns_below n R d (a ∷ o) t = (t.0, turns_below n R (a ∷ d) o t.3)

pub turns_map : (n : ℕ) {R Q : ℕ → ℕ → Type 0} → ((p a : ℕ) → Q p a → R p a) → (d o : List ℕ) → InTurn n R d o → InTurn n Q d o
unfolding InTurn
turns_map n f d [] t = tt
turns_map n f d (a ∷ o) t = (t.0, t.1, λ p q. t.2 p (f p a q), turns_map n f (a ∷ d) o t.3)
