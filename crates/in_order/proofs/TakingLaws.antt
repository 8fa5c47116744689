-- The loop that takes the first ready activity again and again: what is written and the rest are the whole order.
use Rattle.std.specs.Prelude.{None, Option, Some, ℕ}
use Prim.Native.Nat.{ℕ, zero, suc, ◌+◌, ◌-◌, ◌≤◌, ◌<◌}
use mathlib.Core.Path.{◌≡◌, refl, sym, ap, ◌∙◌, subst}
use mathlib.Core.Bool.{Bool, true, false, cond, ◌&&◌}
use mathlib.Core.List.{List, [], ◌∷◌, ◌++◌}
use mathlib.Core.List.{append-nil}
use mathlib.Core.Logic.{◌⊎◌, inl, inr, ⊎_elim}
use native.Mathlib.Omega.{arith}
use native.Mathlib.Numerals.{add-one}
use borrow.Author.Tests.{eqb-true, eqb-false}
use lib.ListN.{length, get_or, set, take, drop, replicate, length-set, length-drop}
use lib.Seq.{drop-cons, get_or-drop, take-suc-set, append_snoc, get_or-set_same, get_or-set_other, length-take-le}
use Rattle.graph.specs.Counting.{count_of, Below}
use Rattle.graph.specs.Links.{to_if}
use Rattle.graph.proofs.CountingLaws.{hit-eq, either, below_of}
use Rattle.plan.specs.Problem.{Problem}
use Rattle.lines.proofs.LinkLaws.{marked-length}
use Rattle.genes.specs.Held.{Listed}
use Rattle.in_order.specs.InOrder.{is_pending, can_come, or_else, first_ready, ready_from, all_pending, ready_order}
use Rattle.in_order.specs.Waiting.{taken_before}
use Rattle.in_order.proofs.ReadyLaws.{not_pending}

-- ---- the first that is ready

nothing_to : {A : Type 0} (q : ℕ) → None ≡ Some q → A
nothing_to q e = let z : ◌≡◌ {A = ℕ} 0 1 = cc in absurd (omega arith)

to_is : (t : Bool) (a q : ℕ) → to_if t a ≡ Some q → (t ≡ true) × (a ≡ q)
to_is true a q e = (refl, cc)
to_is false a q e = nothing_to q e

either_link : (first other : Option ℕ) (q : ℕ) → or_else first other ≡ Some q → (first ≡ Some q) ⊎ (other ≡ Some q)
either_link (Some b) other q e = inl e
either_link None other q e = inr e

-- It is one of the list, pending and ready.
pub first_is : (p : Problem) (pending l : List ℕ) (q : ℕ) → first_ready p pending l ≡ Some q → (0 < count_of q l) × (can_come p pending q ≡ true)
unfolding first_ready count_of
first_is p pending [] q e = nothing_to q e
first_is p pending (b ∷ l) q e =
    let deeper = first_is p pending l q in
    ⊎_elim
    (λ x. let w = to_is (can_come p pending b) b q x in (omega (arith, hit-eq b q w.1), ap (can_come p pending) (sym w.1) ∙ w.0))
    (λ y. let w = deeper y in (omega (arith, w.0), w.1))
    (either_link (to_if (can_come p pending b) b) (first_ready p pending l) q e)

and_left : (a b : Bool) → (a && b) ≡ true → a ≡ true
and_left true b e = refl
and_left false b e = e

pub first_pending : (p : Problem) (pending l : List ℕ) (q : ℕ) → first_ready p pending l ≡ Some q → get_or pending q 0 ≡ 1
first_pending p pending l q e = eqb-true (get_or pending q 0) 1 (and_left (is_pending pending q) _ (first_is p pending l q e).1)

-- ---- the front

abbrev pub Passed : (pending activities : List ℕ) → ℕ → Type 0
Passed pending activities front = (i : ℕ) → i < front → get_or pending (get_or activities i 0) 0 ≡ 1 → ⊥

-- Nothing before the front can come.
pub from_front : (p : Problem) (pending activities : List ℕ) (front : ℕ) → front ≤ length activities → Passed pending activities front
    → first_ready p pending (drop front activities) ≡ first_ready p pending activities
unfolding first_ready
from_front p pending activities zero h passed = refl
from_front p pending activities (suc i) h passed =
    let b = get_or activities i 0 in
    let z : can_come p pending b ≡ false = sym (not_pending p pending b (passed i (omega arith))) in
    let e : first_ready p pending (drop i activities) ≡ first_ready p pending (drop (suc i) activities) =
    ap (first_ready p pending) (drop-cons activities i 0 (omega arith)) ∙ rw z refl in
    sym e ∙ from_front p pending activities i (omega arith) (λ j k. passed j (omega arith))

taken_most : (pending l : List ℕ) → taken_before pending l ≤ length l
unfolding taken_before
taken_most pending [] = omega arith
taken_most pending (a ∷ l) = go (is_pending pending a) (taken_most pending l)
  where
    go : (t : Bool) → taken_before pending l ≤ length l → cond t 0 (suc (taken_before pending l)) ≤ suc (length l)
    go true h = omega arith
    go false h = omega arith

taken_are : (pending l : List ℕ) (i : ℕ) → i < taken_before pending l → get_or pending (get_or l i 0) 0 ≡ 1 → ⊥
unfolding taken_before
taken_are pending [] i h e = omega arith
taken_are pending (a ∷ l) i h e = go i (is_pending pending a) refl h e (λ j. taken_are pending l j)
  where
    go : (i : ℕ) (t : Bool) → is_pending pending a ≡ t → i < cond t 0 (suc (taken_before pending l)) → get_or pending (get_or (a ∷ l) i 0) 0 ≡ 1
        → ((j : ℕ) → j < taken_before pending l → get_or pending (get_or l j 0) 0 ≡ 1 → ⊥) → ⊥
    go i true q h e deeper = omega arith
    go zero false q h e deeper = eqb-false (get_or pending a 0) 1 q e
    go (suc j) false q h e deeper = deeper j (omega arith) e

module _ (pending activities : List ℕ) {front next : ℕ} (h : front ≤ length activities) (e : next ≡ front + taken_before pending (drop front activities)) where
  pub front_within : next ≤ length activities
  front_within = omega (arith, e, taken_most pending (drop front activities), length-drop front activities)

  pub front_passed : Passed pending activities front → Passed pending activities next
  front_passed passed i k z =
      either (front - i) 0
      (λ q.
      let s : front + (i - front) ≡ i = omega arith in
      taken_are pending (drop front activities) (i - front) (omega arith) (rw (get_or-drop front activities (i - front) 0, s) z))
      (λ q. passed i (omega arith) z)

-- ---- `ready_order`

pub record Taking (activities order₀ order pending : List ℕ) (front taken : ℕ) : Type 0 where
  pub within : taken ≤ length activities
  pub fronted : front ≤ length activities
  pub sized : length order ≡ length order₀
  pub flags : length pending ≡ 128
  pub passed : Passed pending activities front
  pub kept : (i : ℕ) → taken ≤ i → get_or order i 0 ≡ get_or order₀ i 0

-- What is written so far, then what is still to come.
abbrev pub Coming : (p : Problem) (activities order pending : List ℕ) (taken : ℕ) → Type 0
Coming p activities order pending taken =
    take taken order ++ ready_from p activities (length activities - taken) (first_ready p pending activities) pending ≡ ready_order p activities

pub take_begin : (activities order pending : List ℕ) → pending ≡ all_pending activities → Taking activities order order pending 0 0
take_begin activities order pending e =
    record {
      within = omega arith;
      fronted = omega arith;
      sized = refl;
      flags = ap length e ∙ marked-length activities 1 (replicate 128 0);
      passed = λ i h. absurd (omega arith);
      kept = λ i h. refl;
    }

pub coming_begin : (p : Problem) (activities order pending : List ℕ) → pending ≡ all_pending activities → Coming p activities order pending 0
coming_begin p activities order pending e =
    let z : length activities - 0 ≡ length activities = omega arith in
    rw (z, e) refl

module _ {activities order₀ order pending : List ℕ} {front taken : ℕ} (w : Taking activities order₀ order pending front taken) where
  pub take_again : {next : ℕ} (a : ℕ) → taken < length activities → length activities ≤ length order₀ → next ≡ front + taken_before pending (drop front activities) → a < 128
      → Taking activities order₀ (set order taken a) (set pending a 0) next (taken + 1)
  take_again {next} a h room e k =
      record {
        within = omega arith;
        fronted = front_within pending activities w.fronted e;
        sized = length-set order taken a ∙ w.sized;
        flags = length-set pending a 0 ∙ w.flags;
        passed = λ i l z.
            let x = get_or activities i 0 in
            either a x
            (λ q. absurd (omega (arith, z, subst (λ (y : ℕ). get_or (set pending a 0) y 0 ≡ 0) q (get_or-set_same pending a 0 0 (omega (arith, w.flags))))))
            (λ ne. front_passed pending activities w.fronted e w.passed i l (sym (get_or-set_other pending a x 0 0 (λ q. ne (sym q))) ∙ z));
        kept = λ i l. get_or-set_other order taken i a 0 (λ q. absurd (omega (arith, q))) ∙ w.kept i (omega arith);
      }

  module _ (p : Problem) (c : Coming p activities order pending taken) where
    module _ {next : ℕ} {link : Option ℕ} (h : taken < length activities) (e : next ≡ front + taken_before pending (drop front activities))
        (f : link ≡ first_ready p pending (drop next activities)) where
      first : first_ready p pending activities ≡ link
      first = sym (f ∙ from_front p pending activities next (front_within pending activities w.fronted e) (front_passed pending activities w.fronted e w.passed))

      pub a_known : Below p.n activities → p.n ≤ 128 → {a : ℕ} → link ≡ Some a → a < 128
      a_known b few {a} t = omega (arith, below_of p.n a activities b (first_is p pending activities a (first ∙ t)).0)

      pub a_comes : {a : ℕ} → link ≡ Some a → can_come p pending a ≡ true
      a_comes {a} t = (first_is p pending activities a (first ∙ t)).1

      fuel : length activities - taken ≡ suc (length activities - (taken + 1))
      fuel = omega arith

      pub come_again : {a : ℕ} → link ≡ Some a → taken < length order → Coming p activities (set order taken a) (set pending a 0) (taken + 1)
      unfolding ready_from
      come_again {a} t room =
          let rest = ready_from p activities (length activities - (taken + 1)) (first_ready p (set pending a 0) activities) (set pending a 0) in
          let l : take (taken + 1) (set order taken a) ≡ take taken order ++ a ∷ [] = ap (λ (k : ℕ). take k (set order taken a)) (add-one taken) ∙ take-suc-set order taken a room in
          let z : ready_from p activities (length activities - taken) (first_ready p pending activities) pending ≡ a ∷ rest = rw (fuel, first, t) refl in
          ap (λ (x : List ℕ). x ++ rest) l ∙ append_snoc (take taken order) a rest ∙ ap (λ (x : List ℕ). take taken order ++ x) (sym z) ∙ c

      pub come_none : link ≡ None → take taken order ≡ ready_order p activities
      unfolding ready_from
      come_none t =
          let z : ready_from p activities (length activities - taken) (first_ready p pending activities) pending ≡ [] = rw (fuel, first, t) refl in
          sym (append-nil (take taken order)) ∙ ap (λ (x : List ℕ). take taken order ++ x) (sym z) ∙ c

    pub come_end : length activities ≤ taken → take taken order ≡ ready_order p activities
    unfolding ready_from
    come_end h =
        let f : length activities - taken ≡ 0 = omega arith in
        let z : ready_from p activities (length activities - taken) (first_ready p pending activities) pending ≡ [] = rw f refl in
        sym (append-nil (take taken order)) ∙ ap (λ (x : List ℕ). take taken order ++ x) (sym z) ∙ c

  pub take-listed : (p : Problem) → length activities ≤ length order₀ → take taken order ≡ ready_order p activities → Listed (ready_order p activities) order₀ order taken
  take-listed p room e =
      record {
        whole = sym (length-take-le taken order (omega (arith, w.sized, w.within))) ∙ ap length e;
        listed = e;
        kept = w.kept;
      }
