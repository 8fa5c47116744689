-- The loops that look for the first ready activity: what is left answers what the whole does.
use Rattle.std.specs.Prelude.{None, Some}
use Prim.Native.Nat.{ℕ, zero, suc, ◌+◌, ◌-◌, ◌≤◌, ◌<◌}
use mathlib.Core.Path.{◌≡◌, refl, sym, ap, ◌∙◌}
use mathlib.Core.Bool.{Bool, true, false, ◌||◌}
use mathlib.Core.List.{List, [], ◌∷◌}
use native.Mathlib.Omega.{arith}
use native.Mathlib.Numerals.{add-one}
use borrow.Author.Tests.{eq-eqb, ne_eqb}
use lib.Dec.{eqb}
use lib.ListN.{length, get_or, set, take, drop, length-set, length-drop}
use lib.Seq.{drop-cons, drop-length, get_or-drop, take_all}
use Rattle.graph.specs.Counting.{count_of}
use Rattle.graph.proofs.CountingLaws.{hit-eq}
use Rattle.plan.specs.Problem.{Problem}
use Rattle.tables.specs.Tabled.{task_pred}
use Rattle.graph.specs.Links.{to_if}
use Rattle.lines.specs.Linking.{marked}
use Rattle.in_order.specs.Waiting.{taken_before, step_pending, Told}
use Rattle.in_order.specs.InOrder.{is_pending, any_pending, earlier_pending, is_ready, can_come, first_ready}

-- A list from its i-th on begins with the i-th.
pub next_of : {A : Type 0} (f : List ℕ → A) (l : List ℕ) (i : ℕ) → i < length l → f (drop i l) ≡ f (get_or l i 0 ∷ drop (i + 1) l)
next_of f l i h = ap f (drop-cons l i 0 h ∙ ap (λ (j : ℕ). get_or l i 0 ∷ drop j l) (sym (add-one i)))

pub in_list : (l : List ℕ) (i : ℕ) → i < length l → 0 < count_of (get_or l i 0) l
unfolding count_of
in_list [] i h = absurd (omega arith)
in_list (x ∷ l) zero h = omega (arith, hit-eq x x refl)
in_list (x ∷ l) (suc i) h = omega (arith, in_list l i (omega arith))

pub none_left : {A : Type 0} (f : List ℕ → A) (l : List ℕ) (i : ℕ) → i ≤ length l → length l ≤ i → f (drop i l) ≡ f []
none_left f l i h k =
    let e : i ≡ length l = omega arith in
    ap f (ap (λ (j : ℕ). drop j l) e ∙ drop-length l)

-- A list from one place on, taken as a slice.
module _ (l : List ℕ) (from : ℕ) where
  pub rest_is : take (length l - from) (drop from l) ≡ drop from l
  rest_is = take_all (length l - from) (drop from l) (omega (arith, length-drop from l))

  module _ (i : ℕ) (h : i < length (take (length l - from) (drop from l))) where
    pub rest_within : from + i < length l
    rest_within = omega (arith, h, ap length rest_is, length-drop from l)

    pub rest_at : get_or (take (length l - from) (drop from l)) i 0 ≡ get_or l (from + i) 0
    rest_at = ap (λ (x : List ℕ). get_or x i 0) rest_is ∙ get_or-drop from l i 0

  pub rest_passed : {i : ℕ} → from ≤ length l → i ≤ length (take (length l - from) (drop from l)) → length (take (length l - from) (drop from l)) ≤ i → from + i ≡ length l
  rest_passed h k m = omega (arith, ap length rest_is, length-drop from l)

-- ---- `mark`

pub record Marking (activities c₀ c : List ℕ) (i : ℕ) : Type 0 where
  pub within : i ≤ length activities
  pub sized : length c ≡ length c₀
  pub rest : marked (drop i activities) 1 c ≡ marked activities 1 c₀

module _ {activities c₀ c : List ℕ} {i : ℕ} (w : Marking activities c₀ c i) where
  pub mark_again : i < length activities → Marking activities c₀ (set c (get_or activities i 0) 1) (i + 1)
  unfolding marked
  mark_again h =
      record {
        within = omega arith;
        sized = length-set c (get_or activities i 0) 1 ∙ w.sized;
        rest = sym (next_of (λ (l : List ℕ). marked l 1 c) activities i h) ∙ w.rest;
      }

  pub mark_end : length activities ≤ i → c ≡ marked activities 1 c₀
  unfolding marked
  mark_end h = sym (none_left (λ (l : List ℕ). marked l 1 c) activities i w.within h) ∙ w.rest

-- ---- `any_pending`

pub record Asking (pending list : List ℕ) (i : ℕ) : Type 0 where
  pub within : i ≤ length list
  pub left : any_pending pending (drop i list) ≡ any_pending pending list

module _ {pending list : List ℕ} {i : ℕ} (w : Asking pending list i) where
  pub none_pending : length list ≤ i → false ≡ any_pending pending list
  unfolding any_pending
  none_pending h = sym (none_left (any_pending pending) list i w.within h) ∙ w.left

  module _ (h : i < length list) where
    asked : (is_pending pending (get_or list i 0) || any_pending pending (drop (i + 1) list)) ≡ any_pending pending list
    unfolding any_pending
    asked = sym (next_of (any_pending pending) list i h) ∙ w.left

    pub one_pending : get_or pending (get_or list i 0) 0 ≡ 1 → true ≡ any_pending pending list
    one_pending e = rw (eq-eqb (get_or pending (get_or list i 0) 0) 1 e) at asked

    pub ask_again : (get_or pending (get_or list i 0) 0 ≡ 1 → ⊥) → Asking pending list (i + 1)
    ask_again ne = record { within = omega arith; left = rw (ne_eqb (get_or pending (get_or list i 0) 0) 1 ne) at asked }

-- ---- `step_pending`

to_less : (t : Bool) (a b : ℕ) → to_if t a ≡ Some b → b ≡ a
to_less true a b e = cc
to_less false a b e = let z : ◌≡◌ {A = ℕ} 0 1 = cc in absurd (omega arith)

pub before_less : (p : Problem) (a b : ℕ) → task_pred p a ≡ Some b → b < a
before_less p zero b e = let z : ◌≡◌ {A = ℕ} 0 1 = cc in absurd (omega arith)
before_less p (suc a) b e = omega (arith, to_less (eqb (p.task_of a) (p.task_of (suc a))) a b e)

module _ (p : Problem) (pending : List ℕ) (a : ℕ) where
  pub no_step : task_pred p a ≡ None → false ≡ step_pending p pending a
  no_step e = rw e

  pub step_waits : (b : ℕ) → task_pred p a ≡ Some b → get_or pending b 0 ≡ 1 → true ≡ step_pending p pending a
  step_waits b e z = rw (e, eq-eqb (get_or pending b 0) 1 z)

  pub step_taken : (b : ℕ) → task_pred p a ≡ Some b → (get_or pending b 0 ≡ 1 → ⊥) → false ≡ step_pending p pending a
  step_taken b e ne = rw (e, ne_eqb (get_or pending b 0) 1 ne)

-- ---- `first_ready`

pub record Seeking (p : Problem) (pending activities : List ℕ) (from i : ℕ) : Type 0 where
  pub left : first_ready p pending (drop i activities) ≡ first_ready p pending (drop from activities)

module _ {p : Problem} {pending activities : List ℕ} {from i : ℕ} (w : Seeking p pending activities from i) where
  pub none_ready : i ≤ length activities → length activities ≤ i → None ≡ first_ready p pending (drop from activities)
  unfolding first_ready
  none_ready k h = sym (none_left (first_ready p pending) activities i k h) ∙ w.left

  module _ (h : i < length activities) where
    sought : first_ready p pending (get_or activities i 0 ∷ drop (i + 1) activities) ≡ first_ready p pending (drop from activities)
    sought = sym (next_of (first_ready p pending) activities i h) ∙ w.left

    pub this_one : true ≡ can_come p pending (get_or activities i 0) → Some (get_or activities i 0) ≡ first_ready p pending (drop from activities)
    unfolding first_ready
    this_one e = rw (sym e) at sought

    pub seek_again : false ≡ can_come p pending (get_or activities i 0) → Seeking p pending activities from (i + 1)
    unfolding first_ready
    seek_again e = record { left = rw (sym e) at sought }

-- ---- `skip_taken`

pub record Skipping (pending activities : List ℕ) (from i : ℕ) : Type 0 where
  pub within : i ≤ length activities
  pub left : i + taken_before pending (drop i activities) ≡ from + taken_before pending (drop from activities)

module _ {pending activities : List ℕ} {from i : ℕ} (w : Skipping pending activities from i) where
  pub all_skipped : length activities ≤ i → i ≡ from + taken_before pending (drop from activities)
  unfolding taken_before
  all_skipped h =
      let z : taken_before pending (drop i activities) ≡ 0 = none_left (taken_before pending) activities i w.within h in
      omega (arith, z, w.left)

  module _ (h : i < length activities) where
    pub skip_end : get_or pending (get_or activities i 0) 0 ≡ 1 → i ≡ from + taken_before pending (drop from activities)
    unfolding taken_before
    skip_end e =
        let z : taken_before pending (drop i activities) ≡ 0 = next_of (taken_before pending) activities i h ∙ rw (eq-eqb (get_or pending (get_or activities i 0) 0) 1 e) refl in
        omega (arith, z, w.left)

    pub skip_again : (get_or pending (get_or activities i 0) 0 ≡ 1 → ⊥) → Skipping pending activities from (i + 1)
    unfolding taken_before
    skip_again ne =
        let z : taken_before pending (drop i activities) ≡ suc (taken_before pending (drop (i + 1) activities)) =
        next_of (taken_before pending) activities i h ∙ rw (ne_eqb (get_or pending (get_or activities i 0) 0) 1 ne) refl in
        record { within = omega arith; left = omega (arith, z, w.left) }

-- ---- `is_ready`, `can_come`

or_true : (b : Bool) → (b || true) ≡ true
or_true true = refl
or_true false = refl

module _ (p : Problem) (pending : List ℕ) (a : ℕ) where
  pub not_ready : {named : List ℕ} {r : Bool} → named ≡ p.predecessors a → r ≡ any_pending pending named → r ≡ true → false ≡ is_ready p pending a
  not_ready {named} {r} e f t =
      let z : any_pending pending (p.predecessors a) ≡ true = ap (any_pending pending) (sym e) ∙ sym f ∙ t in
      rw z

  pub earlier_waits : Told p pending a → {r : Bool} → r ≡ step_pending p pending a → r ≡ true → false ≡ is_ready p pending a
  earlier_waits told {r} f t =
      let z : earlier_pending p pending a ≡ true = sym told ∙ sym f ∙ t in
      rw (z, or_true (any_pending pending (p.predecessors a)))

  pub all_taken : Told p pending a → {named : List ℕ} {r s : Bool} → named ≡ p.predecessors a → r ≡ any_pending pending named → r ≡ false → s ≡ step_pending p pending a → s ≡ false → true ≡ is_ready p pending a
  all_taken told {named} {r} {s} e f t k u =
      let z : any_pending pending (p.predecessors a) ≡ false = ap (any_pending pending) (sym e) ∙ sym f ∙ t in
      let w : earlier_pending p pending a ≡ false = sym told ∙ sym k ∙ u in
      rw (z, w)

  pub not_pending : (get_or pending a 0 ≡ 1 → ⊥) → false ≡ can_come p pending a
  not_pending ne = rw (ne_eqb (get_or pending a 0) 1 ne)

  pub pending_one : {r : Bool} → get_or pending a 0 ≡ 1 → r ≡ is_ready p pending a → r ≡ can_come p pending a
  pending_one {r} e f = rw (eq-eqb (get_or pending a 0) 1 e) f
