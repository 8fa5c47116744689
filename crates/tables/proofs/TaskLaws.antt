-- Activities are numbered task by task: where a task begins, which task an activity is of, and its neighbours in the task.
use Rattle.std.specs.Prelude.{None, Some}
use Prim.Native.Nat.{ℕ, zero, suc, ◌+◌, ◌-◌, ◌≤◌, ◌<◌}
use mathlib.Core.Path.{◌≡◌, refl, sym, ap, subst}
use mathlib.Core.List.{List}
use mathlib.Core.Bool.{Bool, true, false, cond, ◌&&◌}
use native.Mathlib.Omega.{arith}
use native.Mathlib.Numerals.{add-one}
use lib.Dec.{eqb, ltb}
use lib.ListN.{length, get_or}
use borrow.Author.Tests.{lt-ltb, le-ltb, eq-eqb, ne_eqb, ltb-true, ltb-false}
use Rattle.graph.specs.Links.{linked, to_if}
use Rattle.graph.proofs.CountingLaws.{either}
use Rattle.graph.specs.Counting.{bit}
use Rattle.grammar.specs.Rules.{total_from}
use Rattle.plan.specs.Problem.{Problem}
use Rattle.plan.specs.declared.Layout.{Layout}
use Rattle.plan.specs.Input.{owner, steps_of, task_of}
use Rattle.plan.proofs.InputLaws.{total_last}
use Rattle.tables.specs.declared.Place.{Place}
use Rattle.tables.specs.Columns.{Filled, Begun, first_of, next_in, before_in}
use Rattle.tables.specs.Tabled.{task_pred, task_succ, is_next, next_of}
use Rattle.tables.specs.Entries.{Entries}

-- ---- where tasks begin

-- The task of an activity, from tasks that begin one after the other.
module _ (steps first : ℕ → ℕ) (next : (t : ℕ) → first (suc t) ≡ first t + steps t) where
  rises : (m t j : ℕ) → t + m ≡ j → first t ≤ first j
  rises zero t j e = let q : t ≡ j = omega arith in rw q (omega arith)
  rises (suc m) t j e = omega (arith, next t, rises m (suc t) j (omega arith))

  pub first_rises : (t j : ℕ) → t ≤ j → first t ≤ first j
  first_rises t j h = rises (j - t) t j (omega arith)

  pub owner_is : (left t j a : ℕ) → t ≤ j → j < t + left → first j ≤ first t + a → first t + a < first j + steps j → owner steps left t a ≡ j
  unfolding owner
  owner_is zero t j a h l f g = absurd (omega arith)
  owner_is (suc left) t j a h l f g =
      either t j
      (λ e.
      let q = rw e at (next t) in
      let v : a < steps t = subst (λ (i : ℕ). first i + a < first j + steps j → a < steps i) (sym e) (λ w. omega arith) g in
      rw (lt-ltb a (steps t) v) e)
      (λ ne.
      let w : first (suc t) ≤ first j = first_rises (suc t) j (omega arith) in
      let n = next t in
      let v : steps t ≤ a = omega arith in
      rw (le-ltb a (steps t) v) (owner_is left (suc t) j (a - steps t) (omega arith) (omega arith) (omega arith) (omega arith)))

pub owner_most : (steps : ℕ → ℕ) (left t a : ℕ) → owner steps left t a ≤ t + left
unfolding owner
owner_most steps zero t a = omega arith
owner_most steps (suc left) t a = go (ltb a (steps t)) (owner_most steps left (suc t) (a - steps t))
  where
    go : (b : Bool) → owner steps left (suc t) (a - steps t) ≤ suc t + left → cond b t (owner steps left (suc t) (a - steps t)) ≤ t + suc left
    go true h = omega arith
    go false h = omega arith

-- ---- the tasks of an input

module _ (ws : List ℕ) (z : Layout) where
  pub first_next : (t : ℕ) → first_of ws z (t + 1) ≡ first_of ws z t + steps_of ws z t
  first_next t = rw add-one (total_last ws t (z.at.tasks + 1))

  next_first : (t : ℕ) → first_of ws z (suc t) ≡ first_of ws z t + steps_of ws z t
  next_first t = total_last ws t (z.at.tasks + 1)

  pub first_none : first_of ws z 0 ≡ 0
  unfolding total_from
  first_none = refl

  module _ (e : Entries ws z) where
    -- A task that begins before the last activity has ended is a task.
    pub is_task : (t a : ℕ) → first_of ws z t ≤ a → a < z.activities → t < z.tasks
    is_task t a h l = go (ltb t z.tasks) refl
      where
        go : (b : Bool) → ltb t z.tasks ≡ b → t < z.tasks
        go true q = ltb-true t z.tasks q
        go false q =
            absurd (omega (arith, e.total, first_rises (steps_of ws z) (first_of ws z) next_first z.tasks t (ltb-false t z.tasks q)))

    -- Its activities are its own.
    pub task_is : (t a : ℕ) → first_of ws z t ≤ a → a < first_of ws z (t + 1) → a < z.activities → t ≡ task_of ws z a
    task_is t a h g l =
        let n = first_none in
        let m = first_next t in
        sym (owner_is (steps_of ws z) (first_of ws z) next_first z.tasks 0 t a (omega arith) (omega (arith, is_task t a h l)) (omega arith) (omega arith))

-- ---- neighbours in a task

module _ (p : Problem) {os : List ℕ} (f : Filled p.n p.task_of os) where
  pub next_is : (a : ℕ) → a < p.n → next_in os p.n a ≡ next_of p a
  next_is a h = go (ltb (a + 1) p.n) refl
    where
      go : (b : Bool) → ltb (a + 1) p.n ≡ b
          → cond (b && eqb (get_or os (a + 1) 0) (get_or os a 0)) (a + 1) p.n ≡ cond (b && eqb (p.task_of (a + 1)) (p.task_of a)) (a + 1) p.n
      go true q = rw (f.at (a + 1) (ltb-true (a + 1) p.n q), f.at a h)
      go false q = refl

  one : (t : Bool) (b : ℕ) → bit t ≡ length (linked (to_if t b))
  one true b = refl
  one false b = refl

  pub before_is : (a : ℕ) → a < p.n → before_in os a ≡ length (linked (task_pred p a))
  before_is zero h = refl
  before_is (suc a) h =
      let k : suc a - 1 ≡ a = omega arith in
      rw (ne_eqb (suc a) 0 (λ e. omega arith), k, f.at a (omega arith), f.at (suc a) h) (one (eqb (p.task_of a) (p.task_of (suc a))) a)

-- ---- the walk from task to task

module _ (ws : List ℕ) (z : Layout) where
  module _ (e : Entries ws z) (p : Place) (a : ℕ) (l : a < z.activities) (b : Begun ws z p a) where
    -- Where a task has ended, the next begins, and it has an activity.
    pub next_place : {count : ℕ} → p.end ≤ a → count ≡ steps_of ws z (p.task + 1)
        → Begun ws z (record { task = p.task + 1; end = a + count }) a × (a < a + count)
    next_place {count} over s =
        let h : p.end ≡ first_of ws z (p.task + 1) = b.ends in
        let w = b.within in
        let k : first_of ws z (p.task + 1) ≡ a = omega arith in
        let one : 1 ≤ steps_of ws z (p.task + 1) = e.steps (p.task + 1) (is_task ws z e (p.task + 1) a (omega arith) l) in
        (record { first = omega arith; ends = omega (arith, first_next ws z (p.task + 1)); within = omega arith }, omega arith)

    pub task_of_place : a < p.end → p.task ≡ task_of ws z a
    task_of_place h = task_is ws z e p.task a b.first (omega (arith, b.ends)) l

-- ---- the links that the neighbours are

module _ (p : Problem) (a b : ℕ) (e : b ≡ next_of p a) where
  pub next_to : b < p.n → Some b ≡ task_succ p a
  next_to h = go (is_next p a) e
    where
      go : (t : Bool) → b ≡ cond t (a + 1) p.n → Some b ≡ to_if t (a + 1)
      go true q = ap Some q
      go false q = absurd (omega arith)

  pub next_none : p.n ≤ b → None ≡ task_succ p a
  next_none h = go (ltb (a + 1) p.n) refl (eqb (p.task_of (a + 1)) (p.task_of a)) e
    where
      go : (t : Bool) → ltb (a + 1) p.n ≡ t → (s : Bool) → b ≡ cond (t && s) (a + 1) p.n → None ≡ to_if (t && s) (a + 1)
      go true l true q = absurd (omega (arith, ltb-true (a + 1) p.n l))
      go true l false q = refl
      go false l s q = refl

pub before_none : (p : Problem) (a : ℕ) → a ≡ 0 → None ≡ task_pred p a
before_none p zero e = refl
before_none p (suc a) e = absurd (omega arith)

pub before_to : (p : Problem) (a : ℕ) → (a ≡ 0 → ⊥) → p.task_of (a - 1) ≡ p.task_of a → Some (a - 1) ≡ task_pred p a
before_to p zero h e = absurd (h refl)
before_to p (suc a) h e =
    let k : suc a - 1 ≡ a = omega arith in
    rw (eq-eqb (p.task_of a) (p.task_of (suc a)) (subst (λ (i : ℕ). p.task_of i ≡ p.task_of (suc a)) k e)) (ap Some k)

pub before_other : (p : Problem) (a : ℕ) → (p.task_of (a - 1) ≡ p.task_of a → ⊥) → None ≡ task_pred p a
before_other p zero h = refl
before_other p (suc a) h =
    let k : suc a - 1 ≡ a = omega arith in
    rw (ne_eqb (p.task_of a) (p.task_of (suc a)) (λ e. h (subst (λ (i : ℕ). p.task_of i ≡ p.task_of (suc a)) (sym k) e)))
