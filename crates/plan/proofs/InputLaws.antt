-- Laws of the lookups that make a problem of words: sums and owners of task entries, the pairs of Candidates and Predecessors, Setups entries.
use Rattle.std.specs.Prelude.{Some}
use Prim.Native.Nat.{ℕ, zero, suc, ◌+◌, ◌*◌, ◌-◌, ◌≤◌, ◌<◌}
use mathlib.Core.Path.{◌≡◌, refl, sym, ◌∙◌, ap}
use mathlib.Core.Bool.{Bool, true, false, cond, ◌&&◌}
use mathlib.Core.List.{List}
use native.Mathlib.Omega.{arith}
use borrow.Author.Tests.{ltb-true, ltb-false, eqb-true, eqb-false}
use lib.Dec.{eqb, ltb}
use lib.ListN.{length, get_or}
use Rattle.graph.specs.Counting.{count_of, Below}
use Rattle.graph.proofs.CountingLaws.{hit-eq, hit-ne, either}
use Rattle.grammar.specs.Rules.{total_from}
use Rattle.graph.specs.Filing.{cons_if}
use Rattle.plan.specs.Input.{some_if, seconds, firsts, change_from, words_from, owner}

-- ---- what stands where a test holds

pub some_if_some : {A : Type 0} (b : Bool) (x y : A) → some_if b x ≡ Some y → (b ≡ true) × (x ≡ y)
some_if_some true x y e = (refl, cc)
some_if_some false x y e = let z : ◌≡◌ {A = ℕ} 0 1 = cc in absurd (omega arith)

cons_if_below : (n : ℕ) (b : Bool) (x : ℕ) (l : List ℕ) → x < n → Below n l → Below n (cons_if b x l)
unfolding Below
cons_if_below n true x l h g = (h, g)
cons_if_below n false x l h g = g

-- ---- tasks and their activities

-- The sum grows at its end by the last task's activities.
pub total_last : (ws : List ℕ) (n at : ℕ) → total_from ws (suc n) at ≡ total_from ws n at + get_or ws (at + 5 * n + 4) 0
unfolding total_from
total_last ws zero at = let x : at + 5 * 0 + 4 ≡ at + 4 = omega arith in rw x (omega arith)
total_last ws (suc n) at =
    let x : at + 5 * suc n + 4 ≡ at + 5 + 5 * n + 4 = omega arith in
    rw x (omega (arith, total_last ws n (at + 5)))

-- Task entries from p on: the a-th activity from task t on is one of task o's, and o is one of `left` tasks from t on.
pub record Owns (ws : List ℕ) (p left t a o : ℕ) : Type 0 where
  pub task : o < t + left
  pub from : total_from ws o p ≤ total_from ws t p + a
  pub below : total_from ws t p + a < total_from ws o p + get_or ws (p + 5 * o + 4) 0

pub owner_owns : (ws : List ℕ) (p left t a : ℕ) → a < total_from ws left (p + 5 * t)
    → Owns ws p left t a (owner (λ u. get_or ws (p + 5 * u + 4) 0) left t a)
unfolding total_from owner
owner_owns ws p zero t a h = absurd (omega arith)
owner_owns ws p (suc left) t a h = by_test (ltb a (steps t)) refl (owner_owns ws p left (suc t) (a - steps t))
  where
    steps : ℕ → ℕ
    steps u = get_or ws (p + 5 * u + 4) 0

    by_test : (b : Bool) → ltb a (steps t) ≡ b
        → (a - steps t < total_from ws left (p + 5 * suc t) → Owns ws p left (suc t) (a - steps t) (owner steps left (suc t) (a - steps t)))
        → Owns ws p (suc left) t a (cond b t (owner steps left (suc t) (a - steps t)))
    by_test true e later = record { task = omega arith; from = omega arith; below = omega (arith, ltb-true a (steps t) e) }
    by_test false e later =
        let g = ltb-false a (steps t) e in
        let x : p + 5 * t + 5 ≡ p + 5 * suc t = omega arith in
        let i : a < steps t + total_from ws left (p + 5 * suc t) = rw x at h in
        let o = later (omega arith) in
        let l = total_last ws t p in
        record { task = omega arith; from = omega arith; below = omega arith }

-- ---- pairs

module _ (ws : List ℕ) where
  -- The words of the first pair, and of the pairs after it.
  here : (at f : ℕ) → at + 2 * 0 + f ≡ at + f
  here at f = omega arith

  later : (at e f : ℕ) → at + 2 * suc e + f ≡ at + 2 + 2 * e + f
  later at e f = omega arith

  pub seconds_below : (b n at a : ℕ) → ((e : ℕ) → e < n → get_or ws (at + 2 * e + 1) 0 < b) → Below b (seconds ws n at a)
  unfolding seconds Below
  seconds_below b zero at a h = tt
  seconds_below b (suc n) at a h =
      cons_if_below b (eqb (get_or ws at 0) a) _ _ (rw here at (h 0 (omega arith)))
      (seconds_below b n (at + 2) a (λ e l. rw (← later at e 1) (h (suc e) (omega arith))))

  pub firsts_below : (b n at a : ℕ) → ((e : ℕ) → e < n → get_or ws (at + 2 * e + 0) 0 < b) → Below b (firsts ws n at a)
  unfolding firsts Below
  firsts_below b zero at a h = tt
  firsts_below b (suc n) at a h =
      let x : at + 2 * 0 + 0 ≡ at = omega arith in
      cons_if_below b (eqb (get_or ws (at + 1) 0) a) _ _ (rw x at (h 0 (omega arith)))
      (firsts_below b n (at + 2) a (λ e l. rw (← later at e 0) (h (suc e) (omega arith))))

  -- A pair that is not there does not count.
  seconds_none : (n at a m : ℕ) → ((e : ℕ) → e < n → get_or ws (at + 2 * e + 0) 0 ≡ a → get_or ws (at + 2 * e + 1) 0 ≡ m → ⊥)
      → count_of m (seconds ws n at a) ≡ 0
  unfolding seconds count_of
  seconds_none zero at a m h = refl
  seconds_none (suc n) at a m h =
      by_test (eqb (get_or ws at 0) a) refl (seconds_none n (at + 2) a m (λ e l. rw (← later at e 0, ← later at e 1) (h (suc e) (omega arith))))
    where
      x : ℕ
      x = get_or ws (at + 1) 0

      first : get_or ws at 0 ≡ a → x ≡ m → ⊥
      first ea em =
          let p : at + 2 * 0 + 0 ≡ at = omega arith in
          h 0 (omega arith) (rw p ea) (rw here em)

      by_test : (b : Bool) → eqb (get_or ws at 0) a ≡ b → count_of m (seconds ws n (at + 2) a) ≡ 0
          → count_of m (cons_if b x (seconds ws n (at + 2) a)) ≡ 0
      by_test true e z = omega (arith, hit-ne x m (first (eqb-true _ _ e)))
      by_test false e z = z

  -- Where no pair stands twice, no number stands twice among the seconds of one first.
  pub seconds-once : (n at a m : ℕ)
      → ((d e : ℕ) → d < e → e < n → get_or ws (at + 2 * d + 0) 0 ≡ get_or ws (at + 2 * e + 0) 0
      → get_or ws (at + 2 * d + 1) 0 ≡ get_or ws (at + 2 * e + 1) 0 → ⊥)
      → count_of m (seconds ws n at a) ≤ 1
  unfolding seconds count_of
  seconds-once zero at a m h = omega arith
  seconds-once (suc n) at a m h =
      by_test (eqb (get_or ws at 0) a) refl
      (seconds-once n (at + 2) a m
      (λ d e l i. rw (← later at d 0, ← later at d 1, ← later at e 0, ← later at e 1) (h (suc d) (suc e) (omega arith) (omega arith))))
    where
      x : ℕ
      x = get_or ws (at + 1) 0

      -- A later pair is not the first one.
      other : get_or ws at 0 ≡ a → x ≡ m → (e : ℕ) → e < n → get_or ws (at + 2 + 2 * e + 0) 0 ≡ a → get_or ws (at + 2 + 2 * e + 1) 0 ≡ m → ⊥
      other ea em e l ea' em' =
          let p : at + 2 * 0 + 0 ≡ at = omega arith in
          h 0 (suc e) (omega arith) (omega arith) (rw (p, later at e 0) (ea ∙ sym ea')) (rw (here, later at e 1) (em ∙ sym em'))

      by_test : (b : Bool) → eqb (get_or ws at 0) a ≡ b → count_of m (seconds ws n (at + 2) a) ≤ 1
          → count_of m (cons_if b x (seconds ws n (at + 2) a)) ≤ 1
      by_test true e z =
          either x m (λ em. omega (arith, hit-eq x m em, seconds_none n (at + 2) a m (other (eqb-true _ _ e) em)))
          (λ ne. omega (arith, hit-ne x m ne))
      by_test false e z = z

  -- Who names whom, counted from both ends.
  both_ends : (x y a b : ℕ) (xs ys : List ℕ) → count_of a xs ≡ count_of b ys → count_of a (cons_if (eqb y b) x xs) ≡ count_of b (cons_if (eqb x a) y ys)
  unfolding count_of
  both_ends x y a b xs ys e = by_tests (eqb y b) refl (eqb x a) refl
    where
      by_tests : (s : Bool) → eqb y b ≡ s → (t : Bool) → eqb x a ≡ t → count_of a (cons_if s x xs) ≡ count_of b (cons_if t y ys)
      by_tests true es true et = omega (arith, hit-eq x a (eqb-true _ _ et), hit-eq y b (eqb-true _ _ es))
      by_tests true es false et = omega (arith, hit-ne x a (eqb-false _ _ et))
      by_tests false es true et = omega (arith, hit-ne y b (eqb-false _ _ es))
      by_tests false es false et = e

  pub firsts-seconds : (n at a b : ℕ) → count_of a (firsts ws n at b) ≡ count_of b (seconds ws n at a)
  unfolding firsts seconds count_of
  firsts-seconds zero at a b = refl
  firsts-seconds (suc n) at a b = both_ends (get_or ws at 0) (get_or ws (at + 1) 0) a b _ _ (firsts-seconds n (at + 2) a b)

-- ---- Setups entries, and words one after the other

pub change_below : (ws : List ℕ) (b n at m previous own x : ℕ) → ((e : ℕ) → e < n → get_or ws (at + 4 * e + 3) 0 ≤ b)
    → change_from ws n at m previous own ≡ Some x → x ≤ b
unfolding change_from
change_below ws b zero at m previous own x h e = let z : ◌≡◌ {A = ℕ} 0 1 = cc in absurd (omega arith)
change_below ws b (suc n) at m previous own x h e =
    by_test (eqb (get_or ws at 0) m && (eqb (get_or ws (at + 1) 0) previous && eqb (get_or ws (at + 2) 0) own)) e
    (change_below ws b n (at + 4) m previous own x (λ i l. shifted i l))
  where
    shifted : (i : ℕ) → i < n → get_or ws (at + 4 + 4 * i + 3) 0 ≤ b
    shifted i l = let p : at + 4 + 4 * i + 3 ≡ at + 4 * suc i + 3 = omega arith in rw p (h (suc i) (omega arith))

    by_test : (t : Bool) → cond t (Some (get_or ws (at + 3) 0)) (change_from ws n (at + 4) m previous own) ≡ Some x
        → (change_from ws n (at + 4) m previous own ≡ Some x → x ≤ b) → x ≤ b
    by_test true e rest =
        let p : at + 4 * 0 + 3 ≡ at + 3 = omega arith in
        let w : get_or ws (at + 3) 0 ≡ x = cc in
        omega (arith, rw p at (h 0 (omega arith)))
    by_test false e rest = rest e

pub length-words_from : (ws : List ℕ) (n at : ℕ) → length (words_from ws n at) ≡ n
unfolding words_from
length-words_from ws zero at = refl
length-words_from ws (suc n) at = ap suc (length-words_from ws n (at + 1))
