-- Laws of freeing: one list after another, one link, and the loop of `release_list`. Assumes nothing.
use Rattle.std.specs.Prelude.{None, Option, Some, ℕ}
use mathlib.Core.Path.{◌≡◌, refl, sym, ap, ◌∙◌}
use mathlib.Core.Bool.{Bool, true, false}
use mathlib.Core.List.{List, [], ◌∷◌, ◌++◌}
use Prim.Native.Nat.{ℕ, ◌+◌, ◌-◌, ◌≤◌, ◌<◌}
use native.Mathlib.Numerals.{add-one}
use native.Mathlib.Omega.{arith}
use lib.ListN.{length, get_or, drop}
use lib.Seq.{drop-cons, drop-length}
use lib.Dec.{eqb}
use borrow.Author.Tests.{lt-ltb, le-ltb}
use Rattle.graph.specs.Order.{State, free, free_all, push_if}
use Rattle.graph.specs.Links.{linked, link_of, part_of, succs_of}
use Rattle.graph.specs.Run.{state_of, Safe}
use Rattle.graph.proofs.StackLaws.{length-stack_of}

pub free_all-append : (xs ys : List ℕ) (s : State) → free_all (xs ++ ys) s ≡ free_all ys (free_all xs s)
unfolding free_all
free_all-append [] ys s = refl
free_all-append (x ∷ xs) ys s = free_all-append xs ys (free x s)

pushed : (t : Bool) (b : ℕ) (st : List ℕ) → length st ≤ length (push_if t b st)
pushed true b st = omega arith
pushed false b st = omega arith

safe_room : (xs : List ℕ) (s : State) (room : ℕ) → Safe xs s room → length s.stack ≤ room
unfolding Safe
safe_room [] s room h = h
safe_room (x ∷ xs) s room h = omega (arith, h.2, pushed (eqb (get_or s.counts x 0 - 1) 0) x s.stack)

-- a run over two lists is a run over each
pub safe_left : (xs ys : List ℕ) (s : State) (room : ℕ) → Safe (xs ++ ys) s room → Safe xs s room
unfolding Safe
safe_left [] ys s room h = safe_room ys s room h
safe_left (x ∷ xs) ys s room h = (h.0, h.1, h.2, safe_left xs ys (free x s) room h.3)

pub safe_right : (xs ys : List ℕ) (s : State) (room : ℕ) → Safe (xs ++ ys) s room → Safe ys (free_all xs s) room
unfolding Safe free_all
safe_right [] ys s room h = h
safe_right (x ∷ xs) ys s room h = safe_right xs ys (free x s) room h.3

-- the room at the stack's top
pub safe_top : (xs c s : List ℕ) (top room : ℕ) → Safe xs (state_of c s top) room → top ≤ room
safe_top xs c s top room h = omega (arith, safe_room xs (state_of c s top) room h, length-stack_of s top)

-- ---- line, task and naming, one after the other

module _ (line task at waiting : List ℕ) (a : ℕ) (s : State) (room : ℕ) (h : Safe (succs_of line task at waiting a) s room) where
  abbrev by_line : List ℕ
  by_line = linked (link_of line a)

  abbrev by_task : List ℕ
  by_task = linked (link_of task a)

  abbrev by_name : List ℕ
  by_name = part_of at waiting a

  pub line_safe : Safe (linked (link_of line a)) s room
  line_safe = safe_left by_line (by_task ++ by_name) s room h

  module _ {s₁ : State} (e₁ : s₁ ≡ free_all (linked (link_of line a)) s) where
    pub task_safe : (room' : ℕ) → room' ≡ room → Safe (linked (link_of task a)) s₁ room'
    task_safe room' r = rw (r, e₁) (safe_left by_task by_name (free_all by_line s) room (safe_right by_line (by_task ++ by_name) s room h))

    module _ {s₂ : State} (e₂ : s₂ ≡ free_all (linked (link_of task a)) s₁) where
      pub naming_safe : (room' : ℕ) → room' ≡ room → Safe (part_of at waiting a) s₂ room'
      naming_safe room' r = rw (r, e₂, e₁) (safe_right by_task by_name (free_all by_line s) room (safe_right by_line (by_task ++ by_name) s room h))

      pub all_freed : {s₃ : State} → s₃ ≡ free_all (part_of at waiting a) s₂ → s₃ ≡ free_all (succs_of line task at waiting a) s
      all_freed e₃ =
          e₃ ∙ ap (free_all by_name) (e₂ ∙ ap (free_all by_task) e₁) ∙ sym (free_all-append by_task by_name (free_all by_line s))
          ∙ sym (free_all-append by_line (by_task ++ by_name) s)

-- ---- a link

pub link_to : (links : List ℕ) (a : ℕ) → get_or links a 0 < length links → Some (get_or links a 0) ≡ link_of links a
link_to links a h = rw (lt-ltb _ _ h)

pub link_none : (links : List ℕ) (a : ℕ) → length links ≤ get_or links a 0 → None ≡ link_of links a
link_none links a h = rw (le-ltb _ _ h)

pub meet_none : {l : Option ℕ} → l ≡ None → (s : State) → s ≡ free_all (linked l) s
unfolding free_all
meet_none e s = rw e

pub meet_asks : {l : Option ℕ} {b : ℕ} → l ≡ Some b → (s : State) (room : ℕ) → Safe (linked l) s room
    → (b < length s.counts) × (0 < get_or s.counts b 0) × (length (free b s).stack ≤ room)
unfolding Safe
meet_asks e s room h = let q = rw e at h in (q.0, q.1, q.2)

pub meet_one : {l : Option ℕ} {b : ℕ} → l ≡ Some b → (s : State) → free b s ≡ free_all (linked l) s
unfolding free_all
meet_one e s = rw e

-- ---- the loop of `release_list`: what is left of the list frees from here what all of it frees from the start

pub record Listing (bs c₀ s₀ : List ℕ) (top₀ : ℕ) (c s : List ℕ) (top j : ℕ) : Type 0 where
  pub within : j ≤ length bs
  pub counted : length c ≡ length c₀
  pub roomy : length s ≡ length s₀
  pub safe : Safe (drop j bs) (state_of c s top) (length s₀)
  pub rest : free_all (drop j bs) (state_of c s top) ≡ free_all bs (state_of c₀ s₀ top₀)

module _ {bs c₀ s₀ : List ℕ} {top₀ : ℕ} {c s : List ℕ} {top j : ℕ} (f : Listing bs c₀ s₀ top₀ c s top j) where
  pub list_end : length bs ≤ j → (state_of c s top ≡ free_all bs (state_of c₀ s₀ top₀)) × (top ≤ length s₀)
  unfolding free_all
  list_end h =
      let i : j ≡ length bs = omega (arith, f.within) in
      let e : drop j bs ≡ [] = ap (λ k. drop k bs) i ∙ drop-length bs in
      (rw e at f.rest, safe_top [] c s top (length s₀) (rw e at f.safe))

  module _ (h : j < length bs) where
    pub list_asks : (get_or bs j 0 < length c) × (0 < get_or c (get_or bs j 0) 0) × (length (free (get_or bs j 0) (state_of c s top)).stack ≤ length s)
    unfolding Safe
    list_asks = let q = rw (drop-cons bs j 0 h) at f.safe in (q.0, q.1, omega (arith, q.2, f.roomy))

    pub list_again : {c' s' : List ℕ} {top' : ℕ} → state_of c' s' top' ≡ free (get_or bs j 0) (state_of c s top) → length c' ≡ length c → length s' ≡ length s
        → Listing bs c₀ s₀ top₀ c' s' top' (j + 1)
    unfolding Safe free_all
    list_again st cl sl =
        record {
          within = omega arith;
          counted = cl ∙ f.counted;
          roomy = sl ∙ f.roomy;
          safe = rw (st, add-one) (rw (drop-cons bs j 0 h) at f.safe).3;
          rest = rw (st, add-one) (rw (drop-cons bs j 0 h) at f.rest);
        }
