-- A problem without lines is a shop: its arcs are task order and named predecessors. Number 4 is given exactly when they close a circle.
use Rattle.std.specs.Prelude.{None, ℕ}
use Prim.Native.Nat.{ℕ, zero, suc, ◌+◌, ◌<◌}
use mathlib.Core.Path.{◌≡◌, refl, sym, ap, ◌∙◌}
use mathlib.Core.Bool.{Bool, true, false, cond, ◌&&◌, false≢true}
use mathlib.Core.Logic.{◌↔◌}
use native.Mathlib.Omega.{arith}
use lib.Dec.{eqb, ltb}
use lib.ListN.{length, get_or, length-append}
use borrow.Author.Tests.{eq-eqb, ne_eqb, lt-ltb, ltb-true}
use Rattle.graph.specs.Counting.{count_of, Below}
use Rattle.graph.specs.Arcs.{Circle}
use Rattle.graph.specs.Links.{linked, to_if}
use Rattle.graph.specs.Exact.{Counted}
use Rattle.graph.specs.Shop.{Shop, Arc, line, task, name, ins}
use Rattle.graph.proofs.CountingLaws.{either, hit-eq, hit-ne}
use Rattle.graph.proofs.CircleLaws.{circle_map}
use Rattle.graph.proofs.ShopTheorem.{graph, contradicts}
use Rattle.plan.specs.Problem.{Problem, Genes}
use Rattle.plan.specs.Accepted.{Accepted}
use Rattle.tables.specs.Tabled.{task_pred, task_succ, is_next, waits_of}
use Rattle.intake.specs.Circle.{Before, step, name as named, each, closes_circle}

-- ---- links that are there or not

pub nothing_below : (n : ℕ) → Below n (linked None)
unfolding Below
nothing_below n = tt

pub nothing_counts : (a b : ℕ) → count_of a (linked None) ≡ count_of b (linked None)
unfolding count_of
nothing_counts a b = refl

linked_below : (n b : ℕ) (t : Bool) → (t ≡ true → b < n) → Below n (linked (to_if t b))
unfolding Below
linked_below n b true h = (h refl, tt)
linked_below n b false h = tt

count_other : (a b : ℕ) (t : Bool) → (b ≡ a → ⊥) → count_of a (linked (to_if t b)) ≡ 0
unfolding count_of
count_other a b true ne = omega (arith, hit-ne b a ne)
count_other a b false ne = refl

count_own : (a b : ℕ) (t : Bool) → b ≡ a → count_of a (linked (to_if t b)) ≡ cond t 1 0
unfolding count_of
count_own a b true e = omega (arith, hit-eq b a e)
count_own a b false e = refl

eqb_turned : (a b : ℕ) → eqb a b ≡ eqb b a
eqb_turned a b = either a b (λ e. eq-eqb a b e ∙ sym (eq-eqb b a (sym e))) (λ ne. ne_eqb a b ne ∙ sym (ne_eqb b a (λ e. ne (sym e))))

pub next_within : (n : ℕ) (a : ℕ) (t : Bool) → (ltb a n && t) ≡ true → a < n
next_within n a t e = go (ltb a n) refl e
  where
    go : (b : Bool) → ltb a n ≡ b → (b && t) ≡ true → a < n
    go true q w = ltb-true a n q
    go false q w = absurd (false≢true w)

pub each_at : (f : ℕ → ℕ) (m k i : ℕ) → i < m → get_or (each f m k) i 0 ≡ f (k + i)
unfolding each
each_at f zero k i h = absurd (omega arith)
each_at f (suc m) k zero h = let e : k ≡ k + 0 = omega arith in ap f e
each_at f (suc m) k (suc i) h = each_at f m (suc k) i (omega arith) ∙ ap f (omega arith)

pub length-each : (f : ℕ → ℕ) (m k : ℕ) → length (each f m k) ≡ m
unfolding each
length-each f zero k = refl
length-each f (suc m) k = ap suc (length-each f m (suc k))

module _ (p : Problem) (g : Genes) (ok : Accepted p g) where
  pub pred_below : (a : ℕ) → a < p.n → Below p.n (linked (task_pred p a))
  unfolding Below
  pred_below zero h = tt
  pred_below (suc a) h = linked_below p.n a (eqb (p.task_of a) (p.task_of (suc a))) (λ e. omega arith)

  pub succ_below : (a : ℕ) → Below p.n (linked (task_succ p a))
  succ_below a = linked_below p.n (a + 1) (is_next p a) (next_within p.n (a + 1) (eqb (p.task_of (a + 1)) (p.task_of a)))

  -- the step after the one is the step before the other
  pub both_ways : (q a : ℕ) → a < p.n → count_of a (linked (task_succ p q)) ≡ count_of q (linked (task_pred p a))
  unfolding count_of
  both_ways q zero h = count_other 0 (q + 1) (is_next p q) (λ e. omega arith)
  both_ways q (suc b) h =
      either q b
      (λ e. count_own (suc b) (q + 1) (is_next p q) (omega arith) ∙ ap (λ (t : Bool). cond t 1 0) (same e) ∙ sym (count_own q b (eqb (p.task_of b) (p.task_of (suc b))) (sym e)))
      (λ ne. count_other (suc b) (q + 1) (is_next p q) (λ e. ne (omega arith)) ∙ sym (count_other q b (eqb (p.task_of b) (p.task_of (suc b))) (λ e. ne (sym e))))
    where
      same : q ≡ b → is_next p q ≡ eqb (p.task_of b) (p.task_of (suc b))
      same e =
          let l : q + 1 ≡ suc b = omega arith in
          let h' : suc b < p.n = h in
          rw (l, e, lt-ltb (suc b) p.n h') (eqb_turned (p.task_of (suc b)) (p.task_of b))

  abbrev pub bare : Shop
  bare =
      record {
        n = p.n;
        line_pred = λ a. None;
        line_succ = λ a. None;
        task_pred = task_pred p;
        task_succ = task_succ p;
        named = p.predecessors;
        waiting = p.waiting;
        span = λ a. 0;
        earliest = λ a. 0;
        transport = λ q a. 0;
        ins_below = λ a h. (nothing_below p.n, pred_below a h, ok.predecessors a);
        outs_below = λ a h. (nothing_below p.n, succ_below a, ok.waiting a);
        line_dual = λ q a h k. nothing_counts a q;
        task_dual = λ q a h k. both_ways q a k;
        named_dual = λ q a h k. ok.dual q a;
      }

  pub waits-ins : (b : ℕ) → waits_of p b ≡ length (ins bare b)
  waits-ins b = sym (length-append (linked (task_pred p b)) (p.predecessors b))

  pub counted : Counted (graph bare) (each (waits_of p) p.n 0)
  counted =
      record {
        long = omega (arith, length-each (waits_of p) p.n 0);
        right = λ b h. let z : 0 + b ≡ b = omega arith in each_at (waits_of p) p.n 0 b h ∙ ap (waits_of p) z ∙ waits-ins b;
      }

  arc_before : (q a : ℕ) → Arc bare q a → Before p q a
  arc_before q a (line h e) = let z : ◌≡◌ {A = ℕ} 0 1 = cc in absurd (omega arith)
  arc_before q a (task h e) = step h e
  arc_before q a (name h k) = named h k

  before_arc : (q a : ℕ) → Before p q a → Arc bare q a
  before_arc q a (step h e) = task h e
  before_arc q a (named h k) = name h k

  -- Number 4 is given exactly when task order and predecessors lead from some activity back to itself.
  pub four_is_circle : (closes_circle p ≡ true) ↔ Circle p.n (Before p)
  four_is_circle = (
    λ e. circle_map arc_before ((contradicts bare (each (waits_of p) p.n 0) counted).0 (ltb-true _ _ e)),
    λ c. lt-ltb _ _ ((contradicts bare (each (waits_of p) p.n 0) counted).1 (circle_map before_arc c)),
  )
