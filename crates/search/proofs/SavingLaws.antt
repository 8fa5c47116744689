-- The task of each activity of an order, written one after the other.
use Prim.Native.Nat.{ℕ, zero, suc, ◌+◌, ◌≤◌, ◌<◌}
use mathlib.Core.Path.{◌≡◌, refl, sym, ap, ◌∙◌}
use mathlib.Core.List.{List, [], ◌∷◌}
use native.Mathlib.Omega.{arith}
use lib.ListN.{length, get_or, set, length-set}
use lib.Seq.{ext_get_or, get_or-set_same, get_or-set_other}
use Rattle.graph.specs.Counting.{Below}
use Rattle.graph.proofs.CountingLaws.{either, below_at}
use Rattle.plan.specs.Problem.{Problem}
use Rattle.tables.specs.Tabled.{Tabled}
use Rattle.intake.specs.Circle.{each}
use Rattle.intake.proofs.BareShop.{each_at, length-each}
use Rattle.search.specs.Saving.{tasks_of}

tasks-length : (p : Problem) (order : List ℕ) → length (tasks_of p order) ≡ length order
unfolding tasks_of
tasks-length p [] = refl
tasks-length p (a ∷ order) = ap suc (tasks-length p order)

tasks_at : (p : Problem) (order : List ℕ) (i : ℕ) → i < length order → get_or (tasks_of p order) i 0 ≡ p.task_of (get_or order i 0)
unfolding tasks_of
tasks_at p [] i h = absurd (omega arith)
tasks_at p (a ∷ order) zero h = refl
tasks_at p (a ∷ order) (suc i) h = tasks_at p order i (omega arith)

pub record Saving (table order tasks : List ℕ) (i : ℕ) : Type 0 where
  pub within : i ≤ length order
  pub sized : length tasks ≡ length order
  pub so_far : (p : Problem) → Tabled p table → Below p.n order → (j : ℕ) → j < i → get_or tasks j 0 ≡ p.task_of (get_or order j 0)

pub none_saved : (table order tasks : List ℕ) → length tasks ≡ length order → Saving table order tasks 0
none_saved table order tasks e = record { within = omega arith; sized = e; so_far = λ p t b j h. absurd (omega arith) }

module _ {table order tasks : List ℕ} {i : ℕ} (k : Saving table order tasks i) where
  pub saved_next : i < length order → {x : ℕ} → ((p : Problem) → Tabled p table → get_or order i 0 < p.n → x ≡ p.task_of (get_or order i 0)) → Saving table order (set tasks i x) (i + 1)
  saved_next h {x} e =
      record {
        within = omega arith;
        sized = length-set tasks i x ∙ k.sized;
        so_far = λ p t b j l.
            either j i
            (λ q. ap (λ (y : ℕ). get_or (set tasks i x) y 0) q ∙ get_or-set_same tasks i x 0 (omega (arith, k.sized)) ∙ e p t (below_at p.n order i b h) ∙ ap (λ (y : ℕ). p.task_of (get_or order y 0)) (sym q))
            (λ ne. get_or-set_other tasks i j x 0 ne ∙ k.so_far p t b j (omega arith));
      }

  pub all_saved : length order ≤ i → (p : Problem) → Tabled p table → Below p.n order → tasks ≡ tasks_of p order
  all_saved h p t b =
      ext_get_or 0 tasks (tasks_of p order) (k.sized ∙ sym (tasks-length p order))
      (λ j l. k.so_far p t b j (omega (arith, k.sized)) ∙ sym (tasks_at p order j (omega (arith, k.sized))))

-- A list that holds what a function says of each of n is the list of that.
pub each_is : (n : ℕ) (f : ℕ → ℕ) (l : List ℕ) → length l ≡ n → ((a : ℕ) → a < n → get_or l a 0 ≡ f a) → l ≡ each f n 0
each_is n f l e h =
    ext_get_or 0 l (each f n 0) (e ∙ sym (length-each f n 0))
    (λ a k.
    let z : 0 + a ≡ a = omega arith in
    h a (omega arith) ∙ sym (each_at f n 0 a (omega arith) ∙ ap f z))
