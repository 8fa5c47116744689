-- The activities that an order gives: each is one of the plan's, none comes twice, so that they are all of them where they are as many.
-- Assumes nothing.
use Prim.Native.Nat.{ℕ, ◌+◌, ◌≤◌, ◌<◌}
use mathlib.Core.Path.{◌≡◌, refl, ap, ◌∙◌, subst}
use mathlib.Core.Bool.{Bool, true, false, ◌&&◌}
use mathlib.Core.List.{List, [], ◌∷◌}
use native.Mathlib.Omega.{arith}
use borrow.Author.Tests.{ltb-true}
use lib.Dec.{ltb}
use lib.ListN.{length}
use Rattle.graph.specs.Counting.{count_of, Below}
use Rattle.graph.specs.Filing.{cons_if}
use Rattle.graph.proofs.CountingLaws.{either, hit-eq, hit-ne, hit-le, count_all, sum_to-le, sum_to_full}
use Rattle.plan.specs.Problem.{Problem, Genes}
use Rattle.plan.specs.Accepted.{Accepted}
use Rattle.genes.specs.Indexed.{gives, indexed_from, indexed}
use Rattle.genes.proofs.TaskLaws.{task_within, same_task}

both_true : (a b : Bool) → (a && b) ≡ true → (a ≡ true) × (b ≡ true)
both_true true b e = (refl, e)
both_true false b e = let z : ◌≡◌ {A = ℕ} 0 1 = cc in absurd (omega arith)

-- a naming that gives an activity names a task that there is, and there are fewer before than the task has activities
given : (p : Problem) (named : List ℕ) (t : ℕ) → gives p named t ≡ true → (t < p.tasks) × (count_of t named < p.steps t)
given p named t e =
    let w = both_true (ltb t p.tasks) (ltb (count_of t named) (p.steps t)) e in
    (ltb-true _ _ w.0, ltb-true _ _ w.1)

cons_if_below : (n : ℕ) (b : Bool) (x : ℕ) (l : List ℕ) → (b ≡ true → x < n) → Below n l → Below n (cons_if b x l)
unfolding Below
cons_if_below n true x l h g = (h refl, g)
cons_if_below n false x l h g = g

-- a list with one more, if a test holds, counts as often as the list where the one more is another
cons_if_other : (b : Bool) (x a : ℕ) (l : List ℕ) → (b ≡ true → x ≡ a → ⊥) → count_of a (cons_if b x l) ≡ count_of a l
unfolding count_of
cons_if_other true x a l h = omega (arith, hit-ne x a (h refl))
cons_if_other false x a l h = refl

cons_if-once : (b : Bool) (x a : ℕ) (l : List ℕ) → count_of a l ≤ 1 → (b ≡ true → x ≡ a → count_of a l ≡ 0) → count_of a (cons_if b x l) ≤ 1
unfolding count_of
cons_if-once true x a l h k = either x a (λ e. omega (arith, hit-le x a, k refl e)) (λ ne. omega (arith, hit-ne x a ne))
cons_if-once false x a l h k = h

module _ {p : Problem} {g : Genes} (plan : Accepted p g) where
  from_below : (named order : List ℕ) → Below p.n (indexed_from p named order)
  unfolding indexed_from Below
  from_below named [] = tt
  from_below named (t ∷ order) =
      cons_if_below p.n (gives p named t) (p.first t + count_of t named) (indexed_from p (t ∷ named) order)
      (λ e. let w = given p named t e in omega (arith, task_within plan t w.0)) (from_below (t ∷ named) order)

  -- a task named more than i times before gives its i-th activity no more
  from_gone : (named order : List ℕ) (u i : ℕ) → i < p.steps u → i < count_of u named → count_of (p.first u + i) (indexed_from p named order) ≡ 0
  unfolding indexed_from count_of
  from_gone named [] u i h k = refl
  from_gone named (t ∷ order) u i h k =
      cons_if_other (gives p named t) (p.first t + count_of t named) (p.first u + i) (indexed_from p (t ∷ named) order)
      (λ e q.
      let w = given p named t e in
      let s : t ≡ u = same_task plan t u (count_of t named) i w.1 h q in
      omega (arith, ap p.first s, ap (λ (x : ℕ). count_of x named) s))
      ∙ from_gone (t ∷ named) order u i h (omega arith)

  from_once : (named order : List ℕ) (a : ℕ) → count_of a (indexed_from p named order) ≤ 1
  unfolding indexed_from count_of
  from_once named [] a = omega arith
  from_once named (t ∷ order) a =
      cons_if-once (gives p named t) (p.first t + count_of t named) a (indexed_from p (t ∷ named) order) (from_once (t ∷ named) order a)
      (λ e q.
      subst (λ (x : ℕ). count_of x (indexed_from p (t ∷ named) order) ≡ 0) q
      (from_gone (t ∷ named) order t (count_of t named) (given p named t e).1 (omega (arith, hit-eq t t refl))))

  pub indexed_below : Below p.n (indexed p g)
  indexed_below = from_below [] g.order

  pub indexed-once : (a : ℕ) → count_of a (indexed p g) ≤ 1
  indexed-once a = from_once [] g.order a

  pub indexed_few : length (indexed p g) ≤ p.n
  indexed_few = omega (arith, count_all p.n (indexed p g) indexed_below, sum_to-le p.n (λ a. count_of a (indexed p g)) indexed-once)

  pub indexed-all : length (indexed p g) ≡ p.n → (a : ℕ) → a < p.n → count_of a (indexed p g) ≡ 1
  indexed-all e = sum_to_full p.n (λ a. count_of a (indexed p g)) indexed-once (count_all p.n (indexed p g) indexed_below ∙ e)
