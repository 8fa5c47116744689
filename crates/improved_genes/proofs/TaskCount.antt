-- An order that has each activity once names each task as often as it has activities. Assumes nothing.
use Prim.Native.Nat.{ℕ, zero, suc, ◌+◌, ◌-◌, ◌*◌, ◌≤◌, ◌<◌}
use mathlib.Core.Path.{◌≡◌, refl, sym, ap, ◌∙◌}
use mathlib.Core.Bool.{Bool, true, false, cond}
use mathlib.Core.List.{List, [], ◌∷◌}
use native.Mathlib.Omega.{arith}
use borrow.Author.Tests.{eq-eqb, ne_eqb}
use lib.Dec.{eqb}
use lib.ListN.{length, get_or}
use Rattle.graph.specs.Counting.{bit, hit, count_of, sum_to, Below}
use Rattle.graph.proofs.CountingLaws.{either, hit-eq, hit-ne, sum_to-ap, sum_to-add, sum_to-zero}
use Rattle.plan.specs.Problem.{Problem, Genes}
use Rattle.plan.specs.Accepted.{Accepted}
use Rattle.genes.proofs.TaskLaws.{task_within, same_task}
use Rattle.search.specs.Saving.{tasks_of}

pub tasks-length : (p : Problem) (order : List ℕ) → length (tasks_of p order) ≡ length order
unfolding tasks_of
tasks-length p [] = refl
tasks-length p (a ∷ order) = ap suc (tasks-length p order)

-- ---- sums

-- of those that pass a test
miss_sum : (k x : ℕ) (f : ℕ → Bool) → k ≤ x → sum_to k (λ a. cond (f a) (hit x a) 0) ≡ 0
unfolding sum_to
miss_sum zero x f h = refl
miss_sum (suc k) x f h = omega (arith, miss_sum k x f (omega arith), none (f k))
  where
    none : (t : Bool) → cond t (hit x k) 0 ≡ 0
    none true = hit-ne x k (λ e. absurd (omega (arith, h, e)))
    none false = refl

hit-sum : (k x : ℕ) (f : ℕ → Bool) → x < k → sum_to k (λ a. cond (f a) (hit x a) 0) ≡ bit (f x)
unfolding sum_to
hit-sum zero x f h = absurd (omega arith)
hit-sum (suc k) x f h =
    either x k
    (λ e. omega (arith, miss_sum k x f (omega (arith, e)), one (f k) e, ap (λ (y : ℕ). bit (f y)) e))
    (λ ne. omega (arith, hit-sum k x f (omega (arith, h, ne)), none (f k) ne))
  where
    one : (t : Bool) → x ≡ k → cond t (hit x k) 0 ≡ bit t
    one true e = hit-eq x k e
    one false e = refl

    none : (t : Bool) → (x ≡ k → ⊥) → cond t (hit x k) 0 ≡ 0
    none true ne = hit-ne x k ne
    none false ne = refl

-- .. that are all the same from a number on
flat_sum : (c k len : ℕ) (f : ℕ → ℕ) → ((a : ℕ) → k ≤ a → a < k + len → f a ≡ c) → sum_to (k + len) f ≡ sum_to k f + c * len
unfolding sum_to
flat_sum c k zero f h = let e : k + 0 ≡ k = omega arith in omega (arith, ap (λ (y : ℕ). sum_to y f) e)
flat_sum c k (suc len) f h =
    let e : k + suc len ≡ suc (k + len) = omega arith in
    omega (arith, ap (λ (y : ℕ). sum_to y f) e, flat_sum c k len f (λ a l m. h a l (omega (arith, m))), h (k + len) (omega arith) (omega arith))

-- .. in a stretch and nowhere else
pub stretch_sum : (k low len : ℕ) (f : ℕ → ℕ) → low + len ≤ k → ((a : ℕ) → low ≤ a → a < low + len → f a ≡ 1) → ((a : ℕ) → a < low → f a ≡ 0)
    → ((a : ℕ) → low + len ≤ a → a < k → f a ≡ 0) → sum_to k f ≡ len
unfolding sum_to
stretch_sum k low len f h inside before behind =
    let z : 0 + low ≡ low = omega arith in
    let e : low + len + (k - (low + len)) ≡ k = omega (arith, h) in
    omega
    (arith, ap (λ (y : ℕ). sum_to y f) z, ap (λ (y : ℕ). sum_to y f) e, flat_sum 0 0 low f (λ a l m. before a (omega (arith, m))), flat_sum 1 low len f inside, flat_sum 0 (low + len) (k - (low + len)) f (λ a l m. behind a l (omega (arith, m))))

-- ---- namings

module _ (p : Problem) (t : ℕ) where
  abbrev pub mine : ℕ → Bool
  mine a = eqb (p.task_of a) t

  more : (s : Bool) (x y : ℕ) → cond s (x + y) 0 ≡ cond s x 0 + cond s y 0
  more true x y = refl
  more false x y = refl

  zeros : (s : Bool) → ◌≡◌ {A = ℕ} (cond s 0 0) 0
  zeros true = refl
  zeros false = refl

  own : (a : ℕ) → hit (p.task_of a) t ≡ bit (mine a)
  unfolding hit
  own a = refl

  pub tasks-sum : (l : List ℕ) → Below p.n l → count_of t (tasks_of p l) ≡ sum_to p.n (λ a. cond (mine a) (count_of a l) 0)
  unfolding tasks_of count_of Below
  tasks-sum [] b = sym (sum_to-ap p.n (λ a. cond (mine a) 0 0) (λ a. 0) (λ a h. zeros (mine a)) ∙ sum_to-zero p.n)
  tasks-sum (x ∷ l) b =
      let both = sum_to-ap p.n (λ a. cond (mine a) (hit x a + count_of a l) 0) (λ a. cond (mine a) (hit x a) 0 + cond (mine a) (count_of a l) 0) (λ a h. more (mine a) (hit x a) (count_of a l)) in
      let apart = sum_to-add p.n (λ a. cond (mine a) (hit x a) 0) (λ a. cond (mine a) (count_of a l) 0) in
      omega (arith, own x, both, apart, hit-sum p.n x mine b.0, tasks-sum l b.1)

-- ---- as often as it has activities

module _ {p : Problem} {g : Genes} (ok : Accepted p g) where
  -- the activities from a task's first on are its own
  pub own_task : (t a : ℕ) → t < p.tasks → p.first t ≤ a → a < p.first t + p.steps t → p.task_of a ≡ t
  own_task t a h l k =
      let mine = ok.owned a (omega (arith, k, task_within ok t h)) in
      same_task ok (p.task_of a) t (a - p.first (p.task_of a)) (a - p.first t) (omega (arith, mine.0, mine.1)) (omega arith) (omega (arith, mine.0))

  -- each number is a task
  pub tasks_known : (order : List ℕ) → Below p.n order → (i : ℕ) → i < length order → get_or (tasks_of p order) i 0 < p.tasks
  unfolding tasks_of Below
  tasks_known [] b i h = absurd (omega arith)
  tasks_known (a ∷ order) b zero h = ok.owner a b.0
  tasks_known (a ∷ order) b (suc i) h = tasks_known order b.1 i (omega arith)

  pub as_often : (order : List ℕ) → Below p.n order → ((a : ℕ) → a < p.n → count_of a order ≡ 1) → (t : ℕ) → t < p.tasks → count_of t (tasks_of p order) ≡ p.steps t
  as_often order known once t h =
      let low = p.first t in
      let len = p.steps t in
      let within = task_within ok t h in
      let ones = sum_to-ap p.n (λ a. cond (eqb (p.task_of a) t) (count_of a order) 0) (λ a. bit (eqb (p.task_of a) t)) (λ a k. one (eqb (p.task_of a) t) (once a k)) in
      let other : (a : ℕ) → (p.task_of a ≡ t → ⊥) → bit (eqb (p.task_of a) t) ≡ 0 = λ a ne. ap bit (ne_eqb (p.task_of a) t ne) in
      let sum =
      stretch_sum p.n low len (λ a. bit (eqb (p.task_of a) t)) within (λ a l m. ap bit (eq-eqb (p.task_of a) t (own_task t a h l m)))
      (λ a l. other a (λ e. absurd (omega (arith, l, ap p.first e, (ok.owned a (omega (arith, l, within))).0))))
      (λ a l k. other a (λ e. absurd (omega (arith, l, ap p.first e, ap p.steps e, (ok.owned a k).1)))) in
      omega (arith, tasks-sum p t order known, ones, sum)
    where
      one : (s : Bool) {x : ℕ} → x ≡ 1 → cond s x 0 ≡ bit s
      one true e = e
      one false e = refl
