-- `indexed`: what is given so far, and what the words left give, is what the whole order gives. Assumes nothing.
use Rattle.std.specs.Prelude.{None, Some}
use Prim.Native.Nat.{ℕ, zero, suc, ◌+◌, ◌≤◌, ◌<◌}
use mathlib.Core.Path.{◌≡◌, refl, sym, ap, ◌∙◌, subst}
use mathlib.Core.Bool.{Bool, true, false, ◌&&◌}
use mathlib.Core.List.{List, [], ◌∷◌, ◌++◌, append-nil, append_assoc}
use native.Mathlib.Numerals.{add-one}
use native.Mathlib.Omega.{arith}
use borrow.Author.Tests.{lt-ltb, le-ltb, ltb-true, ltb-false}
use lib.Dec.{ltb}
use lib.ListN.{length, get_or, set, take, drop, replicate, length-set, length-append, drop_of_length-le, get_or-replicate}
use lib.Seq.{drop-cons, take-suc-set, length-take-le, get_or-set_same, get_or-set_other}
use Rattle.graph.specs.Counting.{count_of, hit}
use Rattle.graph.specs.Filing.{cons_if}
use Rattle.graph.proofs.CountingLaws.{either, hit-eq, hit-ne, hit-le}
use Rattle.plan.specs.Problem.{Problem, Genes}
use Rattle.plan.specs.Input.{cell, words_from, problem_of, genes_of}
use Rattle.plan.specs.Accepted.{Accepted}
use Rattle.plan.specs.declared.Layout.{Layout}
use Rattle.plan.proofs.InputLaws.{length-words_from}
use Rattle.genes.specs.Indexed.{gives, indexed_from, indexed}
use Rattle.genes.specs.Held.{filled_to, Listed, task_if, task_named}
use Rattle.genes.proofs.HeldLaws.{filled_at}
use Rattle.genes.proofs.TaskLaws.{task_within}
use Rattle.genes.proofs.IndexedLaws.{indexed_few}

-- ---- the order's words

words_at : (ws : List ℕ) (n at k : ℕ) → k < n → get_or (words_from ws n at) k 0 ≡ get_or ws (at + k) 0
unfolding words_from
words_at ws zero at k h = absurd (omega arith)
words_at ws (suc n) at zero h = ap (λ (i : ℕ). get_or ws i 0) (omega arith)
words_at ws (suc n) at (suc k) h = words_at ws n (at + 1) k (omega arith) ∙ ap (λ (i : ℕ). get_or ws i 0) (omega arith)

pub order_length : (ws : List ℕ) (z : Layout) → length (genes_of ws z).order ≡ get_or ws z.at.order 0
order_length ws z = length-words_from ws (get_or ws z.at.order 0) (z.at.order + 1)

order_at : (ws : List ℕ) (z : Layout) (k : ℕ) → k < get_or ws z.at.order 0 → cell ws z.at.order 1 k 0 ≡ get_or (genes_of ws z).order k 0
order_at ws z k h =
    ap (λ (i : ℕ). get_or ws i 0) (omega arith) ∙ sym (words_at ws (get_or ws z.at.order 0) (z.at.order + 1) k h)

-- the order's k-th word is t
pub record Word (g : Genes) (k t : ℕ) : Type 0 where
  pub left : k < length g.order
  pub is : t ≡ get_or g.order k 0

pub named_unknown : (p : Problem) (x t : ℕ) → t ≡ x → p.tasks ≤ t → None ≡ task_named p x
named_unknown p x t e h = rw (le-ltb x p.tasks (omega arith))

pub named_task : (p : Problem) (x t : ℕ) → t ≡ x → t < p.tasks → Some t ≡ task_named p x
named_task p x t e h = rw (lt-ltb x p.tasks (omega arith), e)

task_is : (p : Problem) (x t : ℕ) → Some t ≡ task_named p x → (t ≡ x) × (x < p.tasks)
task_is p x t e = by_test (ltb x p.tasks) refl e
  where
    by_test : (b : Bool) → ltb x p.tasks ≡ b → Some t ≡ task_if b x → (t ≡ x) × (x < p.tasks)
    by_test true l q = (cc, ltb-true x p.tasks l)
    by_test false l q = let z : ◌≡◌ {A = ℕ} 0 1 = cc in absurd (omega arith)

task_unknown : (p : Problem) (x : ℕ) → None ≡ task_named p x → p.tasks ≤ x
task_unknown p x e = by_test (ltb x p.tasks) refl e
  where
    by_test : (b : Bool) → ltb x p.tasks ≡ b → None ≡ task_if b x → p.tasks ≤ x
    by_test true l q = let z : ◌≡◌ {A = ℕ} 0 1 = cc in absurd (omega arith)
    by_test false l q = ltb-false x p.tasks l

module _ (ws : List ℕ) (z : Layout) (k n : ℕ) (e : n ≡ get_or ws z.at.order 0) (h : k < n) where
  pub known_word : (t : ℕ) → Some t ≡ task_named (problem_of ws z) (cell ws z.at.order 1 k 0) → Word (genes_of ws z) k t × (t < z.tasks)
  known_word t q =
      let w = task_is (problem_of ws z) (cell ws z.at.order 1 k 0) t q in
      (record { left = omega (arith, order_length ws z); is = w.0 ∙ order_at ws z k (omega arith) }, omega arith)

  pub unknown_word : None ≡ task_named (problem_of ws z) (cell ws z.at.order 1 k 0)
      → Word (genes_of ws z) k (cell ws z.at.order 1 k 0) × (z.tasks ≤ cell ws z.at.order 1 k 0)
  unknown_word q =
      (record { left = omega (arith, order_length ws z); is = order_at ws z k (omega arith) }, task_unknown (problem_of ws z) (cell ws z.at.order 1 k 0) q)

-- ---- one word

count_few : (a : ℕ) (l : List ℕ) → count_of a l ≤ length l
unfolding count_of
count_few a [] = omega arith
count_few a (x ∷ l) = omega (arith, hit-le x a, count_few a l)

module _ (p : Problem) (named : List ℕ) (t : ℕ) where
  gives_unknown : p.tasks ≤ t → gives p named t ≡ false
  gives_unknown h = rw (le-ltb t p.tasks h)

  gives_surplus : p.steps t ≤ count_of t named → gives p named t ≡ false
  gives_surplus h = rw (le-ltb (count_of t named) (p.steps t) h) (and_false (ltb t p.tasks))
    where
      and_false : (b : Bool) → (b && false) ≡ false
      and_false true = refl
      and_false false = refl

  gives_one : t < p.tasks → count_of t named < p.steps t → gives p named t ≡ true
  gives_one h k = rw (lt-ltb t p.tasks h, lt-ltb (count_of t named) (p.steps t) k)

  dropped : (order : List ℕ) → gives p named t ≡ false → indexed_from p named (t ∷ order) ≡ indexed_from p (t ∷ named) order
  unfolding indexed_from
  dropped order e = ap (λ (b : Bool). cons_if b (p.first t + count_of t named) (indexed_from p (t ∷ named) order)) e

  taken : (order : List ℕ) → gives p named t ≡ true → indexed_from p named (t ∷ order) ≡ (p.first t + count_of t named) ∷ indexed_from p (t ∷ named) order
  unfolding indexed_from
  taken order e = ap (λ (b : Bool). cons_if b (p.first t + count_of t named) (indexed_from p (t ∷ named) order)) e

-- ---- the loop

pub record Indexing (p : Problem) (g : Genes) (firsts cells₀ cells named : List ℕ) (count k : ℕ) : Type 0 where
  pub within : k ≤ length g.order
  pub sized : length cells ≡ length cells₀
  pub wide : length named ≡ 32
  pub starts : (t : ℕ) → t < p.tasks → get_or firsts t 0 ≡ p.first t
  -- the words passed, the last one first, and how often each task was named in them
  pub passed : List ℕ
  pub long : length passed ≡ k
  pub counted : (t : ℕ) → t < p.tasks → get_or named t 0 ≡ count_of t passed
  pub roomy : count ≤ length cells
  pub rest : take count cells ++ indexed_from p passed (drop k g.order) ≡ indexed p g
  pub kept : (i : ℕ) → count ≤ i → get_or cells i 0 ≡ get_or cells₀ i 0

module _ {p : Problem} {g : Genes} (plan : Accepted p g) where
  pub index_begin : (firsts cells : List ℕ) → firsts ≡ filled_to p.first p.tasks (replicate 32 0) → Indexing p g firsts cells cells (replicate 32 0) 0 0
  unfolding count_of
  index_begin firsts cells e =
      record {
        within = omega arith;
        sized = refl;
        wide = refl;
        starts = λ t h. rw e (filled_at p.first p.tasks (replicate 32 0) t plan.tasks.1 h);
        passed = [];
        long = refl;
        counted = λ t h. get_or-replicate 32 t 0 0 (omega (arith, plan.tasks.1));
        roomy = omega arith;
        rest = refl;
        kept = λ i h. refl;
      }

  module _ {firsts cells₀ cells named : List ℕ} {count k : ℕ} (w : Indexing p g firsts cells₀ cells named count k) where
    filled : length (indexed_from p w.passed (drop k g.order)) + count ≡ length (indexed p g)
    filled =
        omega
        (arith, length-append (take count cells) (indexed_from p w.passed (drop k g.order)), ap length w.rest, length-take-le count cells w.roomy)

    pub index_end : length g.order ≤ k → Listed (indexed p g) cells₀ cells count × (count ≤ p.n)
    unfolding indexed_from
    index_end h =
        let e : drop k g.order ≡ [] = drop_of_length-le g.order h in
        let f : indexed_from p w.passed (drop k g.order) ≡ [] = ap (indexed_from p w.passed) e in
        let l : count ≡ length (indexed p g) = omega (arith, filled, ap length f) in
        (record { whole = l; listed = sym (append-nil (take count cells)) ∙ ap (λ (x : List ℕ). take count cells ++ x) (sym f) ∙ w.rest; kept = w.kept }, omega (arith, l, indexed_few plan))

    module _ {t : ℕ} (q : Word g k t) where
      next : drop k g.order ≡ t ∷ drop (k + 1) g.order
      next = rw (add-one k, q.is) (drop-cons g.order k 0 q.left)

      -- a naming of a task that there is not
      pub index_unknown : p.tasks ≤ t → Indexing p g firsts cells₀ cells named count (k + 1)
      unfolding count_of
      index_unknown u =
          record {
            within = omega (arith, q.left);
            sized = w.sized;
            wide = w.wide;
            starts = w.starts;
            passed = t ∷ w.passed;
            long = omega (arith, w.long);
            counted = λ x l. omega (arith, w.counted x l, hit-ne t x (λ e. absurd (omega arith)));
            roomy = w.roomy;
            rest =
                ap (λ (x : List ℕ). take count cells ++ x) (sym (ap (indexed_from p w.passed) next ∙ dropped p w.passed t (drop (k + 1) g.order) (gives_unknown p w.passed t u)))
                ∙ w.rest;
            kept = w.kept;
          }

      module _ (u : t < p.tasks) where
        -- how often its task was named before
        pub named_few : get_or named t 0 ≤ k
        named_few = omega (arith, w.counted t u, count_few t w.passed, w.long)

        once_more : (x : ℕ) → x < p.tasks → get_or (set named t (get_or named t 0 + 1)) x 0 ≡ count_of x (t ∷ w.passed)
        unfolding count_of
        once_more x l =
            either x t
            (λ e.
            subst (λ (y : ℕ). get_or (set named t (get_or named t 0 + 1)) y 0 ≡ hit t y + count_of y w.passed) (sym e)
            (omega (arith, get_or-set_same named t (get_or named t 0 + 1) 0 (omega (arith, w.wide, plan.tasks.1)), w.counted t u, hit-eq t t refl)))
            (λ ne. omega (arith, get_or-set_other named t x (get_or named t 0 + 1) 0 ne, w.counted x l, hit-ne t x (λ e. ne (sym e))))

        -- a naming for which its task has no activity left
        pub index_surplus : p.steps t ≤ get_or named t 0 → Indexing p g firsts cells₀ cells (set named t (get_or named t 0 + 1)) count (k + 1)
        index_surplus s =
            record {
              within = omega (arith, q.left);
              sized = w.sized;
              wide = length-set named t (get_or named t 0 + 1) ∙ w.wide;
              starts = w.starts;
              passed = t ∷ w.passed;
              long = omega (arith, w.long);
              counted = once_more;
              roomy = w.roomy;
              rest =
                  ap (λ (x : List ℕ). take count cells ++ x)
                  (sym (ap (indexed_from p w.passed) next ∙ dropped p w.passed t (drop (k + 1) g.order) (gives_surplus p w.passed t (omega (arith, w.counted t u)))))
                  ∙ w.rest;
              kept = w.kept;
            }

        module _ (s : get_or named t 0 < p.steps t) where
          one : indexed_from p w.passed (drop k g.order) ≡ (p.first t + get_or named t 0) ∷ indexed_from p (t ∷ w.passed) (drop (k + 1) g.order)
          one =
              ap (indexed_from p w.passed) next
              ∙ taken p w.passed t (drop (k + 1) g.order) (gives_one p w.passed t u (omega (arith, w.counted t u)))
              ∙ ap (λ (x : ℕ). x ∷ indexed_from p (t ∷ w.passed) (drop (k + 1) g.order)) (omega (arith, w.counted t u))

          pub activity_known : get_or firsts t 0 + get_or named t 0 < p.n
          activity_known = omega (arith, w.starts t u, task_within plan t u)

          pub has_room : count < p.n
          has_room = omega (arith, filled, ap length one, indexed_few plan)

          pub index_taken : (a : ℕ) → a ≡ p.first t + get_or named t 0 → p.n ≤ length cells₀
              → Indexing p g firsts cells₀ (set cells count a) (set named t (get_or named t 0 + 1)) (count + 1) (k + 1)
          index_taken a e r =
              let l : count < length cells = omega (arith, has_room, w.sized) in
              record {
                within = omega (arith, q.left);
                sized = length-set cells count a ∙ w.sized;
                wide = length-set named t (get_or named t 0 + 1) ∙ w.wide;
                starts = w.starts;
                passed = t ∷ w.passed;
                long = omega (arith, w.long);
                counted = once_more;
                roomy = omega (arith, length-set cells count a);
                rest =
                    ap (λ (x : List ℕ). x ++ indexed_from p (t ∷ w.passed) (drop (k + 1) g.order)) (ap (λ (i : ℕ). take i (set cells count a)) (add-one count) ∙ take-suc-set cells count a l)
                    ∙ append_assoc (take count cells) (a ∷ []) (indexed_from p (t ∷ w.passed) (drop (k + 1) g.order))
                    ∙ ap (λ (x : List ℕ). take count cells ++ x) (ap (λ (x : ℕ). x ∷ indexed_from p (t ∷ w.passed) (drop (k + 1) g.order)) e ∙ sym one)
                    ∙ w.rest;
                kept = λ i b. get_or-set_other cells count i a 0 (λ e. absurd (omega arith)) ∙ w.kept i (omega arith);
              }
