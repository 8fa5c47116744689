-- Renewed bytes that are taken in mean the problem that they were made from, with the genes that were put.
use Rattle.std.specs.Prelude.{None, Some}
use Prim.Native.Nat.{ℕ, suc, ◌+◌, ◌*◌, ◌-◌, ◌/◌, ◌%◌, ◌^◌, ◌≤◌, ◌<◌}
use mathlib.Core.Path.{◌≡◌, refl, sym, ap, ◌∙◌, subst}
use mathlib.Core.Bool.{Bool, true, false, cond, ◌&&◌}
use mathlib.Core.List.{List, [], ◌∷◌}
use native.Mathlib.Nat.{le_trans}
use native.Mathlib.Omega.{arith}
use borrow.Author.Tests.{lt-ltb}
use lib.Dec.{ltb}
use lib.ListN.{length, get_or, take}
use Rattle.words.specs.Words.{words, Below}
use Rattle.words.proofs.WordLaws.{length-words, below_at}
use Rattle.reader.specs.Answer.{Accepted as Taken}
use Rattle.plan.specs.Input.{cell, count, some_if, words_from, problem_of, genes_of}
use Rattle.plan.specs.Found.{layout_of}
use Rattle.plan.specs.Laid.{Laid}
use Rattle.plan.specs.declared.Layout.{Layout}
use Rattle.intake.specs.Intake.{taken_in}
use Rattle.intake.proofs.Soundness.{taken_in_means}
use Rattle.renewed.specs.Renewed.{low_words, renewed_bytes}
use Rattle.renewed.specs.Meaning.{renewed_plan, Same, genes_written, Renewed}
use Rattle.renewed.proofs.WordsLaws.{low_same, renewed_long, words_stay, order_words, assignment-words}
use Rattle.renewed.proofs.SameLaws.{moved, lies_same, same_problem}

-- Words that stand one after the other, from a place on.
words_are : (vs : List ℕ) (xs : List ℕ) (at : ℕ) → ((i : ℕ) → i < length xs → get_or vs (at + i) 0 ≡ get_or xs i 0) → words_from vs (length xs) at ≡ xs
unfolding words_from
words_are vs [] at h = refl
words_are vs (x ∷ xs) at h =
    let first : at ≡ at + 0 = omega arith in
    let here : get_or vs at 0 ≡ x = ap (λ (j : ℕ). get_or vs j 0) first ∙ h 0 (omega arith) in
    let rest : words_from vs (length xs) (at + 1) ≡ xs =
    words_are vs xs (at + 1) (λ i l. let e : at + 1 + i ≡ at + suc i = omega arith in ap (λ (j : ℕ). get_or vs j 0) e ∙ h (suc i) (omega (arith, l))) in
    λ i. here i ∷ rest i

words_of_machines : (xs : List ℕ) → Below (2 ^ 32 - 1) xs → Below (2 ^ 32) xs
words_of_machines [] h = tt
words_of_machines (x ∷ xs) h = (omega (arith, h.0), words_of_machines xs h.1)

-- A machine's word, below -1, and none past the last.
machine_is : (b c : Bool) (m : ℕ) → c ≡ true → some_if (b && c) m ≡ cond b (Some m) None
machine_is true c m e = ap (λ (d : Bool). some_if d m) e
machine_is false c m e = refl

-- Counts come back whole: past 2^32 the words would not end where they do.
counts_whole : (k lt lm w at c : ℕ) → w ≡ lt % 2 ^ 32 → at ≡ k + 1 + w → k + 1 + lt + 1 + lm ≡ at + 1 + c → c ≤ 128 → (w ≡ lt) × (c ≡ lm)
counts_whole k lt lm w at c e f g h = (omega (arith, e, f, g, h), omega (arith, e, f, g, h))

fits_in : (words order assignment orders machines bytes : ℕ) → words ≡ bytes / 4 → words ≡ assignment + 1 + machines → assignment ≡ order + 1 + orders → 4 * order ≤ bytes
fits_in words order assignment orders machines bytes a b c = omega (arith, a, b, c)

module _ (s tasks machines : List ℕ) (z y : Layout) (l : Laid (words s) z) where
  abbrev k : ℕ
  k = z.at.order

  abbrev vs : List ℕ
  vs = words (renewed_bytes (take (4 * k) s) tasks machines)

  pub fits : 4 * k ≤ length s
  fits = fits_in (length (words s)) k z.at.assignment (count (words s) z k) (count (words s) z z.at.assignment) (length s) (length-words s) l.ends l.assignment_at

  module _ (m : Laid vs y) where
    lies : y ≡ moved z y.at.assignment
    lies = lies_same (words s) vs z y (words_stay k s tasks machines fits) l m

    pub same : Same (problem_of vs y) (problem_of (words s) z)
    same = subst (λ (x : Layout). Same (problem_of vs x) (problem_of (words s) z)) (sym lies) (same_problem (words s) vs z y (words_stay k s tasks machines fits) l y.at.assignment)

    order_at : y.at.order ≡ k
    order_at = ap (λ (x : Layout). x.at.order) lies

    order_word : count vs y y.at.order ≡ length tasks % 2 ^ 32
    unfolding low_words
    order_word =
        let here : k ≡ k + 0 = omega arith in
        ap (λ (i : ℕ). get_or vs i 0) (order_at ∙ here) ∙ order_words k s tasks machines fits 0 (omega arith)

    counts : (count vs y y.at.order ≡ length tasks) × (count vs y y.at.assignment ≡ length machines)
    counts =
        counts_whole k (length tasks) (length machines) (count vs y y.at.order) y.at.assignment (count vs y y.at.assignment) order_word
        (m.assignment_at ∙ ap (λ (i : ℕ). i + 1 + count vs y y.at.order) order_at)
        (sym (renewed_long k s tasks machines fits) ∙ m.ends)
        (le_trans m.most_assignment m.some_activities.1)

    assignment_at : y.at.assignment ≡ k + 1 + length tasks
    assignment_at = m.assignment_at ∙ (λ i. order_at i + 1 + counts.0 i)

    module _ (low : Below (2 ^ 32) tasks) (known : Below (2 ^ 32 - 1) machines) where
      ordered : words_from vs (count vs y y.at.order) (y.at.order + 1) ≡ tasks
      unfolding low_words
      ordered =
          (λ i. words_from vs (counts.0 i) (order_at i + 1))
          ∙ words_are vs tasks (k + 1) (λ i h.
          let e : k + 1 + i ≡ k + suc i = omega arith in
          ap (λ (j : ℕ). get_or vs j 0) e
          ∙ order_words k s tasks machines fits (suc i) h
          ∙ ap (λ (xs : List ℕ). get_or xs i 0) (low_same tasks low))

      machine : (a : ℕ) → cell vs y.at.assignment 1 a 0 ≡ get_or machines a 0
      unfolding low_words
      machine a =
          let e : k + 1 + length tasks + 1 + 1 * a + 0 ≡ k + 1 + length tasks + suc a = omega arith in
          ap (λ (j : ℕ). get_or vs (j + 1 + 1 * a + 0) 0) assignment_at
          ∙ ap (λ (j : ℕ). get_or vs j 0) e
          ∙ assignment-words k s tasks machines fits (suc a)
          ∙ ap (λ (xs : List ℕ). get_or xs a 0) (low_same machines (words_of_machines machines known))

      assigned : (a : ℕ) → (genes_of vs y).assigned a ≡ (genes_written tasks machines).assigned a
      assigned a =
          (λ i. some_if (ltb a (counts.1 i) && ltb (machine a i) (2 ^ 32 - 1)) (machine a i))
          ∙ machine_is (ltb a (length machines)) (ltb (get_or machines a 0) (2 ^ 32 - 1)) (get_or machines a 0) (lt-ltb (get_or machines a 0) (2 ^ 32 - 1) (below_at (2 ^ 32 - 1) machines a (omega arith) known))

      pub genes_put : genes_of vs y ≡ genes_written tasks machines
      genes_put = λ i. record { order = ordered i; assigned = λ a. assigned a i }

-- Where a plan is taken in, and with another Order and Assignment, too: all that it then says of the problem is the same, and its genes are the
-- numbers that were put. A number from 2^32 on would lose its higher bits, and 2^32 - 1 is the word for no machine.
pub renewed_means : (s tasks machines : List ℕ) → (taken_in s).answer ≡ Taken → (taken_in (renewed_plan s tasks machines)).answer ≡ Taken → Below (2 ^ 32) tasks → Below (2 ^ 32 - 1) machines
    → Renewed s tasks machines
renewed_means s tasks machines read again low known =
    let z = layout_of (taken_in s) in
    let bytes = renewed_plan s tasks machines in
    let l = (taken_in_means s (taken_in s) refl read).laid in
    let m = (taken_in_means bytes (taken_in bytes) refl again).laid in
    record {
      taken = again;
      same = same s tasks machines z (layout_of (taken_in bytes)) l m;
      genes = genes_put s tasks machines z (layout_of (taken_in bytes)) l m low known;
    }
