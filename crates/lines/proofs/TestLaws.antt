-- Number 7's test says exactly what well-formed lines are. Assumes nothing.
use mathlib.Core.Path.{◌≡◌, refl, sym, ap, ◌∙◌}
use mathlib.Core.Bool.{Bool, true, false, ◌&&◌}
use mathlib.Core.List.{List, [], ◌∷◌}
use mathlib.Core.Logic.{◌↔◌}
use Prim.Native.Nat.{ℕ, zero, suc, ◌+◌, ◌-◌, ◌<◌}
use native.Mathlib.Nat.{zero-add}
use native.Mathlib.Omega.{arith}
use lib.ListN.{length, get_or, drop}
use lib.Seq.{get_or-drop}
use lib.Dec.{eqb, ltb}
use borrow.Author.Tests.{ltb-true, eqb-true, lt-ltb, eq-eqb}
use Rattle.std.specs.List.{list_all}
use Rattle.graph.specs.Counting.{count_of, Below}
use Rattle.graph.proofs.CountingLaws.{either, below_of}
use Rattle.lines.specs.Lines.{Lines, standing, all, lengths, all_known, standings, all_short, all_zero, all_fit, well_formed, WellFormed}
use Rattle.lines.specs.Linking.{AllBelow}
use Rattle.lines.proofs.LineLaws.{all_below}

-- ---- one test for all of a list

pub both_true : (s t : Bool) → (s && t) ≡ true → (s ≡ true) × (t ≡ true)
both_true true t e = (refl, e)
both_true false t e = absurd (never e)
  where
    never : false ≡ true → ⊥
    never e = let z : ◌≡◌ {A = ℕ} 0 1 = cc in omega arith

pub both : (s t : Bool) → s ≡ true → t ≡ true → (s && t) ≡ true
both s t p q = rw (p, q)

-- the same as std's word for it
pub all_listed : (test : ℕ → Bool) (l : List ℕ) → list_all test l ≡ all test l
unfolding all
all_listed test [] = refl
all_listed test (x ∷ l) = ap (λ t. test x && t) (all_listed test l)

module _ (test : ℕ → Bool) where
  pub all_at : (l : List ℕ) → all test l ≡ true → (i : ℕ) → i < length l → test (get_or l i 0) ≡ true
  unfolding all
  all_at [] e i h = absurd (omega arith)
  all_at (x ∷ l) e zero h = (both_true (test x) (all test l) e).0
  all_at (x ∷ l) e (suc i) h = all_at l (both_true (test x) (all test l) e).1 i (omega arith)

  pub all_from : (l : List ℕ) → ((i : ℕ) → i < length l → test (get_or l i 0) ≡ true) → all test l ≡ true
  unfolding all
  all_from [] h = refl
  all_from (x ∷ l) h = both (test x) (all test l) (h 0 (omega arith)) (all_from l (λ i k. h (suc i) (omega arith)))

-- ---- the test and the statement

pub length_at_lem : (lines : Lines) (m : ℕ) → get_or (lengths lines) m 0 ≡ length (get_or lines m [])
length_at_lem [] m = refl
length_at_lem (l ∷ lines) zero = refl
length_at_lem (l ∷ lines) (suc m) = length_at_lem lines m

pub known_below : (n : ℕ) (l : List ℕ) → all (λ a. ltb a n) l ≡ true → Below n l
unfolding all Below
known_below n [] e = tt
known_below n (x ∷ l) e =
    let q = both_true (ltb x n) (all (λ a. ltb a n) l) e in (ltb-true x n q.0, known_below n l q.1)

below_known : (n : ℕ) (l : List ℕ) → Below n l → all (λ a. ltb a n) l ≡ true
unfolding all Below
below_known n [] h = refl
below_known n (x ∷ l) h = both (ltb x n) (all (λ a. ltb a n) l) (lt-ltb x n h.0) (below_known n l h.1)

pub all_known_below : (n : ℕ) (lines : Lines) → all_known n lines ≡ true → AllBelow n lines
unfolding all_known AllBelow
all_known_below n [] e = tt
all_known_below n (l ∷ lines) e =
    let q = both_true (all (λ a. ltb a n) l) (all_known n lines) e in (known_below n l q.0, all_known_below n lines q.1)

below_all_known : (n : ℕ) (lines : Lines) → AllBelow n lines → all_known n lines ≡ true
unfolding all_known AllBelow
below_all_known n [] h = refl
below_all_known n (l ∷ lines) h = both (all (λ a. ltb a n) l) (all_known n lines) (below_known n l h.0) (below_all_known n lines h.1)

pub below_standing : (n : ℕ) (lines : Lines) → AllBelow n lines → (a : ℕ) → 0 < standing lines a → a < n
unfolding standing AllBelow
below_standing n [] h a k = absurd (omega arith)
below_standing n (l ∷ lines) h a k =
    either (count_of a l) 0 (λ e. below_standing n lines h.1 a (omega arith)) (λ ne. below_of n a l h.0 (omega arith))

standings-length : (lines : Lines) (a n : ℕ) → length (standings lines a n) ≡ n
unfolding standings
standings-length lines a zero = refl
standings-length lines a (suc n) = ap suc (standings-length lines (a + 1) n)

standings_at : (lines : Lines) (a n i : ℕ) → i < n → get_or (standings lines a n) i 0 ≡ standing lines (a + i)
unfolding standings
standings_at lines a zero i h = absurd (omega arith)
standings_at lines a (suc n) zero h = let e : a ≡ a + 0 = omega arith in ap (standing lines) e
standings_at lines a (suc n) (suc i) h =
    let e : a + 1 + i ≡ a + suc i = omega arith in standings_at lines (a + 1) n i (omega arith) ∙ ap (standing lines) e

-- past the end a list has zeros
pub all_every : (test : ℕ → Bool) (l : List ℕ) → all test l ≡ true → test 0 ≡ true → (i : ℕ) → test (get_or l i 0) ≡ true
unfolding all
all_every test [] e z i = z
all_every test (x ∷ l) e z zero = (both_true (test x) (all test l) e).0
all_every test (x ∷ l) e z (suc i) = all_every test l (both_true (test x) (all test l) e).1 z i

module _ (n R : ℕ) (lines : Lines) where
  pub test_sound : well_formed n R lines ≡ true → WellFormed n R lines
  unfolding well_formed
  test_sound e =
      let p = both_true (all_fit R (lengths lines)) _ e in
      let q = both_true (all_short (lengths lines)) _ p.0 in
      let s = both_true (all_known n lines) _ p.1 in
      record {
        once =
            λ a h.
            let k = standings_at lines 0 n a h in
            sym (rw zero-add at k) ∙ eqb-true _ 1 (all_at (λ k. eqb k 1) (standings lines 0 n) s.1 a (omega (arith, standings-length lines 0 n)));
        known = below_standing n lines (all_known_below n lines s.0);
        short = λ m. omega (arith, length_at_lem lines m, ltb-true (get_or (lengths lines) m 0) 129 (all_every (λ k. ltb k 129) (lengths lines) q.0 refl m));
        idle =
            λ m h.
            let e : R + (m - R) ≡ m = omega arith in
            sym (length_at_lem lines m)
            ∙ sym (rw (e) at (get_or-drop R (lengths lines) (m - R) 0))
            ∙ eqb-true _ 0 (all_every (λ k. eqb k 0) (drop R (lengths lines)) q.1 refl (m - R));
      }

  pub test_complete : WellFormed n R lines → well_formed n R lines ≡ true
  unfolding well_formed
  test_complete w =
      both (all_fit R (lengths lines)) _
      (both (all_short (lengths lines)) (all_zero (drop R (lengths lines)))
      (all_from (λ k. ltb k 129) (lengths lines) (λ m h. lt-ltb (get_or (lengths lines) m 0) 129 (omega (arith, length_at_lem lines m, w.short m))))
      (all_from (λ k. eqb k 0) (drop R (lengths lines)) (λ m h. eq-eqb (get_or (drop R (lengths lines)) m 0) 0 (get_or-drop R (lengths lines) m 0 ∙ length_at_lem lines (R + m) ∙ w.idle (R + m) (omega arith)))))
      (both (all_known n lines) _ (below_all_known n lines (all_below n lines w.known))
      (all_from (λ k. eqb k 1) (standings lines 0 n)
      (λ a h.
      let k : a < n = omega (arith, standings-length lines 0 n) in
      eq-eqb (get_or (standings lines 0 n) a 0) 1 (standings_at lines 0 n a k ∙ rw zero-add (w.once a k)))))

  -- number 7's test says exactly that the lines can be timed
  pub test_means : (well_formed n R lines ≡ true) ↔ WellFormed n R lines
  test_means = (test_sound, test_complete)
