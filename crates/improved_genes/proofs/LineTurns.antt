-- An order in which each activity comes after the one before it on its line gives the lines back, dealt to their machines. Assumes nothing.
use Prim.Native.Nat.{ℕ, zero, suc, ◌+◌, ◌-◌, ◌≤◌, ◌<◌}
use mathlib.Core.Path.{◌≡◌, refl, sym, ap, ap₂, ◌∙◌, subst}
use mathlib.Core.Bool.{Bool, true, false}
use mathlib.Core.List.{List, [], ◌∷◌}
use native.Mathlib.Omega.{arith}
use borrow.Author.Tests.{lt-ltb, le-ltb, eq-eqb, ne_eqb}
use lib.Dec.{eqb}
use lib.ListN.{length, get_or, drop, drop_of_length-le}
use lib.Seq.{drop-cons, ext_get_or}
use Rattle.graph.specs.Counting.{count_of, hit}
use Rattle.graph.specs.Filing.{cons_if, naming}
use Rattle.graph.specs.Links.{linked}
use Rattle.graph.specs.Order.{InTurn}
use Rattle.graph.proofs.CountingLaws.{either, hit-eq, hit-ne, count_of-append}
use Rattle.lines.specs.Lines.{Lines, rest, befores, line_pred, holder, standing, machine_of, position_of, WellFormed}
use Rattle.lines.specs.Dealing.{lines_of, on_machine}
use Rattle.lines.proofs.LineLaws.{at_most_once, preds_one, stands_at}
use Rattle.lines.proofs.DealLaws.{line_of_lem}
use Rattle.moves.specs.Moves.{line_of}
use Rattle.moves.proofs.StandingLaws.{count_standing}
use Rattle.improved_genes.proofs.DealtLaws.{lines_many}

-- ---- one line

count_at : (l : List ℕ) (i : ℕ) → i < length l → 0 < count_of (get_or l i 0) l
unfolding count_of
count_at [] i h = absurd (omega arith)
count_at (x ∷ l) zero h = omega (arith, hit-eq x x refl)
count_at (x ∷ l) (suc i) h = omega (arith, count_at l i (omega arith))

twice : (l : List ℕ) (j i : ℕ) → j < i → i < length l → get_or l j 0 ≡ get_or l i 0 → 2 ≤ count_of (get_or l i 0) l
unfolding count_of
twice [] j i h k e = absurd (omega arith)
twice (x ∷ l) j zero h k e = absurd (omega arith)
twice (x ∷ l) zero (suc i) h k e = omega (arith, hit-eq x (get_or l i 0) e, count_at l i (omega arith))
twice (x ∷ l) (suc j) (suc i) h k e = omega (arith, twice l j i (omega arith) (omega arith) e)

cons_if_more : (t : Bool) (x b : ℕ) (l : List ℕ) → count_of b l ≤ count_of b (cons_if t x l)
unfolding count_of
cons_if_more true x b l = omega arith
cons_if_more false x b l = omega arith

next_names : (l : List ℕ) (i : ℕ) → suc i < length l → 0 < count_of (get_or l i 0) (naming (get_or l (suc i) 0) l (rest l))
unfolding naming count_of
next_names [] i h = absurd (omega arith)
next_names (x ∷ []) i h = absurd (omega arith)
next_names (x ∷ y ∷ l) zero h = rw (eq-eqb y y refl) (omega (arith, hit-eq x x refl))
next_names (x ∷ y ∷ l) (suc i) h =
    let a = get_or (y ∷ l) (suc i) 0 in
    let b = get_or (y ∷ l) i 0 in
    omega (arith, next_names (y ∷ l) i (omega arith), cons_if_more (eqb y a) x b (naming a (y ∷ l) l))

line_befores : (lines : Lines) (m a b : ℕ) → count_of b (naming a (line_of lines m) (rest (line_of lines m))) ≤ count_of b (befores lines a)
unfolding befores naming count_of
line_befores [] m a b = omega arith
line_befores (l ∷ lines) zero a b = omega (arith, count_of-append b (naming a l (rest l)) (befores lines a))
line_befores (l ∷ lines) (suc m) a b = omega (arith, count_of-append b (naming a l (rest l)) (befores lines a), line_befores lines m a b)

-- ---- along an order

module _ (n : ℕ) (R : ℕ → ℕ → Type 0) (on : ℕ → ℕ) (m : ℕ) (line : List ℕ) (neighbours : (i : ℕ) → suc i < length line → R (get_or line i 0) (get_or line (suc i) 0))
    (own : (i : ℕ) → i < length line → on (get_or line i 0) ≡ m) (place : (a : ℕ) → a < n → on a ≡ m → (i : ℕ) × (i < length line) × (get_or line i 0 ≡ a))
    (apart : (i j : ℕ) → i < length line → j < length line → get_or line i 0 ≡ get_or line j 0 → i ≡ j) where
  -- the first k of the line were taken, the others were not
  record Passed (d : List ℕ) (k : ℕ) : Type 0 where
    within : k ≤ length line
    done : (i : ℕ) → i < k → 0 < count_of (get_or line i 0) d
    left : (i : ℕ) → k ≤ i → i < length line → count_of (get_or line i 0) d ≡ 0

  module _ {d : List ℕ} {k a : ℕ} (w : Passed d k) (here : a < n) (new : count_of a d ≡ 0) (waits : (q : ℕ) → R q a → 0 < count_of q d) where
    -- whoever is of the line is the first of those left
    its_turn : on a ≡ m → (k < length line) × (get_or line k 0 ≡ a)
    its_turn e =
        let s = place a here e in
        let i = s.0 in
        let late : k ≤ i = either (k - i) 0 (λ z. omega (arith, z)) (λ nz. absurd (omega (arith, w.done i (omega (arith, nz)), ap (λ (x : ℕ). count_of x d) s.2, new))) in
        let same : i ≡ k =
        either i k (λ q. q)
        (λ ne.
        let j = i - 1 in
        let up : suc j ≡ i = omega (arith, late, ne) in
        let r : R (get_or line j 0) a = subst (R (get_or line j 0)) (ap (λ (x : ℕ). get_or line x 0) up ∙ s.2) (neighbours j (omega (arith, up, s.1))) in
        absurd (omega (arith, waits (get_or line j 0) r, w.left j (omega (arith, up, late, ne)) (omega (arith, up, s.1))))) in
        (omega (arith, same, s.1), ap (λ (x : ℕ). get_or line x 0) (sym same) ∙ s.2)

    passed_own : get_or line k 0 ≡ a → k < length line → Passed (a ∷ d) (suc k)
    unfolding count_of
    passed_own e h =
        record {
          within = omega (arith, h);
          done = λ i l. either i k (λ q. omega (arith, hit-eq a (get_or line i 0) (sym e ∙ ap (λ (x : ℕ). get_or line x 0) (sym q)))) (λ ne. omega (arith, w.done i (omega (arith, l, ne))));
          left = λ i l j. omega (arith, w.left i (omega (arith, l)) j, hit-ne a (get_or line i 0) (λ q. absurd (omega (arith, l, apart k i h j (e ∙ q)))));
        }

    passed_other : (on a ≡ m → ⊥) → Passed (a ∷ d) k
    unfolding count_of
    passed_other ne =
        record {
          within = w.within;
          done = λ i l. omega (arith, w.done i l);
          left = λ i l j. omega (arith, w.left i l j, hit-ne a (get_or line i 0) (λ q. ne (ap on q ∙ own i j)));
        }

  line_back : (d o : List ℕ) (k : ℕ) → Passed d k → InTurn n R d o → ((i : ℕ) → i < length line → 0 < count_of (get_or line i 0) d + count_of (get_or line i 0) o)
      → on_machine on m o ≡ drop k line
  unfolding on_machine InTurn count_of
  line_back d [] k w turns all =
      let full : length line ≤ k = either (length line - k) 0 (λ z. omega (arith, z)) (λ nz. absurd (omega (arith, all k (omega (arith, nz)), w.left k (omega arith) (omega (arith, nz))))) in
      sym (drop_of_length-le line full)
  line_back d (a ∷ o) k w turns all =
      let more : (i : ℕ) → i < length line → 0 < hit a (get_or line i 0) + count_of (get_or line i 0) d + count_of (get_or line i 0) o = λ i l. omega (arith, all i l) in
      either (on a) m
      (λ e.
      let t = its_turn w turns.0 turns.1 turns.2 e in
      rw (eq-eqb (on a) m e)
      (ap₂ (λ (x : ℕ) (l : List ℕ). x ∷ l) (sym t.1) (line_back (a ∷ d) o (suc k) (passed_own w turns.0 turns.1 turns.2 t.1 t.0) turns.3 more)
      ∙ sym (drop-cons line k 0 t.0)))
      (λ ne. rw (ne_eqb (on a) m ne) (line_back (a ∷ d) o k (passed_other w turns.0 turns.1 turns.2 ne) turns.3 more))

-- ---- all lines

holder_at : (lines : Lines) (m x b : ℕ) → standing lines b ≤ 1 → 0 < count_of b (line_of lines x) → holder m lines b ≡ m + x
unfolding holder standing count_of
holder_at [] m x b s h = absurd (omega arith)
holder_at (l ∷ lines) m zero b s h = rw (lt-ltb 0 (count_of b l) h) (omega arith)
holder_at (l ∷ lines) m (suc x) b s h =
    let k = count_standing lines x b in
    rw (le-ltb 0 (count_of b l) (omega arith)) (omega (arith, holder_at lines (m + 1) x b (omega arith) h))

module _ {n M : ℕ} {lines : Lines} (w : WellFormed n M lines) (sixteen : length lines ≡ 16) where
  -- the one before on a line is the line predecessor
  pub neighbour : (m i : ℕ) → suc i < length (line_of lines m) → 0 < count_of (get_or (line_of lines m) i 0) (linked (line_pred lines (get_or (line_of lines m) (suc i) 0)))
  neighbour m i h =
      let a = get_or (line_of lines m) (suc i) 0 in
      let b = get_or (line_of lines m) i 0 in
      omega (arith, next_names (line_of lines m) i h, line_befores lines m a b, ap (count_of b) (preds_one w a))

  pub stands_there : (m i : ℕ) → i < length (line_of lines m) → 0 < standing lines (get_or (line_of lines m) i 0)
  stands_there m i h = omega (arith, count_at (line_of lines m) i h, count_standing lines m (get_or (line_of lines m) i 0))

  pub on_own : (m i : ℕ) → i < length (line_of lines m) → machine_of lines (get_or (line_of lines m) i 0) ≡ m
  on_own m i h =
      let b = get_or (line_of lines m) i 0 in
      omega (arith, holder_at lines 0 m b (at_most_once w b) (count_at (line_of lines m) i h))

  place_of : (m a : ℕ) → a < n → machine_of lines a ≡ m → (i : ℕ) × (i < length (line_of lines m)) × (get_or (line_of lines m) i 0 ≡ a)
  place_of m a h e = subst (λ (x : ℕ). (i : ℕ) × (i < length (line_of lines x)) × (get_or (line_of lines x) i 0 ≡ a)) e (position_of lines a, (stands_at w a h).0, (stands_at w a h).1)

  apart_on : (m i j : ℕ) → i < length (line_of lines m) → j < length (line_of lines m) → get_or (line_of lines m) i 0 ≡ get_or (line_of lines m) j 0 → i ≡ j
  apart_on m i j h k e =
      let l = line_of lines m in
      let few : (b : ℕ) → count_of b l ≤ 1 = λ b. omega (arith, count_standing lines m b, at_most_once w b) in
      either (i - j) 0
      (λ z. either (j - i) 0 (λ y. omega (arith, z, y)) (λ ny. absurd (omega (arith, few (get_or l j 0), twice l i j (omega (arith, ny)) k e))))
      (λ nz. absurd (omega (arith, few (get_or l i 0), twice l j i (omega (arith, nz)) h (sym e))))

  pub lines-back : (R : ℕ → ℕ → Type 0) → ((q a : ℕ) → a < n → 0 < count_of q (linked (line_pred lines a)) → R q a) → (order : List ℕ) → InTurn n R [] order
      → ((a : ℕ) → a < n → 0 < count_of a order) → lines_of (machine_of lines) order ≡ lines
  unfolding count_of
  lines-back R arc order turns all =
      ext_get_or [] (lines_of (machine_of lines) order) lines (lines_many (machine_of lines) order ∙ sym sixteen)
      (λ m h.
      let l = line_of lines m in
      let known : (i : ℕ) → i < length l → get_or l i 0 < n = λ i k. w.known (get_or l i 0) (stands_there m i k) in
      line_of_lem (machine_of lines) order m (omega (arith, h, lines_many (machine_of lines) order))
      ∙ line_back n R (machine_of lines) m l (λ i k. arc (get_or l i 0) (get_or l (suc i) 0) (known (suc i) k) (neighbour m i k)) (on_own m) (place_of m) (apart_on m) [] order 0
      (record { within = omega arith; done = λ i k. absurd (omega arith); left = λ i k j. refl }) turns
      (λ i k. omega (arith, all (get_or l i 0) (known i k))))
