-- Lines as a shop wants them: before and after are the same arcs, and both name activities. Assumes nothing.
use mathlib.Core.Path.{◌≡◌, refl, sym, ap, ◌∙◌}
use mathlib.Core.List.{List, [], ◌∷◌}
use Prim.Native.Nat.{ℕ, suc, ◌+◌, ◌-◌, ◌≤◌, ◌<◌}
use native.Mathlib.Omega.{arith}
use native.Mathlib.Numerals.{add-one}
use lib.ListN.{length, get_or, length-append}
use borrow.Author.Tests.{eq-eqb, ne_eqb, lt-ltb, le-ltb}
use Rattle.graph.specs.Counting.{count_of, Below}
use Rattle.graph.specs.Filing.{naming}
use Rattle.graph.specs.Links.{linked}
use Rattle.graph.proofs.CountingLaws.{count_of-append, hit-eq, hit-ne, hit-le, either, below_append}
use Rattle.graph.proofs.NamingLaws.{naming_below, naming_dual}
use Rattle.lines.specs.Lines.{Lines, standing, rest, befores, afters, first_of, line_pred, line_succ, holder, machine_of, place_on, position_of, WellFormed}
use Rattle.lines.specs.Linking.{AllBelow}

-- ---- how many stand before and after

arcs_dual : (lines : Lines) (p a : ℕ) → count_of a (afters lines p) ≡ count_of p (befores lines a)
unfolding afters befores count_of
arcs_dual [] p a = refl
arcs_dual (l ∷ lines) p a =
    omega
    (arith, count_of-append a (naming p (rest l) l) (afters lines p), count_of-append p (naming a l (rest l)) (befores lines a), naming_dual p a (rest l) l, arcs_dual lines p a)

pub naming_few : (a : ℕ) (bs ps : List ℕ) → length (naming a bs ps) ≤ count_of a ps
unfolding naming count_of
naming_few a [] ps = omega arith
naming_few a (b ∷ bs) [] = omega arith
naming_few a (b ∷ bs) (p ∷ ps) =
    let ih = naming_few a bs ps in
    either p a (λ e. rw (eq-eqb p a e) (omega (arith, hit-eq p a e))) (λ ne. rw (ne_eqb p a ne) (omega arith))

pub rest_few : (a : ℕ) (l : List ℕ) → count_of a (rest l) ≤ count_of a l
unfolding count_of
rest_few a [] = omega arith
rest_few a (x ∷ l) = omega arith

pub afters_few : (lines : Lines) (a : ℕ) → length (afters lines a) ≤ standing lines a
unfolding afters standing
afters_few [] a = omega arith
afters_few (l ∷ lines) a =
    omega (arith, length-append (naming a (rest l) l) (afters lines a), naming_few a (rest l) l, afters_few lines a)

pub befores_few : (lines : Lines) (a : ℕ) → length (befores lines a) ≤ standing lines a
unfolding befores standing
befores_few [] a = omega arith
befores_few (l ∷ lines) a =
    omega (arith, length-append (naming a l (rest l)) (befores lines a), naming_few a l (rest l), rest_few a l, befores_few lines a)

pub linked-first : (l : List ℕ) → length l ≤ 1 → linked (first_of l) ≡ l
linked-first [] h = refl
linked-first (x ∷ []) h = refl
linked-first (x ∷ y ∷ l) h = absurd (omega arith)

-- ---- all that stand are activities

below_from : (n : ℕ) (l : List ℕ) → ((a : ℕ) → 0 < count_of a l → a < n) → Below n l
unfolding Below count_of
below_from n [] h = tt
below_from n (x ∷ l) h = (h x (omega (arith, hit-eq x x refl)), below_from n l (λ a k. h a (omega arith)))

pub below_rest : (n : ℕ) (l : List ℕ) → Below n l → Below n (rest l)
unfolding Below
below_rest n [] h = tt
below_rest n (x ∷ l) h = h.1

pub all_below : (n : ℕ) (lines : Lines) → ((a : ℕ) → 0 < standing lines a → a < n) → AllBelow n lines
unfolding AllBelow standing
all_below n [] h = tt
all_below n (l ∷ lines) h = (below_from n l (λ a k. h a (omega arith)), all_below n lines (λ a k. h a (omega arith)))

pub befores_below : (n : ℕ) (lines : Lines) (a : ℕ) → AllBelow n lines → Below n (befores lines a)
unfolding AllBelow befores Below
befores_below n [] a h = tt
befores_below n (l ∷ lines) a h =
    below_append n (naming a l (rest l)) (befores lines a) (naming_below n a l (rest l) h.0) (befores_below n lines a h.1)

pub afters_below : (n : ℕ) (lines : Lines) (a : ℕ) → AllBelow n lines → Below n (afters lines a)
unfolding AllBelow afters Below
afters_below n [] a h = tt
afters_below n (l ∷ lines) a h =
    below_append n (naming a (rest l) l) (afters lines a) (naming_below n a (rest l) l (below_rest n l h.0)) (afters_below n lines a h.1)

first_below : (n : ℕ) (l : List ℕ) → Below n l → Below n (linked (first_of l))
unfolding Below
first_below n [] h = tt
first_below n (x ∷ l) h = (h.0, tt)

-- ---- where an activity stands

pub count_length : (a : ℕ) (l : List ℕ) → count_of a l ≤ length l
unfolding count_of
count_length a [] = omega arith
count_length a (x ∷ l) = omega (arith, hit-le x a, count_length a l)

holder_below : (lines : Lines) (m R a : ℕ) → 0 < standing lines a → ((i : ℕ) → R ≤ m + i → length (get_or lines i []) ≡ 0) → holder m lines a < R
unfolding holder standing
holder_below [] m R a h idle = absurd (omega arith)
holder_below (l ∷ lines) m R a h idle =
    either (count_of a l) 0
    (λ z. rw (le-ltb 0 (count_of a l) (omega arith)) (holder_below lines (m + 1) R a (omega arith) (λ i k. idle (suc i) (omega arith))))
    (λ nz.
    rw (lt-ltb 0 (count_of a l) (omega arith))
    (either (R - m) 0 (λ e. absurd (omega (arith, idle 0 (omega arith), count_length a l))) (λ ne. omega arith)))

-- where an activity stands on a line
pub placed_on : (l : List ℕ) (a : ℕ) → 0 < count_of a l → (place_on l a < length l) × (get_or l (place_on l a) 0 ≡ a)
unfolding place_on count_of
placed_on [] a h = absurd (omega arith)
placed_on (x ∷ l) a h =
    either x a (λ e. rw (eq-eqb x a e) (omega arith, e)) (λ ne. rw (ne_eqb x a ne) (further (placed_on l a (omega (arith, hit-ne x a ne)))))
  where
    further : (place_on l a < length l) × (get_or l (place_on l a) 0 ≡ a) → (place_on l a + 1 < suc (length l)) × (get_or (x ∷ l) (place_on l a + 1) 0 ≡ a)
    further r = (omega (arith, r.0), rw (add-one (place_on l a)) r.1)

stands_from : (lines : Lines) (m a : ℕ) → 0 < standing lines a
    → (position_of lines a < length (get_or lines (holder m lines a - m) [])) × (get_or (get_or lines (holder m lines a - m) []) (position_of lines a) 0 ≡ a) × (m ≤ holder m lines a)
unfolding holder standing position_of
stands_from [] m a h = absurd (omega arith)
stands_from (l ∷ lines) m a h =
    either (count_of a l) 0
    (λ z. rw (le-ltb 0 (count_of a l) (omega arith)) (further (stands_from lines (m + 1) a (omega arith))))
    (λ nz.
    let r = placed_on l a (omega arith) in
    let q : m - m ≡ 0 = omega arith in
    rw (lt-ltb 0 (count_of a l) (omega arith), q) (r.0, r.1, omega arith))
  where
    further : (position_of lines a < length (get_or lines (holder (m + 1) lines a - (m + 1)) [])) × (get_or (get_or lines (holder (m + 1) lines a - (m + 1)) []) (position_of lines a) 0 ≡ a) × (m + 1 ≤ holder (m + 1) lines a)
        → (position_of lines a < length (get_or (l ∷ lines) (holder (m + 1) lines a - m) [])) × (get_or (get_or (l ∷ lines) (holder (m + 1) lines a - m) []) (position_of lines a) 0 ≡ a) × (m ≤ holder (m + 1) lines a)
    further r =
        let q : holder (m + 1) lines a - m ≡ suc (holder (m + 1) lines a - (m + 1)) = omega (arith, r.2) in
        rw q (r.0, r.1, omega (arith, r.2))

-- ---- of well-formed lines, as a shop's fields ask for it

module _ {n R : ℕ} {lines : Lines} (w : WellFormed n R lines) where
  -- no activity stands twice, and no other number at all
  pub at_most_once : (a : ℕ) → standing lines a ≤ 1
  at_most_once a = either (standing lines a) 0 (λ e. omega arith) (λ ne. omega (arith, w.once a (w.known a (omega arith))))

  pub preds_one : (a : ℕ) → linked (line_pred lines a) ≡ befores lines a
  preds_one a = linked-first (befores lines a) (omega (arith, befores_few lines a, at_most_once a))

  pub succs_one : (a : ℕ) → linked (line_succ lines a) ≡ afters lines a
  succs_one a = linked-first (afters lines a) (omega (arith, afters_few lines a, at_most_once a))

  pub line_dual : (p a : ℕ) → count_of a (linked (line_succ lines p)) ≡ count_of p (linked (line_pred lines a))
  line_dual p a = ap (count_of a) (succs_one p) ∙ arcs_dual lines p a ∙ sym (ap (count_of p) (preds_one a))

  pub lines_below : AllBelow n lines
  lines_below = all_below n lines w.known

  pub pred_below : (a : ℕ) → Below n (linked (line_pred lines a))
  pred_below a = first_below n (befores lines a) (befores_below n lines a lines_below)

  pub succ_below : (a : ℕ) → Below n (linked (line_succ lines a))
  succ_below a = first_below n (afters lines a) (afters_below n lines a lines_below)

  -- its machine is one of R, and there it stands at its place
  pub machine_below : (a : ℕ) → a < n → machine_of lines a < R
  machine_below a h = holder_below lines 0 R a (omega (arith, w.once a h)) (λ i k. w.idle i (omega arith))

  pub stands_at : (a : ℕ) → a < n
      → (position_of lines a < length (get_or lines (machine_of lines a) [])) × (get_or (get_or lines (machine_of lines a) []) (position_of lines a) 0 ≡ a)
  stands_at a h =
      let r = stands_from lines 0 a (omega (arith, w.once a h)) in
      let q : holder 0 lines a - 0 ≡ holder 0 lines a = omega arith in
      (rw q at r.0, rw q at r.1)
