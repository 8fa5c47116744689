-- The loops that write lines into arrays: what is left writes from here what all of it writes from the start. Assumes nothing.
use mathlib.Core.Path.{◌≡◌, refl, sym, ap, ◌∙◌, subst}
use mathlib.Core.List.{List, [], ◌∷◌}
use Prim.Native.Nat.{ℕ, ◌+◌, ◌*◌, ◌-◌, ◌≤◌, ◌<◌}
use native.Mathlib.Numerals.{add-one}
use native.Mathlib.Omega.{arith}
use lib.ListN.{length, get_or, set, drop, replicate, length-set, length-replicate, get_or-replicate, drop_of_length-le}
use lib.Seq.{drop-cons}
use Rattle.graph.specs.Counting.{Below}
use Rattle.graph.proofs.CountingLaws.{below_more}
use Rattle.lines.specs.Lines.{Lines, cells_from, lines_in, rest, Fit, WellFormed}
use Rattle.lines.specs.Linking.{Links, links_of, written, marked, numbered, line_linked, lines_linked, Roomy, AllBelow, LinesHeld}
use Rattle.lines.proofs.StretchLaws.{lines_left, left_next, left_none, lengths_in}
use Rattle.lines.proofs.TestLaws.{length_at_lem}
use Rattle.lines.proofs.LinkLaws.{written-length, marked-length, numbered-length, lines_held}

next : (l : List ℕ) (i : ℕ) → i < length l → drop i l ≡ get_or l i 0 ∷ drop (i + 1) l
next l i h = drop-cons l i 0 h ∙ ap (λ (k : ℕ). get_or l i 0 ∷ drop k l) (sym (add-one i))

-- ---- `link_pairs`: the pairs whose second stands at i or later are left

pub record Pairing (line b₀ a₀ b a : List ℕ) (i : ℕ) : Type 0 where
  pub sized_before : length b ≡ length b₀
  pub sized_after : length a ≡ length a₀
  pub before : written (drop i line) (drop (i - 1) line) b ≡ written (rest line) line b₀
  pub after : written (drop (i - 1) line) (drop i line) a ≡ written line (rest line) a₀

rest-drop : (l : List ℕ) → drop 1 l ≡ rest l
rest-drop [] = refl
rest-drop (x ∷ l) = refl

written_none : (ks c : List ℕ) → written ks [] c ≡ c
unfolding written
written_none [] c = refl
written_none (k ∷ ks) c = refl

pub pair_begin : (line b a : List ℕ) → Pairing line b a b a 1
pair_begin line b a =
    record {
      sized_before = refl;
      sized_after = refl;
      before = ap (λ (l : List ℕ). written l line b) (rest-drop line);
      after = ap (λ (l : List ℕ). written line l a) (rest-drop line);
    }

module _ {line b₀ a₀ b a : List ℕ} {i : ℕ} (w : Pairing line b₀ a₀ b a i) where
  pub pair_again : 1 ≤ i → i < length line → Pairing line b₀ a₀ (set b (get_or line i 0) (get_or line (i - 1) 0)) (set a (get_or line (i - 1) 0) (get_or line i 0)) (i + 1)
  unfolding written
  pair_again h k =
      let x = get_or line (i - 1) 0 in
      let y = get_or line i 0 in
      let e : i - 1 + 1 ≡ i = omega arith in
      let back : i + 1 - 1 ≡ i = omega arith in
      let p = next line (i - 1) (omega arith) ∙ ap (λ (j : ℕ). x ∷ drop j line) e in
      let q = next line i k in
      record {
        sized_before = length-set b y x ∙ w.sized_before;
        sized_after = length-set a x y ∙ w.sized_after;
        before =
            ap (λ (j : ℕ). written (drop (i + 1) line) (drop j line) (set b y x)) back
            ∙ sym (ap (λ (l : List ℕ). written l (drop (i - 1) line) b) q ∙ ap (λ (l : List ℕ). written (y ∷ drop (i + 1) line) l b) p)
            ∙ w.before;
        after =
            ap (λ (j : ℕ). written (drop j line) (drop (i + 1) line) (set a x y)) back
            ∙ sym (ap (λ (l : List ℕ). written l (drop i line) a) p ∙ ap (λ (l : List ℕ). written (x ∷ drop i line) l a) q)
            ∙ w.after;
      }

  pub pair_end : length line ≤ i → (b ≡ written (rest line) line b₀) × (a ≡ written line (rest line) a₀)
  unfolding written
  pair_end h =
      let e : drop i line ≡ [] = drop_of_length-le line h in (
        sym (ap (λ (l : List ℕ). written l (drop (i - 1) line) b) e) ∙ w.before,
        sym (ap (λ (l : List ℕ). written (drop (i - 1) line) l a) e ∙ written_none (drop (i - 1) line) a) ∙ w.after,
      )

-- ---- `place_line`: the places from i on are left

pub record Placing (line : List ℕ) (machine : ℕ) (m₀ p₀ m p : List ℕ) (i : ℕ) : Type 0 where
  pub within : i ≤ length line
  pub sized_machines : length m ≡ length m₀
  pub sized_places : length p ≡ length p₀
  pub machines : marked (drop i line) machine m ≡ marked line machine m₀
  pub places : numbered (drop i line) i p ≡ numbered line 0 p₀

pub place_begin : (line : List ℕ) (machine : ℕ) (m p : List ℕ) → Placing line machine m p m p 0
place_begin line machine m p = record { within = omega arith; sized_machines = refl; sized_places = refl; machines = refl; places = refl }

module _ {line : List ℕ} {machine : ℕ} {m₀ p₀ m p : List ℕ} {i : ℕ} (w : Placing line machine m₀ p₀ m p i) where
  pub place_again : i < length line → Placing line machine m₀ p₀ (set m (get_or line i 0) machine) (set p (get_or line i 0) i) (i + 1)
  unfolding marked numbered
  place_again h =
      let q = next line i h in
      record {
        within = omega arith;
        sized_machines = length-set m (get_or line i 0) machine ∙ w.sized_machines;
        sized_places = length-set p (get_or line i 0) i ∙ w.sized_places;
        machines = sym (ap (λ (l : List ℕ). marked l machine m) q) ∙ w.machines;
        places = sym (ap (λ (l : List ℕ). numbered l i p) q) ∙ w.places;
      }

  pub place_end : length line ≤ i → (m ≡ marked line machine m₀) × (p ≡ numbered line 0 p₀)
  unfolding marked numbered
  place_end h =
      let e : drop i line ≡ [] = drop_of_length-le line h in
      (sym (ap (λ (l : List ℕ). marked l machine m) e) ∙ w.machines, sym (ap (λ (l : List ℕ). numbered l i p) e) ∙ w.places)

pub links_same : (b a m p b' a' m' p' : List ℕ) → b ≡ b' → a ≡ a' → m ≡ m' → p ≡ p' → links_of b a m p ≡ links_of b' a' m' p'
links_same b a m p b' a' m' p' eb ea em ep = rw (eb, ea, em, ep)

-- ---- `link_each`: the lines from machine m on are left

pub record Linking (n : ℕ) (cells lens : List ℕ) (k₀ k : Links) (m : ℕ) : Type 0 where
  pub within : m ≤ 16
  pub below : AllBelow n (lines_left cells lens m)
  pub sized_before : length k.before ≡ length k₀.before
  pub sized_after : length k.after ≡ length k₀.after
  pub sized_machines : length k.machines ≡ length k₀.machines
  pub sized_places : length k.places ≡ length k₀.places
  pub rest : lines_linked m (lines_left cells lens m) k ≡ lines_linked 0 (lines_in cells lens) k₀

pub link_begin : (n : ℕ) (cells lens : List ℕ) (k : Links) → AllBelow n (lines_in cells lens) → Linking n cells lens k k 0
link_begin n cells lens k h =
    record {
      within = omega arith;
      below = h;
      sized_before = refl;
      sized_after = refl;
      sized_machines = refl;
      sized_places = refl;
      rest = refl;
    }

module _ {n : ℕ} {cells lens : List ℕ} {k₀ k : Links} {m : ℕ} (w : Linking n cells lens k₀ k m) (sixteen : length lens ≡ 16) where
  pub link_end : 16 ≤ m → k ≡ lines_linked 0 (lines_in cells lens) k₀
  unfolding lines_linked
  link_end h =
      sym (ap (λ (l : Lines). lines_linked m l k) (left_none cells lens m (omega (arith, w.within)))) ∙ w.rest

  module _ (h : m < 16) {line : List ℕ} (on : line ≡ cells_from cells (128 * m) (get_or lens m 0)) where
    line_next : lines_left cells lens m ≡ line ∷ lines_left cells lens (m + 1)
    line_next = left_next cells lens m (omega arith) ∙ rw on

    split : Below n line × AllBelow n (lines_left cells lens (m + 1))
    unfolding AllBelow
    split = subst (AllBelow n) line_next w.below

    -- what `link_line` asks
    pub link_asks : Roomy n k₀
        → Below (length k.before) line × Below (length k.after) line × Below (length k.machines) line × Below (length k.places) line
    link_asks r = (
      below_more n (length k.before) line (omega (arith, r.before, w.sized_before)) split.0,
      below_more n (length k.after) line (omega (arith, r.after, w.sized_after)) split.0,
      below_more n (length k.machines) line (omega (arith, r.machines, w.sized_machines)) split.0,
      below_more n (length k.places) line (omega (arith, r.places, w.sized_places)) split.0,
    )

    pub link_again : {k' : Links} → k' ≡ line_linked m line k → Linking n cells lens k₀ k' (m + 1)
    unfolding lines_linked
    link_again {k'} e =
        record {
          within = omega arith;
          below = split.1;
          sized_before = ap (λ (x : Links). length x.before) e ∙ written-length (rest line) line k.before ∙ w.sized_before;
          sized_after = ap (λ (x : Links). length x.after) e ∙ written-length line (rest line) k.after ∙ w.sized_after;
          sized_machines = ap (λ (x : Links). length x.machines) e ∙ marked-length line m k.machines ∙ w.sized_machines;
          sized_places = ap (λ (x : Links). length x.places) e ∙ numbered-length line 0 k.places ∙ w.sized_places;
          rest =
              ap (lines_linked (m + 1) (lines_left cells lens (m + 1))) e
              ∙ sym (ap (λ (l : Lines). lines_linked m l k) line_next)
              ∙ w.rest;
        }

-- ---- `link_lines`: first none stands before or after any

pub fit_well : {n R : ℕ} (cells lens : List ℕ) → WellFormed n R (lines_in cells lens) → Fit lens
fit_well cells lens w m =
    omega (arith, w.short m, length_at_lem (lines_in cells lens) m, ap (λ (l : List ℕ). get_or l m 0) (lengths_in cells 0 lens))

-- of machines that there are not, fewer are asked to be idle
pub more_machines : {n R : ℕ} {lines : Lines} (S : ℕ) → R ≤ S → WellFormed n R lines → WellFormed n S lines
more_machines S h w = record { once = w.once; known = w.known; short = w.short; idle = λ m k. w.idle m (omega arith) }

module _ {n : ℕ} {k : Links} (r : Roomy n k) {b a : List ℕ} (eb : b ≡ replicate (length k.before) n) (ea : a ≡ replicate (length k.after) n) where
  pub filled_roomy : Roomy n (links_of b a k.machines k.places)
  filled_roomy =
      record {
        before = omega (arith, r.before, ap length eb, length-replicate {A = ℕ} (length k.before) n);
        after = omega (arith, r.after, ap length ea, length-replicate {A = ℕ} (length k.after) n);
        machines = r.machines;
        places = r.places;
      }

  pub filled_held : {R : ℕ} {lines : Lines} → WellFormed n R lines → {k' : Links} → k' ≡ lines_linked 0 lines (links_of b a k.machines k.places) → LinesHeld n lines k'
  filled_held {R} {lines} w e =
      subst (LinesHeld n lines) (sym e)
      (lines_held n R lines (links_of b a k.machines k.places) w filled_roomy
      (λ x h. ap (λ (l : List ℕ). get_or l x 0) eb ∙ get_or-replicate (length k.before) x n 0 (omega (arith, r.before)))
      (λ x h. ap (λ (l : List ℕ). get_or l x 0) ea ∙ get_or-replicate (length k.after) x n 0 (omega (arith, r.after))))
