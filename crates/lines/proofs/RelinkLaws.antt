-- A line that is linked again: the arrays then hold it, and hold every other line as they did. Assumes nothing.
use mathlib.Core.Path.{◌≡◌, refl, sym, ap, ◌∙◌, subst}
use mathlib.Core.List.{List, [], ◌∷◌, ◌++◌, append-nil}
use Prim.Native.Nat.{ℕ, zero, suc, ◌+◌, ◌≤◌, ◌<◌}
use native.Mathlib.Omega.{arith}
use native.Mathlib.Numerals.{add-one}
use lib.ListN.{length, get_or, set, take, drop, length-set, drop_of_length-le}
use lib.Seq.{drop-cons, get_or-take, length-take-le}
use borrow.Author.Tests.{eq-eqb, ne_eqb, lt-ltb, le-ltb}
use Rattle.graph.specs.Counting.{count_of, Below}
use Rattle.graph.specs.Filing.{naming}
use Rattle.graph.specs.Links.{link_of}
use Rattle.graph.proofs.CountingLaws.{either, hit-eq, hit-ne, below_of, below_more}
use Rattle.graph.proofs.NamingLaws.{naming_below}
use Rattle.lines.specs.Lines.{Lines, standing, rest, befores, afters, first_of, holder, place_on, position_of, WellFormed}
use Rattle.lines.specs.Linking.{Links, links_of, written, marked, numbered, line_relinked, Roomy, AllBelow, LinesHeld}
use Rattle.lines.proofs.LineLaws.{naming_few, rest_few, befores_few, afters_few, below_rest, lines_below, at_most_once}
use Rattle.lines.proofs.LinkLaws.{last_or, written_at, written-length, marked-length, marked_in, marked_out, numbered-length, numbered_in, numbered_out, link_first}

-- ---- one line is held

-- the arrays hold what is to be known of one activity of machine m's line
pub record HeldAt (n m : ℕ) (l : List ℕ) (k : Links) (a : ℕ) : Type 0 where
  pub pred : link_of (take n k.before) a ≡ first_of (naming a l (rest l))
  pub succ : link_of (take n k.after) a ≡ first_of (naming a (rest l) l)
  pub on : get_or k.machines a 0 ≡ m
  pub at : get_or k.places a 0 ≡ place_on l a

-- .. of each that stands on it
abbrev pub LineHeld : (n m : ℕ) → List ℕ → Links → Type 0
LineHeld n m l k = (a : ℕ) → 0 < count_of a l → HeldAt n m l k a

-- ---- `relink_line`: those from i on are left, behind the one before them

abbrev pub rest_linked : (n m previous i : ℕ) → List ℕ → Links → Links
rest_linked n m previous i t k = links_of (written t (previous ∷ t) k.before) (written (previous ∷ t) (t ++ (n ∷ [])) k.after) (marked t m k.machines) (numbered t i k.places)

pub record Relinking (n m : ℕ) (line : List ℕ) (previous₀ i₀ : ℕ) (k₀ : Links) (previous i : ℕ) (k : Links) : Type 0 where
  pub within : i ≤ length line
  pub known : previous < length k₀.after
  pub sized_before : length k.before ≡ length k₀.before
  pub sized_after : length k.after ≡ length k₀.after
  pub sized_machines : length k.machines ≡ length k₀.machines
  pub sized_places : length k.places ≡ length k₀.places
  pub left : rest_linked n m previous i (drop i line) k ≡ rest_linked n m previous₀ i₀ (drop i₀ line) k₀

pub relink_begin : (n m : ℕ) (line : List ℕ) (previous i : ℕ) (k : Links) → i ≤ length line → previous < length k.after → Relinking n m line previous i k previous i k
relink_begin n m line previous i k h b =
    record {
      within = h;
      known = b;
      sized_before = refl;
      sized_after = refl;
      sized_machines = refl;
      sized_places = refl;
      left = refl;
    }

module _ {n m : ℕ} {line : List ℕ} {previous₀ i₀ : ℕ} {k₀ : Links} {previous i : ℕ} {b a c p : List ℕ}
    (w : Relinking n m line previous₀ i₀ k₀ previous i (links_of b a c p)) where
  pub relink_again : i < length line → get_or line i 0 < length k₀.after
      → Relinking n m line previous₀ i₀ k₀ (get_or line i 0) (i + 1) (links_of (set b (get_or line i 0) previous) (set a previous (get_or line i 0)) (set c (get_or line i 0) m) (set p (get_or line i 0) i))
  unfolding written marked numbered
  relink_again h y =
      let x = get_or line i 0 in
      let q : drop i line ≡ x ∷ drop (i + 1) line = drop-cons line i 0 h ∙ ap (λ (j : ℕ). get_or line i 0 ∷ drop j line) (sym (add-one i)) in
      record {
        within = omega arith;
        known = y;
        sized_before = length-set b x previous ∙ w.sized_before;
        sized_after = length-set a previous x ∙ w.sized_after;
        sized_machines = length-set c x m ∙ w.sized_machines;
        sized_places = length-set p x i ∙ w.sized_places;
        left = sym (ap (λ (t : List ℕ). rest_linked n m previous i t (links_of b a c p)) q) ∙ w.left;
      }

  pub relink_end : length line ≤ i → links_of b (set a previous n) c p ≡ rest_linked n m previous₀ i₀ (drop i₀ line) k₀
  unfolding written marked numbered
  relink_end h =
      sym (ap (λ (t : List ℕ). rest_linked n m previous i t (links_of b a c p)) (drop_of_length-le line h)) ∙ w.left

-- the first one written, the others are left
pub relink_first : (n m : ℕ) (line : List ℕ) (b a c p : List ℕ) → (length line ≡ 0 → ⊥)
    → rest_linked n m (get_or line 0 0) 1 (drop 1 line) (links_of (set b (get_or line 0 0) n) a (set c (get_or line 0 0) m) (set p (get_or line 0 0) 0)) ≡ line_relinked n m line (links_of b a c p)
unfolding written marked numbered
relink_first n m [] b a c p h = absurd (h refl)
relink_first n m (x ∷ line) b a c p h = refl

pub relink_none : (n m : ℕ) (line : List ℕ) (k : Links) → length line ≡ 0 → k ≡ line_relinked n m line k
unfolding written marked numbered
relink_none n m [] k h = refl
relink_none n m (x ∷ line) k h = absurd (omega arith)

-- ---- what is then written of those on the line

empty : (l : List ℕ) → length l ≤ 0 → l ≡ []
empty [] h = refl
empty (x ∷ l) h = absurd (omega arith)

naming_none : (a : ℕ) (bs ps : List ℕ) → count_of a ps ≡ 0 → naming a bs ps ≡ []
naming_none a bs ps z = empty (naming a bs ps) (omega (arith, naming_few a bs ps))

-- of one that is named, who stands there decides
named_some : (a : ℕ) (bs ps : List ℕ) (d e : ℕ) → length ps ≤ length bs → 0 < count_of a ps → last_or (naming a bs ps) d ≡ last_or (naming a bs ps) e
unfolding naming count_of
named_some a bs [] d e h s = absurd (omega arith)
named_some a [] (p ∷ ps) d e h s = absurd (omega arith)
named_some a (b ∷ bs) (p ∷ ps) d e h s =
    either p a
    (λ q. rw (eq-eqb p a q))
    (λ ne. rw (ne_eqb p a ne) (named_some a bs ps d e (omega arith) (omega (arith, hit-ne p a ne))))

named_before : (n a : ℕ) (l : List ℕ) (d : ℕ) → 0 < count_of a l → last_or (naming a (n ∷ l) l) d ≡ last_or (naming a l (rest l)) n
unfolding naming count_of
named_before n a [] d s = absurd (omega arith)
named_before n a (x ∷ l) d s =
    either x a
    (λ e. rw (eq-eqb x a e))
    (λ ne. rw (ne_eqb x a ne) (named_some a (x ∷ l) l d n (omega arith) (omega (arith, hit-ne x a ne))))

named-after : (n a x : ℕ) (l : List ℕ) (d : ℕ) → count_of a (x ∷ l) ≡ 1 → last_or (naming a (l ++ (n ∷ [])) (x ∷ l)) d ≡ last_or (naming a l (x ∷ l)) n
unfolding naming count_of
named-after n a x [] d o =
    either x a (λ e. rw (eq-eqb x a e)) (λ ne. absurd (omega (arith, hit-ne x a ne)))
named-after n a x (y ∷ l) d o =
    either x a
    (λ e.
    let z : count_of a (y ∷ l) ≡ 0 = omega (arith, hit-eq x a e) in
    rw (eq-eqb x a e, naming_none a (l ++ (n ∷ [])) (y ∷ l) z, naming_none a l (y ∷ l) z))
    (λ ne. rw (ne_eqb x a ne) (named-after n a y l d (omega (arith, hit-ne x a ne))))

named-behind : (n a : ℕ) (l : List ℕ) (d : ℕ) → count_of a l ≡ 1 → last_or (naming a (rest l ++ (n ∷ [])) l) d ≡ last_or (naming a (rest l) l) n
unfolding count_of
named-behind n a [] d o = absurd (omega arith)
named-behind n a (x ∷ l) d o = named-after n a x l d o

pub relinked-roomy : (n m : ℕ) (l : List ℕ) (k : Links) → Roomy n k → Roomy n (line_relinked n m l k)
relinked-roomy n m l k r =
    record {
      before = omega (arith, r.before, written-length l (n ∷ l) k.before);
      after = omega (arith, r.after, written-length l (rest l ++ (n ∷ [])) k.after);
      machines = omega (arith, r.machines, marked-length l m k.machines);
      places = omega (arith, r.places, numbered-length l 0 k.places);
    }

module _ (n m : ℕ) (l : List ℕ) (k : Links) (r : Roomy n k) (below : Below n l) where
  -- the line itself
  line_relinked' : ((a : ℕ) → count_of a l ≤ 1) → LineHeld n m l (line_relinked n m l k)
  line_relinked' once a s =
      let u = relinked-roomy n m l k r in
      let o : count_of a l ≡ 1 = omega (arith, once a) in
      let h = below_of n a l below s in
      let bb = below_more n (length k.before) l r.before below in
      let ba = below_more n (length k.after) l r.after below in
      record {
        pred =
            link_first n (written l (n ∷ l) k.before) a (naming a l (rest l)) u.before h (omega (arith, naming_few a l (rest l), rest_few a l)) (naming_below n a l (rest l) below) (written_at l (n ∷ l) k.before a bb ∙ named_before n a l (get_or k.before a 0) s);
        succ =
            link_first n (written l (rest l ++ (n ∷ [])) k.after) a (naming a (rest l) l) u.after h (omega (arith, naming_few a (rest l) l)) (naming_below n a (rest l) l (below_rest n l below)) (written_at l (rest l ++ (n ∷ [])) k.after a ba ∙ named-behind n a l (get_or k.after a 0) o);
        on = marked_in l m k.machines a (below_more n (length k.machines) l r.machines below) s;
        at =
            numbered_in l 0 k.places a (below_more n (length k.places) l r.places below) o ∙ omega arith;
      }

  -- one that does not stand on it
  written_out : (vs c : List ℕ) (a : ℕ) → n ≤ length c → count_of a l ≡ 0 → get_or (written l vs c) a 0 ≡ get_or c a 0
  written_out vs c a h z =
      written_at l vs c a (below_more n (length c) l h below) ∙ ap (λ (t : List ℕ). last_or t (get_or c a 0)) (naming_none a vs l z)

  link_same : (links links' : List ℕ) (a : ℕ) → a < n → n ≤ length links → n ≤ length links' → get_or links' a 0 ≡ get_or links a 0 → link_of (take n links') a ≡ link_of (take n links) a
  link_same links links' a h f g e =
      rw (get_or-take n links a 0, get_or-take n links' a 0, length-take-le n links, length-take-le n links', e)

  others_kept : (m' : ℕ) (l' : List ℕ) (a : ℕ) → a < n → count_of a l ≡ 0 → HeldAt n m' l' k a → HeldAt n m' l' (line_relinked n m l k) a
  others_kept m' l' a h z held =
      let u = relinked-roomy n m l k r in
      record {
        pred = link_same k.before (written l (n ∷ l) k.before) a h r.before u.before (written_out (n ∷ l) k.before a r.before z) ∙ held.pred;
        succ =
            link_same k.after (written l (rest l ++ (n ∷ [])) k.after) a h r.after u.after (written_out (rest l ++ (n ∷ [])) k.after a r.after z) ∙ held.succ;
        on = marked_out l m k.machines a z ∙ held.on;
        at = numbered_out l 0 k.places a z ∙ held.at;
      }

-- ---- lines that are held one by one

-- on a line at most as often as on all, on two lines too
count_few : (lines : Lines) (m a : ℕ) → count_of a (get_or lines m []) ≤ standing lines a
unfolding standing count_of
count_few [] m a = omega arith
count_few (l ∷ lines) zero a = omega arith
count_few (l ∷ lines) (suc m) a = omega (arith, count_few lines m a)

counts_few : (lines : Lines) (x m a : ℕ) → (x ≡ m → ⊥) → count_of a (get_or lines x []) + count_of a (get_or lines m []) ≤ standing lines a
unfolding standing count_of
counts_few [] x m a ne = omega arith
counts_few (l ∷ lines) zero zero a ne = absurd (ne refl)
counts_few (l ∷ lines) zero (suc m) a ne = omega (arith, count_few lines m a)
counts_few (l ∷ lines) (suc x) zero a ne = omega (arith, count_few lines x a)
counts_few (l ∷ lines) (suc x) (suc m) a ne = omega (arith, counts_few lines x m a (λ e. ne (ap suc e)))

-- the line on which an activity stands says all of it
record OnLine (lines : Lines) (first m a : ℕ) : Type 0 where
  befores_is : befores lines a ≡ naming a (get_or lines m []) (rest (get_or lines m []))
  afters_is : afters lines a ≡ naming a (rest (get_or lines m [])) (get_or lines m [])
  holder_is : holder first lines a ≡ first + m
  position_is : position_of lines a ≡ place_on (get_or lines m []) a

on_line_lem : (lines : Lines) (first m a : ℕ) → standing lines a ≤ 1 → 0 < count_of a (get_or lines m []) → OnLine lines first m a
unfolding standing count_of befores afters holder position_of
on_line_lem [] first m a o s = absurd (omega arith)
on_line_lem (l ∷ lines) first zero a o s =
    let z : standing lines a ≡ 0 = omega arith in
    record {
      befores_is =
          ap (λ (t : List ℕ). naming a l (rest l) ++ t) (empty (befores lines a) (omega (arith, befores_few lines a))) ∙ append-nil (naming a l (rest l));
      afters_is =
          ap (λ (t : List ℕ). naming a (rest l) l ++ t) (empty (afters lines a) (omega (arith, afters_few lines a))) ∙ append-nil (naming a (rest l) l);
      holder_is = rw (lt-ltb 0 (count_of a l) s) (omega arith);
      position_is = rw (lt-ltb 0 (count_of a l) s);
    }
on_line_lem (l ∷ lines) first (suc m) a o s =
    let z : count_of a l ≡ 0 = omega (arith, count_few lines m a) in
    let r = on_line_lem lines (first + 1) m a (omega arith) s in
    record {
      befores_is = rw (naming_none a l (rest l) (omega (arith, rest_few a l))) r.befores_is;
      afters_is = rw (naming_none a (rest l) l z) r.afters_is;
      holder_is = rw (le-ltb 0 (count_of a l) (omega arith)) (omega (arith, r.holder_is));
      position_is = rw (le-ltb 0 (count_of a l) (omega arith)) r.position_is;
    }

somewhere : (lines : Lines) (a : ℕ) → 0 < standing lines a → (m : ℕ) × (0 < count_of a (get_or lines m []))
unfolding standing
somewhere [] a s = absurd (omega arith)
somewhere (l ∷ lines) a s =
    either (count_of a l) 0 (λ z. let r = somewhere lines a (omega arith) in (suc r.0, r.1)) (λ nz. (0, omega arith))

module _ {n R : ℕ} {lines : Lines} (w : WellFormed n R lines) where
  -- lines that are held are held each
  pub each_held : {k : Links} → LinesHeld n lines k → (m : ℕ) → LineHeld n m (get_or lines m []) k
  each_held h m a s =
      let o = on_line_lem lines 0 m a (at_most_once w a) s in
      let b : a < n = w.known a (omega (arith, count_few lines m a)) in
      record {
        pred = h.preds a b ∙ ap first_of o.befores_is;
        succ = h.succs a b ∙ ap first_of o.afters_is;
        on = h.on a b ∙ o.holder_is ∙ omega arith;
        at = h.at a b ∙ o.position_is;
      }

  -- and the other way round
  standing_at : {k : Links} → ((m : ℕ) → LineHeld n m (get_or lines m []) k) → (a : ℕ) → a < n → (m : ℕ) × HeldAt n m (get_or lines m []) k a × OnLine lines 0 m a
  standing_at f a b =
      let s = somewhere lines a (omega (arith, w.once a b)) in
      (s.0, f s.0 a s.1, on_line_lem lines 0 s.0 a (at_most_once w a) s.1)

  pub all_held : {k : Links} → ((m : ℕ) → LineHeld n m (get_or lines m []) k) → LinesHeld n lines k
  all_held f =
      record {
        preds = λ a b. let s = standing_at f a b in s.1.pred ∙ sym (ap first_of s.2.befores_is);
        succs = λ a b. let s = standing_at f a b in s.1.succ ∙ sym (ap first_of s.2.afters_is);
        on = λ a b. let s = standing_at f a b in s.1.on ∙ omega (arith, s.2.holder_is);
        at = λ a b. let s = standing_at f a b in s.1.at ∙ sym s.2.position_is;
      }

  -- ---- one line linked again

  below_line : (lines : Lines) (m : ℕ) → AllBelow n lines → Below n (get_or lines m [])
  unfolding AllBelow Below
  below_line [] m h = tt
  below_line (l ∷ lines) zero h = h.0
  below_line (l ∷ lines) (suc m) h = below_line lines m h.1

  -- what `relink_line` asks
  pub relink_asks : {k : Links} → Roomy n k → (m : ℕ)
      → Below (length k.before) (get_or lines m []) × Below (length k.after) (get_or lines m []) × Below (length k.machines) (get_or lines m []) × Below (length k.places) (get_or lines m [])
  relink_asks {k} r m =
      let l = get_or lines m [] in
      let b = below_line lines m (lines_below w) in
      (below_more n (length k.before) l r.before b, below_more n (length k.after) l r.after b, below_more n (length k.machines) l r.machines b, below_more n (length k.places) l r.places b)

  -- it is held
  pub own_held : (m : ℕ) (k : Links) → Roomy n k → LineHeld n m (get_or lines m []) (line_relinked n m (get_or lines m []) k)
  own_held m k r =
      line_relinked' n m (get_or lines m []) k r (below_line lines m (lines_below w)) (λ a. omega (arith, count_few lines m a, at_most_once w a))

  -- and every other line as it was
  pub other_held : (m x : ℕ) (k : Links) → Roomy n k → (x ≡ m → ⊥) → LineHeld n x (get_or lines x []) k → LineHeld n x (get_or lines x []) (line_relinked n m (get_or lines m []) k)
  other_held m x k r ne held a s =
      others_kept n m (get_or lines m []) k r (below_line lines m (lines_below w)) x (get_or lines x []) a (w.known a (omega (arith, count_few lines x a))) (omega (arith, counts_few lines x m a ne, at_most_once w a)) (held a s)

-- ---- lines of which one or two were changed

module _ {n R S : ℕ} {lines₀ lines : Lines} (w₀ : WellFormed n R lines₀) (w : WellFormed n S lines) {k : Links} (r : Roomy n k) (h : LinesHeld n lines₀ k) where
  -- a line that stayed was held before
  stayed : (x : ℕ) → get_or lines x [] ≡ get_or lines₀ x [] → LineHeld n x (get_or lines x []) k
  stayed x e = subst (λ (l : List ℕ). LineHeld n x l k) (sym e) (each_held w₀ h x)

  pub one_relinked : (m : ℕ) → ((x : ℕ) → (x ≡ m → ⊥) → get_or lines x [] ≡ get_or lines₀ x []) → LinesHeld n lines (line_relinked n m (get_or lines m []) k)
  one_relinked m same =
      all_held w
      (λ x.
      either x m
      (λ e. subst (λ (y : ℕ). LineHeld n y (get_or lines y []) (line_relinked n m (get_or lines m []) k)) (sym e) (own_held w m k r))
      (λ ne. other_held w m x k r ne (stayed x (same x ne))))

  pub two-relinked : (m q : ℕ) → ((x : ℕ) → (x ≡ m → ⊥) → (x ≡ q → ⊥) → get_or lines x [] ≡ get_or lines₀ x [])
      → LinesHeld n lines (line_relinked n q (get_or lines q []) (line_relinked n m (get_or lines m []) k))
  two-relinked m q same =
      let k₁ = line_relinked n m (get_or lines m []) k in
      let r₁ : Roomy n k₁ = relinked-roomy n m (get_or lines m []) k r in
      all_held w
      (λ x.
      either x q
      (λ e. subst (λ (y : ℕ). LineHeld n y (get_or lines y []) (line_relinked n q (get_or lines q []) k₁)) (sym e) (own_held w q k₁ r₁))
      (λ nq.
      other_held w q x k₁ r₁ nq
      (either x m
      (λ e. subst (λ (y : ℕ). LineHeld n y (get_or lines y []) k₁) (sym e) (own_held w m k r))
      (λ nm. other_held w m x k r nm (stayed x (same x nm nq))))))
