-- Equal moves count once: over a path whose activities stand at different positions, moves of different blocks differ, so that only the two
-- swaps of a block of two are one.
use Prim.Native.Nat.{ℕ, zero, suc, ◌+◌, ◌-◌, ◌≤◌, ◌<◌}
use mathlib.Core.Path.{◌≡◌, refl, sym, ap, ◌∙◌}
use mathlib.Core.Bool.{Bool, true, false, ◌&&◌, ◌||◌}
use mathlib.Core.List.{List, [], ◌∷◌, ◌++◌, append-nil, append_assoc}
use native.Mathlib.Omega.{arith}
use borrow.Author.Tests.{eq-eqb, ne_eqb, eqb-true, lt-ltb, le-ltb}
use lib.Dec.{eqb}
use Rattle.graph.proofs.CountingLaws.{either}
use Rattle.moves.specs.declared.Move.{Move}
use Rattle.moves.specs.declared.Move.TheVariants.{Swap, Shift, Reassign}
use Rattle.blocks.specs.BlockMoves.{Block, block, closed, goes_on', blocks_from, blocks_by, begun, shifts, moves_of, moves_of_all, same, is_among, once}
use Rattle.blocks.specs.Scanning.{own_moves, own_moves_of_all}
use Rattle.blocks.proofs.RunLaws.{both_true}
use Rattle.blocks.proofs.EveryLaws.{Every, none, also, every_append, every_map}

-- ---- tests

pub split : {A : Type 0} (t : Bool) → (t ≡ true → A) → (t ≡ false → A) → A
split true f g = f refl
split false f g = g refl

or_true : (x : Bool) → (x || true) ≡ true
or_true true = refl
or_true false = refl

and_false : (x : Bool) → (x && false) ≡ false
and_false true = refl
and_false false = refl

not_both : (m r i j : ℕ) → (m ≡ r → i ≡ j → ⊥) → (eqb m r && eqb i j) ≡ false
not_both m r i j h =
    either m r (λ e. rw (eq-eqb m r e) (ne_eqb i j (λ k. h e k))) (λ ne. rw (ne_eqb m r ne))

not_three : (m r i j : ℕ) (t : Bool) → (m ≡ r → i ≡ j → ⊥) → (eqb m r && (eqb i j && t)) ≡ false
not_three m r i j t h =
    either m r (λ e. rw (eq-eqb m r e, ne_eqb i j (λ k. h e k))) (λ ne. rw (ne_eqb m r ne))

-- ---- where a move is made

-- not from positions f..l of machine m
abbrev pub Elsewhere : (m f l : ℕ) → Move → Type 0
Elsewhere m f l (Swap r i) = r ≡ m → f ≤ i → i ≤ l → ⊥
Elsewhere m f l (Shift r i j) = r ≡ m → f ≤ i → i ≤ l → ⊥
Elsewhere m f l (Reassign a r i q j) = Unit {0}

-- from positions f..l of machine m
abbrev pub At : (m f l : ℕ) → Move → Type 0
At m f l (Swap r i) = (r ≡ m) × (f ≤ i) × (i ≤ l)
At m f l (Shift r i j) = (r ≡ m) × (f ≤ i) × (i ≤ l)
At m f l (Reassign a r i q j) = ⊥

unlike_swap : (m f l i : ℕ) → f ≤ i → i ≤ l → (y : Move) → Elsewhere m f l y → same (Swap m i) y ≡ false
unlike_swap m f l i a b (Swap r j) h = not_both m r i j (λ e k. h (sym e) (omega arith) (omega arith))
unlike_swap m f l i a b (Shift r j k) h = refl
unlike_swap m f l i a b (Reassign x r j q k) h = refl

unlike_shift : (m f l i to : ℕ) → f ≤ i → i ≤ l → (y : Move) → Elsewhere m f l y → same (Shift m i to) y ≡ false
unlike_shift m f l i to a b (Swap r j) h = refl
unlike_shift m f l i to a b (Shift r j k) h = not_three m r i j (eqb to k) (λ e g. h (sym e) (omega arith) (omega arith))
unlike_shift m f l i to a b (Reassign x r j q k) h = refl

elsewhere_more : (m f l n k : ℕ) → n ≡ m → k ≡ suc l → (y : Move) → Elsewhere m f l y → Elsewhere n k k y → Elsewhere n f k y
elsewhere_more m f l n k e g (Swap r i) h j =
    λ a b c. either i k (λ z. j a (omega arith) (omega arith)) (λ ne. h (a ∙ e) b (omega arith))
elsewhere_more m f l n k e g (Shift r i t) h j =
    λ a b c. either i k (λ z. j a (omega arith) (omega arith)) (λ ne. h (a ∙ e) b (omega arith))
elsewhere_more m f l n k e g (Reassign x r i q t) h j = tt

at_elsewhere : (m f l n k : ℕ) → (n ≡ m → f ≤ k → k ≤ l → ⊥) → (y : Move) → At m f l y → Elsewhere n k k y
at_elsewhere m f l n k h (Swap r i) a = λ e b c. h (sym e ∙ a.0) (omega (arith, a.1)) (omega (arith, a.2))
at_elsewhere m f l n k h (Shift r i t) a = λ e b c. h (sym e ∙ a.0) (omega (arith, a.1)) (omega (arith, a.2))
at_elsewhere m f l n k h (Reassign x r i q t) a = absurd a

-- ---- one move more

not_among : (x : Move) (l : List Move) → Every (λ y. same x y ≡ false) l → is_among x l ≡ false
unfolding is_among
not_among x [] h = refl
not_among x (y ∷ l) (also h hs) = rw h (not_among x l hs)

among_last : (x : Move) (l : List Move) → same x x ≡ true → is_among x (l ++ (x ∷ [])) ≡ true
unfolding is_among
among_last x [] e = rw e
among_last x (y ∷ l) e = rw (among_last x l e) (or_true (same x y))

once_new : (earlier : List Move) (x : Move) (l : List Move) → Every (λ y. same x y ≡ false) earlier → once earlier (x ∷ l) ≡ once (earlier ++ (x ∷ [])) l
unfolding once
once_new earlier x l h = rw (not_among x earlier h)

once_again : (earlier : List Move) (x : Move) (l : List Move) → same x x ≡ true → once (earlier ++ (x ∷ [])) (x ∷ l) ≡ once (earlier ++ (x ∷ [])) l
unfolding once
once_again earlier x l e = rw (among_last x earlier e)

-- ---- shifts

pub every_shift : (P : Move → Type 0) (m to from count : ℕ) → ((i : ℕ) → from ≤ i → i < from + count → P (Shift m i to)) → Every P (shifts m to from count)
unfolding shifts
every_shift P m to from zero h = none
every_shift P m to from (suc count) h =
    also (h from (omega arith) (omega arith)) (every_shift P m to (suc from) count (λ i a b. h i (omega arith) (omega arith)))

once-shifts : (m to from count : ℕ) (earlier rest : List Move) → Every (λ y. (i : ℕ) → from ≤ i → i < from + count → same (Shift m i to) y ≡ false) earlier
    → once earlier (shifts m to from count ++ rest) ≡ once (earlier ++ shifts m to from count) rest
unfolding shifts
once-shifts m to from zero earlier rest h = rw (append-nil earlier)
once-shifts m to from (suc count) earlier rest h =
    let x = Shift m from to in
    once_new earlier x (shifts m to (suc from) count ++ rest) (every_map (λ y g. g from (omega arith) (omega arith)) h)
    ∙ once-shifts m to (suc from) count (earlier ++ (x ∷ [])) rest
    (every_append (every_map (λ y g i a b. g i (omega arith) (omega arith)) h) (also (λ i a b. not_three m m i from (eqb to to) (λ e k. omega arith)) none))
    ∙ ap (λ (l : List Move). once l rest) (append_assoc earlier (x ∷ []) (shifts m to (suc from) count))

-- ---- a block

same-swap : (m i : ℕ) → same (Swap m i) (Swap m i) ≡ true
same-swap m i = rw (eq-eqb m m refl, eq-eqb i i refl)

module _ (m f l : ℕ) (h : f < l) where
  pub own_at : Every (At m f l) (own_moves (block m f l))
  own_at =
      let a : At m f l (Swap m f) = (refl, omega arith, omega arith) in
      let b : At m f l (Swap m (l - 1)) = (refl, omega arith, omega arith) in
      either (l - f) 1
      (λ e. rw (le-ltb (f + 1) l (omega arith)) (also a none))
      (λ ne.
      rw (lt-ltb (f + 1) l (omega arith))
      (also a (also b (every_append (every_shift (At m f l) m f (f + 2) (l - f - 1) (λ i a b. (refl, omega arith, omega arith))) (every_shift (At m f l) m l f (l - f - 1) (λ i a b. (refl, omega arith, omega arith)))))))

  module _ (earlier rest : List Move) (away : Every (Elsewhere m f l) earlier) where
    begins : (behind : List Move) → once earlier (Swap m f ∷ behind) ≡ once (earlier ++ (Swap m f ∷ [])) behind
    begins behind = once_new earlier (Swap m f) behind (every_map (unlike_swap m f l f (omega arith) (omega arith)) away)

    once_pair : l ≡ f + 1 → once earlier (moves_of (block m f l) ++ rest) ≡ once (earlier ++ (Swap m f ∷ [])) rest
    unfolding shifts
    once_pair e =
        let a : l - 1 ≡ f = omega arith in
        let z : l - f - 1 ≡ 0 = omega arith in
        rw (z, a) (begins (Swap m f ∷ rest) ∙ once_again earlier (Swap m f) rest (same-swap m f))

    others : (i j : ℕ) → same (Shift m i l) (Shift m j f) ≡ false
    others i j = rw (ne_eqb l f (λ e. omega arith), and_false (eqb i j)) (and_false (eqb m m))

    shift_away : (to n : ℕ) → n ≤ l + 1 → Every (λ y. (i : ℕ) → f ≤ i → i < n → same (Shift m i to) y ≡ false) ((earlier ++ (Swap m f ∷ [])) ++ (Swap m (l - 1) ∷ []))
    shift_away to n k =
        every_append
        (every_append (every_map (λ y g i a b. unlike_shift m f l i to a (omega arith) y g) away) (also (λ i a b. refl) none))
        (also (λ i a b. refl) none)

    once_more : f + 1 < l → once earlier (moves_of (block m f l) ++ rest) ≡ once (earlier ++ moves_of (block m f l)) rest
    once_more k =
        let S = shifts m f (f + 2) (l - f - 1) in
        let T = shifts m l f (l - f - 1) in
        let one = earlier ++ (Swap m f ∷ []) in
        let two = one ++ (Swap m (l - 1) ∷ []) in
        begins (Swap m (l - 1) ∷ ((S ++ T) ++ rest))
        ∙ once_new one (Swap m (l - 1)) ((S ++ T) ++ rest)
        (every_append (every_map (unlike_swap m f l (l - 1) (omega arith) (omega arith)) away) (also (not_both m m (l - 1) f (λ e g. omega arith)) none))
        ∙ ap (once two) (append_assoc S T rest)
        ∙ once-shifts m f (f + 2) (l - f - 1) two (T ++ rest) (every_map (λ y g i a b. g i (omega arith) (omega arith)) (shift_away f (l + 1) (omega arith)))
        ∙ once-shifts m l f (l - f - 1) (two ++ S) rest
        (every_append (every_map (λ y g i a b. g i (omega arith) (omega arith)) (shift_away l (l + 1) (omega arith))) (every_shift (λ y. (i : ℕ) → f ≤ i → i < f + (l - f - 1) → same (Shift m i l) y ≡ false) m f (f + 2) (l - f - 1) (λ j c d i a b. others i j)))
        ∙ ap (λ (z : List Move). once z rest)
        (append_assoc two S T ∙ append_assoc one (Swap m (l - 1) ∷ []) (S ++ T) ∙ append_assoc earlier (Swap m f ∷ []) (Swap m (l - 1) ∷ (S ++ T)))

    pub once-block : once earlier (moves_of (block m f l) ++ rest) ≡ once (earlier ++ own_moves (block m f l)) rest
    once-block =
        either l (f + 1)
        (λ e. rw (le-ltb (f + 1) l (omega arith)) (once_pair e))
        (λ ne. rw (lt-ltb (f + 1) l (omega arith)) (once_more (omega arith)))

-- ---- all blocks of a path

abbrev pub Away : (machine position : ℕ → ℕ) → Move → ℕ → Type 0
Away machine position y b = Elsewhere (machine b) (position b) (position b) y

-- No activity of the list stands at positions f..l of machine m.
abbrev pub Clear : (machine position : ℕ → ℕ) → (m f l : ℕ) → ℕ → Type 0
Clear machine position m f l b = machine b ≡ m → f ≤ position b → position b ≤ l → ⊥

-- No two activities of the list stand at one position.
pub data Apart (machine position : ℕ → ℕ) : List ℕ → Type 0 where
  alone : Apart machine position []
  apart : {b : ℕ} {l : List ℕ} → Every (Clear machine position (machine b) (position b) (position b)) l → Apart machine position l → Apart machine position (b ∷ l)

pub own_append : (xs ys : List Block) → own_moves_of_all (xs ++ ys) ≡ own_moves_of_all xs ++ own_moves_of_all ys
unfolding own_moves_of_all
own_append [] ys = refl
own_append (b ∷ xs) ys =
    ap (λ (l : List Move). own_moves b ++ l) (own_append xs ys) ∙ sym (append_assoc (own_moves b) (own_moves_of_all xs) (own_moves_of_all ys))

once_closed : (m f l : ℕ) (earlier : List Move) (more : List Block) → Every (Elsewhere m f l) earlier
    → once earlier (moves_of_all (closed (block m f l) ++ more)) ≡ once (earlier ++ own_moves_of_all (closed (block m f l))) (moves_of_all more)
unfolding moves_of_all own_moves_of_all
once_closed m f l earlier more away =
    either (l - f) 0
    (λ e. rw (le-ltb f l (omega arith), append-nil earlier))
    (λ ne.
    rw (lt-ltb f l (omega arith), append-nil (own_moves (block m f l))) (once-block m f l (omega arith) earlier (moves_of_all more) away))

closed_at : (m f l : ℕ) → Every (At m f l) (own_moves_of_all (closed (block m f l)))
unfolding own_moves_of_all
closed_at m f l =
    either (l - f) 0
    (λ e. rw (le-ltb f l (omega arith)) none)
    (λ ne. rw (lt-ltb f l (omega arith), append-nil (own_moves (block m f l))) (own_at m f l (omega arith)))

module _ (machine position : ℕ → ℕ) where
  pub goes_on : (m f l b : ℕ) (rest : List ℕ) → goes_on' machine position (block m f l) b ≡ true
      → blocks_from machine position (block m f l) (b ∷ rest) ≡ blocks_from machine position (block (machine b) f (position b)) rest
  unfolding blocks_from
  goes_on m f l b rest e = rw e

  pub ends_there : (m f l b : ℕ) (rest : List ℕ) → goes_on' machine position (block m f l) b ≡ false
      → blocks_from machine position (block m f l) (b ∷ rest) ≡ closed (block m f l) ++ blocks_from machine position (begun machine position b) rest
  unfolding blocks_from
  ends_there m f l b rest e = rw e

  pub at_end_lem : (m f l : ℕ) → blocks_from machine position (block m f l) [] ≡ closed (block m f l) ++ []
  unfolding blocks_from
  at_end_lem m f l = sym (append-nil (closed (block m f l)))

  -- a run gone on to b leaves clear what neither it nor b is at
  clear_more : (m f l n k : ℕ) → n ≡ m → k ≡ suc l → {rest : List ℕ} → Every (Clear machine position m f l) rest
      → Every (Clear machine position n k k) rest → Every (Clear machine position n f k) rest
  clear_more m f l n k e g none none = none
  clear_more m f l n k e g (also {x} h hs) (also j js) =
      also (λ a b c. either (position x) k (λ z. j a (omega arith) (omega arith)) (λ ne. h (a ∙ e) b (omega arith))) (clear_more m f l n k e g hs js)

  at_away : (m f l : ℕ) {rest : List ℕ} → Every (Clear machine position m f l) rest → (y : Move) → At m f l y → Every (Away machine position y) rest
  at_away m f l none y a = none
  at_away m f l (also {x} h hs) y a = also (at_elsewhere m f l (machine x) (position x) h y a) (at_away m f l hs y a)

  first_away : (y : Move) (b : ℕ) (rest : List ℕ) → Every (Away machine position y) (b ∷ rest) → Elsewhere (machine b) (position b) (position b) y
  first_away y b rest (also h hs) = h

  rest_away : (y : Move) (b : ℕ) (rest : List ℕ) → Every (Away machine position y) (b ∷ rest) → Every (Away machine position y) rest
  rest_away y b rest (also h hs) = hs

  two : {P Q : Move → Type 0} {l : List Move} → Every P l → Every Q l → Every (λ y. P y × Q y) l
  two none none = none
  two (also h hs) (also k ks) = also (h, k) (two hs ks)

  pub once_from : (rest : List ℕ) (m f l : ℕ) (earlier : List Move) → Every (Elsewhere m f l) earlier
      → Every (λ y. Every (Away machine position y) rest) earlier → Every (Clear machine position m f l) rest → Apart machine position rest
      → once earlier (moves_of_all (blocks_from machine position (block m f l) rest)) ≡ earlier ++ own_moves_of_all (blocks_from machine position (block m f l) rest)
  unfolding once moves_of_all
  once_from [] m f l earlier away far clear between =
      rw (at_end_lem m f l) (once_closed m f l earlier [] away ∙ ap (λ (z : List Block). earlier ++ own_moves_of_all z) (sym (append-nil (closed (block m f l)))))
  once_from (b ∷ rest) m f l earlier away far (also c cs) (apart d ds) =
      split (goes_on' machine position (block m f l) b)
      (λ e.
      let both = both_true (eqb (machine b) m) (eqb (position b) (suc l)) e in
      let g : machine b ≡ m = eqb-true (machine b) m both.0 in
      let k : position b ≡ suc l = eqb-true (position b) (suc l) both.1 in
      rw (goes_on m f l b rest e)
      (once_from rest (machine b) f (position b) earlier (every_map (λ y h. elsewhere_more m f l (machine b) (position b) g k y h.0 (first_away y b rest h.1)) (two away far)) (every_map (λ y h. rest_away y b rest h) far) (clear_more m f l (machine b) (position b) g k cs d) ds))
      (λ e.
      let own = own_moves_of_all (closed (block m f l)) in
      let more = blocks_from machine position (begun machine position b) rest in
      rw (ends_there m f l b rest e)
      (once_closed m f l earlier more away
      ∙ once_from rest (machine b) (position b) (position b) (earlier ++ own) (every_append (every_map (λ y h. first_away y b rest h) far) (every_map (λ y h. at_elsewhere m f l (machine b) (position b) c y h) (closed_at m f l))) (every_append (every_map (λ y h. rest_away y b rest h) far) (every_map (λ y h. at_away m f l cs y h) (closed_at m f l))) d ds
      ∙ append_assoc earlier own (own_moves_of_all more)
      ∙ ap (λ (z : List Move). earlier ++ z) (sym (own_append (closed (block m f l)) more))))

  pub once-all : (path : List ℕ) → Apart machine position path
      → once [] (moves_of_all (blocks_by machine position path)) ≡ own_moves_of_all (blocks_by machine position path)
  unfolding once moves_of_all own_moves_of_all
  once-all [] between = refl
  once-all (a ∷ path) (apart d ds) = once_from path (machine a) (position a) (position a) [] none none d ds
