-- What the arrays hold once all lines are written: of each activity the one before and after it, its machine and its place. Assumes nothing.
use mathlib.Core.Path.{◌≡◌, refl, sym, ap, ◌∙◌, subst}
use mathlib.Core.List.{List, [], ◌∷◌, ◌++◌}
use Prim.Native.Nat.{ℕ, ◌+◌, ◌≤◌, ◌<◌}
use native.Mathlib.Omega.{arith}
use lib.ListN.{length, get_or, set, take, length-set}
use lib.Seq.{get_or-set_same, get_or-set_other, get_or-take, length-take-le}
use borrow.Author.Tests.{eq-eqb, ne_eqb, lt-ltb, le-ltb}
use Rattle.graph.specs.Counting.{count_of, Below}
use Rattle.graph.specs.Filing.{naming}
use Rattle.graph.specs.Links.{link_of}
use Rattle.graph.proofs.CountingLaws.{either, hit-eq, hit-ne, below_more}
use Rattle.lines.specs.Lines.{Lines, standing, rest, befores, afters, first_of, holder, place_on, position_of, WellFormed}
use Rattle.lines.specs.Linking.{Links, written, marked, numbered, line_linked, lines_linked, Roomy, AllBelow, LinesHeld}
use Rattle.lines.proofs.LineLaws.{at_most_once, befores_few, afters_few, befores_below, afters_below, lines_below, below_rest}

-- ---- one list written into: the last one written counts

abbrev pub last_or : List ℕ → ℕ → ℕ
last_or [] d = d
last_or (x ∷ l) d = last_or l x

last_or-append : (s t : List ℕ) (d : ℕ) → last_or (s ++ t) d ≡ last_or t (last_or s d)
last_or-append [] t d = refl
last_or-append (x ∷ s) t d = last_or-append s t x

pub written-length : (ks vs c : List ℕ) → length (written ks vs c) ≡ length c
unfolding written
written-length [] vs c = refl
written-length (k ∷ ks) [] c = refl
written-length (k ∷ ks) (v ∷ vs) c = written-length ks vs (set c k v) ∙ length-set c k v

pub written_at : (ks vs c : List ℕ) (x : ℕ) → Below (length c) ks → get_or (written ks vs c) x 0 ≡ last_or (naming x vs ks) (get_or c x 0)
unfolding written naming Below
written_at [] [] c x h = refl
written_at [] (v ∷ vs) c x h = refl
written_at (k ∷ ks) [] c x h = refl
written_at (k ∷ ks) (v ∷ vs) c x h =
    written_at ks vs (set c k v) x (rw length-set h.1)
    ∙ either k x
    (λ e. rw (eq-eqb k x e) (ap (last_or (naming x vs ks)) (subst (λ y. get_or (set c k v) y 0 ≡ v) e (get_or-set_same c k v 0 h.0))))
    (λ ne. rw (ne_eqb k x ne) (ap (last_or (naming x vs ks)) (get_or-set_other c k x v 0 (λ e. ne (sym e)))))

pub marked-length : (ks : List ℕ) (m : ℕ) (c : List ℕ) → length (marked ks m c) ≡ length c
unfolding marked
marked-length [] m c = refl
marked-length (k ∷ ks) m c = marked-length ks m (set c k m) ∙ length-set c k m

pub marked_out : (ks : List ℕ) (m : ℕ) (c : List ℕ) (x : ℕ) → count_of x ks ≡ 0 → get_or (marked ks m c) x 0 ≡ get_or c x 0
unfolding marked count_of
marked_out [] m c x z = refl
marked_out (k ∷ ks) m c x z =
    marked_out ks m (set c k m) x (omega arith) ∙ get_or-set_other c k x m 0 (λ e. absurd (omega (arith, hit-eq k x (sym e))))

pub marked_in : (ks : List ℕ) (m : ℕ) (c : List ℕ) (x : ℕ) → Below (length c) ks → 0 < count_of x ks → get_or (marked ks m c) x 0 ≡ m
unfolding marked count_of Below
marked_in [] m c x h p = absurd (omega arith)
marked_in (k ∷ ks) m c x h p =
    either (count_of x ks) 0
    (λ z.
    let e : k ≡ x = either k x (λ e. e) (λ ne. absurd (omega (arith, hit-ne k x ne))) in
    marked_out ks m (set c k m) x z ∙ subst (λ y. get_or (set c k m) y 0 ≡ m) e (get_or-set_same c k m 0 h.0))
    (λ nz. marked_in ks m (set c k m) x (rw length-set h.1) (omega arith))

pub numbered-length : (ks : List ℕ) (i : ℕ) (c : List ℕ) → length (numbered ks i c) ≡ length c
unfolding numbered
numbered-length [] i c = refl
numbered-length (k ∷ ks) i c = numbered-length ks (i + 1) (set c k i) ∙ length-set c k i

pub numbered_out : (ks : List ℕ) (i : ℕ) (c : List ℕ) (x : ℕ) → count_of x ks ≡ 0 → get_or (numbered ks i c) x 0 ≡ get_or c x 0
unfolding numbered count_of
numbered_out [] i c x z = refl
numbered_out (k ∷ ks) i c x z =
    numbered_out ks (i + 1) (set c k i) x (omega arith) ∙ get_or-set_other c k x i 0 (λ e. absurd (omega (arith, hit-eq k x (sym e))))

pub numbered_in : (ks : List ℕ) (i : ℕ) (c : List ℕ) (x : ℕ) → Below (length c) ks → count_of x ks ≡ 1 → get_or (numbered ks i c) x 0 ≡ i + place_on ks x
unfolding numbered count_of Below place_on
numbered_in [] i c x h p = absurd (omega arith)
numbered_in (k ∷ ks) i c x h p =
    either k x
    (λ e.
    rw (eq-eqb k x e)
    (numbered_out ks (i + 1) (set c k i) x (omega (arith, hit-eq k x e)) ∙ subst (λ y. get_or (set c k i) y 0 ≡ i) e (get_or-set_same c k i 0 h.0) ∙ omega arith))
    (λ ne.
    rw (ne_eqb k x ne) (numbered_in ks (i + 1) (set c k i) x (rw length-set h.1) (omega (arith, hit-ne k x ne)) ∙ omega arith))

-- ---- all lines

pub line_roomy : (n m : ℕ) (l : List ℕ) (k : Links) → Roomy n k → Roomy n (line_linked m l k)
line_roomy n m l k r =
    record {
      before = omega (arith, r.before, written-length (rest l) l k.before);
      after = omega (arith, r.after, written-length l (rest l) k.after);
      machines = omega (arith, r.machines, marked-length l m k.machines);
      places = omega (arith, r.places, numbered-length l 0 k.places);
    }

before_at : (n m : ℕ) (lines : Lines) (k : Links) (x : ℕ) → AllBelow n lines → Roomy n k
    → get_or (lines_linked m lines k).before x 0 ≡ last_or (befores lines x) (get_or k.before x 0)
unfolding lines_linked befores AllBelow
before_at n m [] k x h r = refl
before_at n m (l ∷ lines) k x h r =
    before_at n (m + 1) lines (line_linked m l k) x h.1 (line_roomy n m l k r)
    ∙ ap (last_or (befores lines x)) (written_at (rest l) l k.before x (below_more n (length k.before) (rest l) r.before (below_rest n l h.0)))
    ∙ sym (last_or-append (naming x l (rest l)) (befores lines x) (get_or k.before x 0))

after_at_lem : (n m : ℕ) (lines : Lines) (k : Links) (x : ℕ) → AllBelow n lines → Roomy n k
    → get_or (lines_linked m lines k).after x 0 ≡ last_or (afters lines x) (get_or k.after x 0)
unfolding lines_linked afters AllBelow
after_at_lem n m [] k x h r = refl
after_at_lem n m (l ∷ lines) k x h r =
    after_at_lem n (m + 1) lines (line_linked m l k) x h.1 (line_roomy n m l k r)
    ∙ ap (last_or (afters lines x)) (written_at l (rest l) k.after x (below_more n (length k.after) l r.after h.0))
    ∙ sym (last_or-append (naming x (rest l) l) (afters lines x) (get_or k.after x 0))

machine_out : (m : ℕ) (lines : Lines) (k : Links) (x : ℕ) → standing lines x ≡ 0 → get_or (lines_linked m lines k).machines x 0 ≡ get_or k.machines x 0
unfolding lines_linked standing
machine_out m [] k x z = refl
machine_out m (l ∷ lines) k x z =
    machine_out (m + 1) lines (line_linked m l k) x (omega arith) ∙ marked_out l m k.machines x (omega arith)

machine_in_lem : (n m : ℕ) (lines : Lines) (k : Links) (x : ℕ) → AllBelow n lines → Roomy n k → standing lines x ≡ 1
    → get_or (lines_linked m lines k).machines x 0 ≡ holder m lines x
unfolding lines_linked standing holder AllBelow
machine_in_lem n m [] k x h r o = absurd (omega arith)
machine_in_lem n m (l ∷ lines) k x h r o =
    either (count_of x l) 0
    (λ z. rw (le-ltb 0 (count_of x l) (omega arith)) (machine_in_lem n (m + 1) lines (line_linked m l k) x h.1 (line_roomy n m l k r) (omega arith)))
    (λ nz.
    rw (lt-ltb 0 (count_of x l) (omega arith))
    (machine_out (m + 1) lines (line_linked m l k) x (omega arith) ∙ marked_in l m k.machines x (below_more n (length k.machines) l r.machines h.0) (omega arith)))

place_out : (m : ℕ) (lines : Lines) (k : Links) (x : ℕ) → standing lines x ≡ 0 → get_or (lines_linked m lines k).places x 0 ≡ get_or k.places x 0
unfolding lines_linked standing
place_out m [] k x z = refl
place_out m (l ∷ lines) k x z = place_out (m + 1) lines (line_linked m l k) x (omega arith) ∙ numbered_out l 0 k.places x (omega arith)

place_in : (n m : ℕ) (lines : Lines) (k : Links) (x : ℕ) → AllBelow n lines → Roomy n k → standing lines x ≡ 1
    → get_or (lines_linked m lines k).places x 0 ≡ position_of lines x
unfolding lines_linked standing position_of AllBelow
place_in n m [] k x h r o = absurd (omega arith)
place_in n m (l ∷ lines) k x h r o =
    either (count_of x l) 0
    (λ z. rw (le-ltb 0 (count_of x l) (omega arith)) (place_in n (m + 1) lines (line_linked m l k) x h.1 (line_roomy n m l k r) (omega arith)))
    (λ nz.
    rw (lt-ltb 0 (count_of x l) (omega arith))
    (place_out (m + 1) lines (line_linked m l k) x (omega arith)
    ∙ numbered_in l 0 k.places x (below_more n (length k.places) l r.places h.0) (omega arith)
    ∙ omega arith))

-- ---- the arrays hold the lines

-- a link that was n before anything was written
pub link_first : (n : ℕ) (links : List ℕ) (a : ℕ) (l : List ℕ) → n ≤ length links → a < n → length l ≤ 1 → Below n l → get_or links a 0 ≡ last_or l n
    → link_of (take n links) a ≡ first_of l
unfolding Below
link_first n links a [] h k f b e =
    rw (get_or-take n links a 0, length-take-le n links, e, le-ltb n n (omega arith))
link_first n links a (x ∷ []) h k f b e =
    rw (get_or-take n links a 0, length-take-le n links, e, lt-ltb x n b.0)
link_first n links a (x ∷ y ∷ l) h k f b e = absurd (omega arith)

linked_before : (m : ℕ) (lines : Lines) (k : Links) → length (lines_linked m lines k).before ≡ length k.before
unfolding lines_linked
linked_before m [] k = refl
linked_before m (l ∷ lines) k = linked_before (m + 1) lines (line_linked m l k) ∙ written-length (rest l) l k.before

linked-after : (m : ℕ) (lines : Lines) (k : Links) → length (lines_linked m lines k).after ≡ length k.after
unfolding lines_linked
linked-after m [] k = refl
linked-after m (l ∷ lines) k = linked-after (m + 1) lines (line_linked m l k) ∙ written-length l (rest l) k.after

pub lines_held : (n R : ℕ) (lines : Lines) (k : Links) → WellFormed n R lines → Roomy n k → ((a : ℕ) → a < n → get_or k.before a 0 ≡ n) → ((a : ℕ) → a < n → get_or k.after a 0 ≡ n)
    → LinesHeld n lines (lines_linked 0 lines k)
lines_held n R lines k w r nb na =
    let h = lines_below w in
    record {
      preds =
          λ a l.
          link_first n (lines_linked 0 lines k).before a (befores lines a) (omega (arith, r.before, linked_before 0 lines k)) l (omega (arith, befores_few lines a, at_most_once w a)) (befores_below n lines a h) (before_at n 0 lines k a h r ∙ ap (last_or (befores lines a)) (nb a l));
      succs =
          λ a l.
          link_first n (lines_linked 0 lines k).after a (afters lines a) (omega (arith, r.after, linked-after 0 lines k)) l (omega (arith, afters_few lines a, at_most_once w a)) (afters_below n lines a h) (after_at_lem n 0 lines k a h r ∙ ap (last_or (afters lines a)) (na a l));
      on = λ a l. machine_in_lem n 0 lines k a h r (w.once a l);
      at = λ a l. place_in n 0 lines k a h r (w.once a l);
    }
