-- A part of one stretch is put back into the cells: that machine's line is changed, and no other. Assumes nothing.
use mathlib.Core.Path.{◌≡◌, refl, sym, ap, ◌∙◌, subst}
use mathlib.Core.List.{List, [], ◌∷◌, ◌++◌}
use Prim.Native.Nat.{ℕ, zero, suc, ◌+◌, ◌*◌, ◌-◌, ◌≤◌, ◌<◌}
use native.Mathlib.Omega.{arith}
use lib.ListN.{length, get_or, set, take, drop, length-append, length-drop, get_or-append}
use lib.Seq.{length-take-le, take_all, take_at, take-take, get_or-take, get_or-drop, get_or-append-add, get_or-set_same, get_or-set_other, set-get_or}
use Rattle.graph.proofs.CountingLaws.{either}
use Rattle.lines.specs.Lines.{Lines, cells_from, lines_from, lines_in, Fit}
use Rattle.lines.proofs.StretchLaws.{cells-length, line_in}
use Rattle.moves.specs.Moves.{remove_at, insert_at, line_of, left, joined, Holds}
use Rattle.moves.proofs.LineLaws.{length_remove, length_insert}

-- ---- what stands in a list with its part from a on, k long, replaced

module _ (xs part : List ℕ) (a k : ℕ) (within : a + k ≤ length xs) (long : length part ≡ k) where
  abbrev replaced : List ℕ
  replaced = take a xs ++ (part ++ drop k (drop a xs))

  front_long : length (take a xs) ≡ a
  front_long = length-take-le a xs (omega arith)

  in_front : (i : ℕ) → i < a → get_or replaced i 0 ≡ get_or xs i 0
  in_front i h =
      get_or-append (take a xs) (part ++ drop k (drop a xs)) 0 i (omega (arith, front_long)) ∙ get_or-take a xs i 0 h

  in_part : (i : ℕ) → i < k → get_or replaced (a + i) 0 ≡ get_or part i 0
  in_part i h =
      ap (λ (p : ℕ). get_or replaced (p + i) 0) (sym front_long)
      ∙ get_or-append-add (take a xs) (part ++ drop k (drop a xs)) i 0
      ∙ get_or-append part (drop k (drop a xs)) 0 i (omega arith)

  behind : (j : ℕ) → get_or replaced (a + (k + j)) 0 ≡ get_or xs (a + (k + j)) 0
  behind j =
      ap (λ (p : ℕ). get_or replaced (p + (k + j)) 0) (sym front_long)
      ∙ get_or-append-add (take a xs) (part ++ drop k (drop a xs)) (k + j) 0
      ∙ ap (λ (p : ℕ). get_or (part ++ drop k (drop a xs)) (p + j) 0) (sym long)
      ∙ get_or-append-add part (drop k (drop a xs)) j 0
      ∙ get_or-drop k (drop a xs) j 0
      ∙ get_or-drop a xs (k + j) 0

  in_back : (i : ℕ) → a + k ≤ i → get_or replaced i 0 ≡ get_or xs i 0
  in_back i h =
      let e : i ≡ a + (k + (i - (a + k))) = omega arith in
      ap (λ (p : ℕ). get_or replaced p 0) e ∙ behind (i - (a + k)) ∙ ap (λ (p : ℕ). get_or xs p 0) (sym e)

-- ---- cells that agree hold the same lines

cells_same : (cells cells' : List ℕ) (at len : ℕ) → ((i : ℕ) → i < len → get_or cells' (at + i) 0 ≡ get_or cells (at + i) 0) → cells_from cells' at len ≡ cells_from cells at len
unfolding cells_from
cells_same cells cells' at zero h = refl
cells_same cells cells' at (suc len) h =
    let e : at + 0 ≡ at = omega arith in
    let z : get_or cells' at 0 ≡ get_or cells at 0 = subst (λ (p : ℕ). get_or cells' p 0 ≡ get_or cells p 0) e (h 0 (omega arith)) in
    rw
    (z, cells_same cells cells' (at + 1) len (λ i k. let e : at + suc i ≡ at + 1 + i = omega arith in subst (λ (p : ℕ). get_or cells' p 0 ≡ get_or cells p 0) e (h (suc i) (omega arith))))

cells_line : (cells line : List ℕ) (at : ℕ) → ((i : ℕ) → i < length line → get_or cells (at + i) 0 ≡ get_or line i 0) → cells_from cells at (length line) ≡ line
unfolding cells_from
cells_line cells [] at h = refl
cells_line cells (x ∷ line) at h =
    let e : at + 0 ≡ at = omega arith in
    let z : get_or cells at 0 ≡ x = subst (λ (p : ℕ). get_or cells p 0 ≡ x) e (h 0 (omega arith)) in
    rw
    (z, cells_line cells line (at + 1) (λ i k. let e : at + suc i ≡ at + 1 + i = omega arith in subst (λ (p : ℕ). get_or cells p 0 ≡ get_or line i 0) e (h (suc i) (omega arith))))

lines_same : (cells cells' lens : List ℕ) (at : ℕ) → ((i : ℕ) → at ≤ i → get_or cells' i 0 ≡ get_or cells i 0) → lines_from cells' at lens ≡ lines_from cells at lens
unfolding lines_from
lines_same cells cells' [] at h = refl
lines_same cells cells' (len ∷ lens) at h =
    rw
    (cells_same cells cells' at len (λ i k. h (at + i) (omega arith)), lines_same cells cells' lens (at + 128) (λ i k. h i (omega arith)))

lines_put : (cells cells' line lens : List ℕ) (m at : ℕ) → m < length lens → Fit lens
    → ((i : ℕ) → i < at + 128 * m → get_or cells' i 0 ≡ get_or cells i 0)
    → ((i : ℕ) → at + 128 * m + 128 ≤ i → get_or cells' i 0 ≡ get_or cells i 0)
    → ((i : ℕ) → i < length line → get_or cells' (at + 128 * m + i) 0 ≡ get_or line i 0)
    → lines_from cells' at (set lens m (length line)) ≡ set (lines_from cells at lens) m line
unfolding lines_from
lines_put cells cells' line [] m at h fit front back mine = absurd (omega arith)
lines_put cells cells' line (len ∷ lens) zero at h fit front back mine =
    rw
    (cells_line cells' line at (λ i k. let e : at + 128 * 0 + i ≡ at + i = omega arith in subst (λ (p : ℕ). get_or cells' p 0 ≡ get_or line i 0) e (mine i k)), lines_same cells cells' lens (at + 128) (λ i k. back i (omega arith)))
lines_put cells cells' line (len ∷ lens) (suc m) at h fit front back mine =
    rw
    (cells_same cells cells' at len (λ i k. front (at + i) (omega (arith, fit 0))))
    (ap (λ (l : Lines). cells_from cells at len ∷ l)
    (lines_put cells cells' line lens m (at + 128) (omega arith) (λ i. fit (suc i)) (λ i k. front i (omega arith)) (λ i k. back i (omega arith)) (λ i k. let e : at + 128 * suc m + i ≡ at + 128 + 128 * m + i = omega arith in subst (λ (p : ℕ). get_or cells' p 0 ≡ get_or line i 0) e (mine i k))))

-- one length changed
pub fit_set : (lens : List ℕ) (m len : ℕ) → m < length lens → Fit lens → len ≤ 128 → Fit (set lens m len)
fit_set lens m len h fit k x =
    either x m
    (λ e. subst (λ (y : ℕ). get_or (set lens m len) y 0 ≤ 128) (sym e) (omega (arith, get_or-set_same lens m len 0 h)))
    (λ ne. omega (arith, fit x, get_or-set_other lens m x len 0 ne))

-- a line is as long as its length says
lines_long : (cells : List ℕ) (at : ℕ) (lens : List ℕ) (m : ℕ) → length (line_of (lines_from cells at lens) m) ≡ get_or lens m 0
unfolding lines_from
lines_long cells at [] m = refl
lines_long cells at (len ∷ lens) zero = cells-length cells at len
lines_long cells at (len ∷ lens) (suc m) = lines_long cells (at + 128) lens m

pub line_long : (cells lens : List ℕ) (m : ℕ) → length (line_of (lines_in cells lens) m) ≡ get_or lens m 0
line_long cells lens m = lines_long cells 0 lens m

lines_many : (cells : List ℕ) (at : ℕ) (lens : List ℕ) → length (lines_from cells at lens) ≡ length lens
unfolding lines_from
lines_many cells at [] = refl
lines_many cells at (len ∷ lens) = ap suc (lines_many cells (at + 128) lens)

-- there are as many lines as lengths
pub many_in : (cells lens : List ℕ) → length (lines_in cells lens) ≡ length lens
many_in cells lens = lines_many cells 0 lens

-- ---- machine m's line

module _ {cells lens : List ℕ} (held : Holds cells lens) (m : ℕ) (h : m < 16) where
  roomy : length cells ≡ 2048
  roomy = held.roomy

  sixteen : length lens ≡ 16
  sixteen = held.sixteen

  fit : Fit lens
  fit = held.fit

  -- a part of the stretch, as the code lends it
  pub part_long : (k to : ℕ) → to ≡ 128 * m + k → k ≤ 128 → length (take (to - 128 * m) (drop (128 * m) cells)) ≡ k
  part_long k to e b =
      let q : to - 128 * m ≡ k = omega arith in
      rw q (length-take-le k (drop (128 * m) cells) (omega (arith, length-drop (128 * m) cells)))

  pub part_is : (to : ℕ) → to ≡ 128 * m + get_or lens m 0 → take (to - 128 * m) (drop (128 * m) cells) ≡ line_of (lines_in cells lens) m
  part_is to e =
      let q : to - 128 * m ≡ get_or lens m 0 = omega arith in
      rw q (sym (line_in cells lens m (omega arith) (omega (arith, fit m))))

  -- the buffer is as long as before
  pub still_roomy : (to : ℕ) (out : List ℕ) → 128 * m ≤ to → to ≤ 2048 → length out ≡ length (take (to - 128 * m) (drop (128 * m) cells))
      → length (take (128 * m) cells ++ (out ++ drop (to - 128 * m) (drop (128 * m) cells))) ≡ 2048
  still_roomy to out a b e =
      let d = length-drop (128 * m) cells in
      let part = drop (128 * m) cells in
      omega
      (arith, length-append (take (128 * m) cells) (out ++ drop (to - 128 * m) part), length-append out (drop (to - 128 * m) part), length-take-le (128 * m) cells (omega arith), length-drop (to - 128 * m) part, length-take-le (to - 128 * m) part (omega arith))

  put : (k to len : ℕ) (part : List ℕ) → to ≡ 128 * m + k → k ≤ 128 → length part ≡ k → len ≤ k
      → lines_in (take (128 * m) cells ++ (part ++ drop (to - 128 * m) (drop (128 * m) cells))) (set lens m len) ≡ set (lines_in cells lens) m (take len part)
  put k to len part e b long w =
      let q : to - 128 * m ≡ k = omega arith in
      let n : length (take len part) ≡ len = length-take-le len part (omega arith) in
      let inside : 128 * m + k ≤ length cells = omega arith in
      rw q
      (ap (λ (x : ℕ). lines_in (replaced cells part (128 * m) k inside long) (set lens m x)) (sym n)
      ∙ lines_put cells (replaced cells part (128 * m) k inside long) (take len part) lens m 0 (omega arith) fit (λ i g. in_front cells part (128 * m) k inside long i (omega arith)) (λ i g. in_back cells part (128 * m) k inside long i (omega arith)) (λ i g. let z : 0 + 128 * m + i ≡ 128 * m + i = omega arith in rw z (in_part cells part (128 * m) k inside long i (omega arith) ∙ sym (get_or-take len part i 0 (omega arith)))))

  -- a line that stays as long as it was
  pub line_put : (f : List ℕ → List ℕ) (out : List ℕ) (to : ℕ) → to ≡ 128 * m + get_or lens m 0 → out ≡ f (take (to - 128 * m) (drop (128 * m) cells))
      → length (f (line_of (lines_in cells lens) m)) ≡ length (line_of (lines_in cells lens) m)
      → lines_in (take (128 * m) cells ++ (out ++ drop (to - 128 * m) (drop (128 * m) cells))) lens ≡ set (lines_in cells lens) m (f (line_of (lines_in cells lens) m))
  line_put f out to e o g =
      let is : out ≡ f (line_of (lines_in cells lens) m) = o ∙ ap f (part_is to e) in
      let long : length out ≡ get_or lens m 0 = ap length is ∙ g ∙ line_long cells lens m in
      sym (ap (λ (l : List ℕ). lines_in (take (128 * m) cells ++ (out ++ drop (to - 128 * m) (drop (128 * m) cells))) l) (set-get_or lens m 0))
      ∙ put (get_or lens m 0) to (get_or lens m 0) out e (fit m) long (omega arith)
      ∙ ap (λ (l : List ℕ). set (lines_in cells lens) m l) (take_all (get_or lens m 0) out (omega arith) ∙ is)

  -- one taken out, and left behind the others
  pub left_put : (i : ℕ) (out : List ℕ) (to len : ℕ) → to ≡ 128 * m + get_or lens m 0 → len ≡ get_or lens m 0 - 1 → i < length (line_of (lines_in cells lens) m)
      → out ≡ remove_at (take (to - 128 * m) (drop (128 * m) cells)) i ++ (get_or (take (to - 128 * m) (drop (128 * m) cells)) i 0 ∷ [])
      → lines_in (take (128 * m) cells ++ (out ++ drop (to - 128 * m) (drop (128 * m) cells))) (set lens m len) ≡ left (lines_in cells lens) m i
  left_put i out to len e z b o =
      let l = line_of (lines_in cells lens) m in
      let is : out ≡ remove_at l i ++ (get_or l i 0 ∷ []) = o ∙ ap (λ (p : List ℕ). remove_at p i ++ (get_or p i 0 ∷ [])) (part_is to e) in
      let short : length (remove_at l i) ≡ len = omega (arith, length_remove l i b, line_long cells lens m) in
      let long : length out ≡ get_or lens m 0 =
      omega (arith, ap length is, length-append (remove_at l i) (get_or l i 0 ∷ []), length_remove l i b, line_long cells lens m) in
      put (get_or lens m 0) to len out e (fit m) long (omega arith)
      ∙ ap (λ (l : List ℕ). set (lines_in cells lens) m l) (ap (take len) is ∙ take_at (remove_at l i) (get_or l i 0 ∷ []) len short)

  -- one put in, with a cell more lent
  pub joined_put : (i a : ℕ) (out : List ℕ) (to : ℕ) → to ≡ 128 * m + (get_or lens m 0 + 1) → get_or lens m 0 < 128
      → out ≡ insert_at (take (length (take (to - 128 * m) (drop (128 * m) cells)) - 1) (take (to - 128 * m) (drop (128 * m) cells))) i a
      → lines_in (take (128 * m) cells ++ (out ++ drop (to - 128 * m) (drop (128 * m) cells))) (set lens m (get_or lens m 0 + 1)) ≡ joined (lines_in cells lens) m i a
  joined_put i a out to e b o =
      let k = get_or lens m 0 in
      let l = line_of (lines_in cells lens) m in
      let n : length (take (to - 128 * m) (drop (128 * m) cells)) - 1 ≡ k = omega (arith, part_long (k + 1) to e (omega arith)) in
      let q : 128 * m + k - 128 * m ≡ k = omega arith in
      let p : take (128 * m + k - 128 * m) (drop (128 * m) cells) ≡ l = part_is (128 * m + k) refl in
      let rest : take k (take (to - 128 * m) (drop (128 * m) cells)) ≡ l =
      take-take k (to - 128 * m) (drop (128 * m) cells) (omega arith) ∙ (rw q at p) in
      let is : out ≡ insert_at l i a = o ∙ rw (n, rest) in
      let long : length out ≡ k + 1 = omega (arith, ap length is, length_insert l i a, line_long cells lens m) in
      put (k + 1) to (k + 1) out e (omega arith) long (omega arith)
      ∙ ap (λ (l : List ℕ). set (lines_in cells lens) m l) (take_all (k + 1) out (omega arith) ∙ is)
