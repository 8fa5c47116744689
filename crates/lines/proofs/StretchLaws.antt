-- How a buffer holds lines: a stretch is a part of it, and machine by machine the lines that are left. Assumes nothing.
use mathlib.Core.Path.{◌≡◌, refl, sym, ap, ◌∙◌}
use mathlib.Core.List.{List, [], ◌∷◌}
use Prim.Native.Nat.{ℕ, zero, suc, ◌+◌, ◌*◌, ◌-◌, ◌≤◌, ◌<◌}
use native.Mathlib.Numerals.{add-one}
use native.Mathlib.Omega.{arith}
use lib.ListN.{length, get_or, take, drop}
use lib.Seq.{drop-cons, drop-length}
use Rattle.lines.specs.Lines.{Lines, cells_from, lines_from, lines_in, lengths}

pub cells-length : (cells : List ℕ) (at len : ℕ) → length (cells_from cells at len) ≡ len
unfolding cells_from
cells-length cells at zero = refl
cells-length cells at (suc len) = ap suc (cells-length cells (at + 1) len)

pub lengths_in : (cells : List ℕ) (at : ℕ) (lens : List ℕ) → lengths (lines_from cells at lens) ≡ lens
unfolding lines_from
lengths_in cells at [] = refl
lengths_in cells at (len ∷ lens) = rw (cells-length cells at len, lengths_in cells (at + 128) lens)

-- where the buffer reaches so far, the cells of a line are a part of it
pub cells_part : (cells : List ℕ) (at len : ℕ) → at + len ≤ length cells → cells_from cells at len ≡ take len (drop at cells)
unfolding cells_from
cells_part cells at zero h = refl
cells_part cells at (suc len) h =
    let k : at < length cells = omega arith in
    rw (drop-cons cells at 0, ← add-one at) (ap (λ (l : List ℕ). get_or cells at 0 ∷ l) (cells_part cells (at + 1) len (omega arith)))

-- .. as the code lends it, between two places
pub part_cells : (cells : List ℕ) (at len to : ℕ) → to ≡ at + len → to ≤ length cells → take (to - at) (drop at cells) ≡ cells_from cells at len
part_cells cells at len to e h =
    let q : to - at ≡ len = omega arith in rw q (sym (cells_part cells at len (omega arith)))

-- the lines from machine m on
abbrev pub lines_left : (cells lens : List ℕ) → ℕ → Lines
lines_left cells lens m = lines_from cells (128 * m) (drop m lens)

pub left_next : (cells lens : List ℕ) (m : ℕ) → m < length lens
    → lines_left cells lens m ≡ cells_from cells (128 * m) (get_or lens m 0) ∷ lines_left cells lens (m + 1)
unfolding lines_from
left_next cells lens m h =
    let e : 128 * m + 128 ≡ 128 * (m + 1) = omega arith in
    rw (drop-cons lens m 0) (ap (λ (l : Lines). cells_from cells (128 * m) (get_or lens m 0) ∷ l) (ap (λ (k : ℕ). lines_from cells (128 * m + 128) (drop k lens)) (sym (add-one m)) ∙ ap (λ (k : ℕ). lines_from cells k (drop (m + 1) lens)) e))

pub left_none : (cells lens : List ℕ) (m : ℕ) → m ≡ length lens → lines_left cells lens m ≡ []
unfolding lines_from
left_none cells lens m e = rw (e, drop-length lens)

-- line m is the used part of its stretch
lines_at : (cells : List ℕ) (at : ℕ) (lens : List ℕ) (m : ℕ) → get_or (lines_from cells at lens) m [] ≡ cells_from cells (at + 128 * m) (get_or lens m 0)
unfolding lines_from cells_from
lines_at cells at [] m = refl
lines_at cells at (len ∷ lens) zero = let e : at ≡ at + 128 * 0 = omega arith in ap (λ (k : ℕ). cells_from cells k len) e
lines_at cells at (len ∷ lens) (suc m) =
    let e : at + 128 + 128 * m ≡ at + 128 * suc m = omega arith in
    lines_at cells (at + 128) lens m ∙ ap (λ (k : ℕ). cells_from cells k (get_or lens m 0)) e

pub line_cells : (cells lens : List ℕ) (m : ℕ) → get_or (lines_in cells lens) m [] ≡ cells_from cells (128 * m) (get_or lens m 0)
line_cells cells lens m =
    let e : 0 + 128 * m ≡ 128 * m = omega arith in
    lines_at cells 0 lens m ∙ ap (λ (p : ℕ). cells_from cells p (get_or lens m 0)) e

pub line_in : (cells lens : List ℕ) (m : ℕ) → m < length lens → 128 * m + get_or lens m 0 ≤ length cells
    → get_or (lines_in cells lens) m [] ≡ take (get_or lens m 0) (drop (128 * m) cells)
line_in cells lens m h k = line_cells cells lens m ∙ cells_part cells (128 * m) (get_or lens m 0) k
