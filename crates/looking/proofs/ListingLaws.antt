-- The block moves of a path, run after run, and the shifts of a block, one after the other.
use Prim.Native.Nat.{ℕ, suc, ◌+◌, ◌-◌, ◌*◌, ◌≤◌, ◌<◌}
use mathlib.Core.Path.{◌≡◌, ap, ◌∙◌}
use mathlib.Core.List.{List, [], ◌∷◌, ◌++◌, append-nil}
use native.Mathlib.Omega.{arith}
use borrow.Author.Tests.{eqb-true, lt-ltb, le-ltb}
use lib.Dec.{eqb}
use lib.ListN.{length, get_or, drop, length-append}
use lib.Seq.{drop-length}
use Rattle.graph.proofs.CountingLaws.{either}
use Rattle.moves.specs.declared.Move.TheVariants.{Swap, Shift}
use Rattle.blocks.specs.BlockMoves.{Block, block, closed, goes_on', blocks_from, blocks_by, begun, shifts}
use Rattle.blocks.specs.Scanning.{Run, own_moves, own_moves_of_all}
use Rattle.blocks.proofs.RunLaws.{both_true, run_many, few_moves}
use Rattle.blocks.proofs.OnceLaws.{split, own_append}
use Rattle.looking.specs.Rows.{row_of, rows_of}
use Rattle.looking.proofs.RowLaws.{rows_append}

-- ---- shifts

pub shifts_next : (m to i end : ℕ) → i < end
    → rows_of (shifts m to i (end - i)) ≡ row_of (Shift m i to) ++ rows_of (shifts m to (i + 1) (end - (i + 1)))
unfolding rows_of shifts
shifts_next m to i end h =
    let a : end - i ≡ suc (end - (i + 1)) = omega arith in
    let b : i + 1 ≡ suc i = omega arith in
    ap (λ (c : ℕ). rows_of (shifts m to i c)) a ∙ rw b

pub shifts_end : (m to i end : ℕ) → end ≤ i → rows_of (shifts m to i (end - i)) ≡ []
unfolding rows_of shifts
shifts_end m to i end h = let a : end - i ≡ 0 = omega arith in rw a

-- ---- a block

-- The two swaps of a block of two are one move.
pub pair_rows : (m f l : ℕ) → l ≤ f + 1 → rows_of (own_moves (block m f l)) ≡ row_of (Swap m f)
unfolding rows_of
pair_rows m f l h = rw (le-ltb (f + 1) l h)

pub more_rows : (m f l : ℕ) → f + 1 < l
    → rows_of (own_moves (block m f l))
    ≡ row_of (Swap m f) ++ (row_of (Swap m (l - 1)) ++ (rows_of (shifts m f (f + 2) (l + 1 - (f + 2))) ++ rows_of (shifts m l f (l - 1 - f))))
unfolding rows_of
more_rows m f l h =
    let a : l + 1 - (f + 2) ≡ l - f - 1 = omega arith in
    let b : l - 1 - f ≡ l - f - 1 = omega arith in
    rw (lt-ltb (f + 1) l h, a, b)
    (ap (λ (k : List ℕ). row_of (Swap m f) ++ (row_of (Swap m (l - 1)) ++ k)) (rows_append (shifts m f (f + 2) (l - f - 1)) (shifts m l f (l - f - 1))))

-- .. and how many cells they take.
pub more_long : (m f l : ℕ) → f + 1 < l
    → length (rows_of (own_moves (block m f l))) ≡ 12 + (length (rows_of (shifts m f (f + 2) (l + 1 - (f + 2)))) + length (rows_of (shifts m l f (l - 1 - f))))
more_long m f l h =
    omega (arith, ap length (more_rows m f l h), length-append (rows_of (shifts m f (f + 2) (l + 1 - (f + 2)))) (rows_of (shifts m l f (l - 1 - f))))

pub block_room : (m f l : ℕ) → 6 ≤ length (rows_of (own_moves (block m f l)))
block_room m f l =
    either (l - (f + 1)) 0
    (λ e. omega (arith, ap length (pair_rows m f l (omega arith))))
    (λ ne. omega (arith, more_long m f l (omega arith)))

-- ---- a run

pub own_none : (m f l : ℕ) → l ≤ f → rows_of (own_moves_of_all (closed (block m f l))) ≡ []
unfolding rows_of own_moves_of_all
own_none m f l h = rw (le-ltb f l h)

pub own_one : (m f l : ℕ) → f < l → rows_of (own_moves_of_all (closed (block m f l))) ≡ rows_of (own_moves (block m f l))
unfolding own_moves_of_all
own_one m f l h = rw (lt-ltb f l h) (ap rows_of (append-nil (own_moves (block m f l))))

-- ---- the path

module _ (machine position : ℕ → ℕ) where
  pub runs_next : {path : List ℕ} {i r : ℕ} → Run machine position path i r
      → rows_of (own_moves_of_all (blocks_by machine position (drop i path)))
      ≡ rows_of (own_moves_of_all (closed (block (machine (get_or path i 0)) (position (get_or path i 0)) (position (get_or path r 0)))))
      ++ rows_of (own_moves_of_all (blocks_by machine position (drop (r + 1) path)))
  runs_next {path} {i} {r} u =
      let one = closed (block (machine (get_or path i 0)) (position (get_or path i 0)) (position (get_or path r 0))) in
      let rest = blocks_by machine position (drop (r + 1) path) in
      ap (λ (l : List Block). rows_of (own_moves_of_all l)) u.first_block ∙ ap rows_of (own_append one rest) ∙ rows_append (own_moves_of_all one) (own_moves_of_all rest)

  pub runs_end : (path : List ℕ) (i : ℕ) → i ≡ length path → rows_of (own_moves_of_all (blocks_by machine position (drop i path))) ≡ []
  unfolding rows_of own_moves_of_all
  runs_end path i e =
      let n : drop i path ≡ [] = ap (λ (j : ℕ). drop j path) e ∙ drop-length path in
      rw n

  -- ---- how many: two for each activity at most

  few_from : (m f l : ℕ) (path : List ℕ) → length (own_moves_of_all (blocks_from machine position (block m f l) path)) ≤ 2 * (l - f) + 2 * length path
  unfolding blocks_from own_moves_of_all
  few_from m f l [] =
      omega (arith, run_many m f l [], ap (λ (x : List Block). length (own_moves_of_all x)) (append-nil (closed (block m f l))), few_moves (l - f))
  few_from m f l (b ∷ path) =
      split (goes_on' machine position (block m f l) b)
      (λ e.
      let both = both_true (eqb (machine b) m) (eqb (position b) (suc l)) e in
      let k : position b ≡ suc l = eqb-true (position b) (suc l) both.1 in
      rw e (omega (arith, k, few_from (machine b) f (position b) path)))
      (λ e.
      rw e
      (omega (arith, run_many m f l (blocks_from machine position (begun machine position b) path), few_moves (l - f), few_from (machine b) (position b) (position b) path)))

  pub few : (path : List ℕ) → length (own_moves_of_all (blocks_by machine position path)) ≤ 2 * length path
  unfolding own_moves_of_all
  few [] = omega arith
  few (a ∷ path) = omega (arith, few_from (machine a) (position a) (position a) path)
