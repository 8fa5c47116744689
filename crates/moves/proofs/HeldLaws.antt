-- A move and its reverse on lines held in cells: what `apply` asks and gives the second time. Assumes nothing.
use mathlib.Core.Path.{◌≡◌, sym, ap, ◌∙◌}
use mathlib.Core.List.{List}
use Prim.Native.Nat.{ℕ, ◌≤◌}
use native.Mathlib.Omega.{arith}
use lib.ListN.{length}
use Rattle.lines.specs.Lines.{lines_in, lengths, Fit}
use Rattle.lines.proofs.StretchLaws.{lengths_in}
use Rattle.moves.specs.declared.Move.{Move}
use Rattle.moves.specs.Moves.{line_of, applied, reversed, Fits}
use Rattle.moves.proofs.CellLaws.{line_long, many_in}
use Rattle.moves.proofs.MoveLaws.{undone, reversed-fits}

-- no line that fits its stretch is longer than it
pub short_in : (cells lens : List ℕ) → Fit lens → (m : ℕ) → length (line_of (lines_in cells lens) m) ≤ 128
short_in cells lens fit m = omega (arith, line_long cells lens m, fit m)

module _ (cells lens cells' lens' : List ℕ) (made : Move) (sixteen : length lens ≡ 16) (f : Fits made (lines_in cells lens))
    (there : lines_in cells' lens' ≡ applied made (lines_in cells lens)) where
  -- the move back can be made
  pub reversed_in : Fit lens → Fits (reversed made) (lines_in cells' lens')
  reversed_in fit =
      rw there (reversed-fits (lines_in cells lens) (many_in cells lens ∙ sixteen) made (short_in cells lens fit) f)

  -- once it is made, the lines are the old ones, and so are the lengths
  pub undone_in : (cells'' lens'' : List ℕ) → lines_in cells'' lens'' ≡ applied (reversed made) (lines_in cells' lens')
      → (lines_in cells'' lens'' ≡ lines_in cells lens) × (lens'' ≡ lens)
  undone_in cells'' lens'' back =
      let e : lines_in cells'' lens'' ≡ lines_in cells lens =
      back ∙ ap (applied (reversed made)) there ∙ undone (lines_in cells lens) (many_in cells lens ∙ sixteen) made f in
      (e, sym (lengths_in cells'' 0 lens'') ∙ ap lengths e ∙ lengths_in cells 0 lens)
