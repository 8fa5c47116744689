-- After a move the arrays hold its lines once those that it changed are linked again. Assumes nothing.
use mathlib.Core.Path.{◌≡◌, refl, sym, ap, ◌∙◌, subst}
use mathlib.Core.List.{List, []}
use Prim.Native.Nat.{ℕ, ◌+◌, ◌*◌, ◌-◌, ◌<◌}
use native.Mathlib.Omega.{arith}
use lib.ListN.{length, get_or, take, drop}
use lib.Seq.{get_or-set_other}
use Rattle.graph.specs.Counting.{Below}
use Rattle.lines.specs.Lines.{Lines, lines_in, WellFormed}
use Rattle.lines.specs.Linking.{Links, links_of, line_relinked, Roomy, LinesHeld}
use Rattle.lines.proofs.StretchLaws.{part_cells, line_cells}
use Rattle.lines.proofs.LinkingLoops.{fit_well}
use Rattle.lines.proofs.RelinkLaws.{relink_asks, one_relinked, two-relinked}
use Rattle.moves.specs.declared.Move.{Move}
use Rattle.moves.specs.declared.Move.TheVariants.{Swap, Shift, Reassign}
use Rattle.moves.specs.Moves.{swap_at, shifted, remove_at, insert_at, line_of, left, applied, Fits, Known}

-- a move that fits lines names machines that there are
pub known_fits : (made : Move) (lines : Lines) → Fits made lines → Known made
known_fits (Swap m i) lines f = f.machine
known_fits (Shift m i j) lines f = f.machine
known_fits (Reassign a r i q j) lines f = (f.old, f.new)

-- ---- `relink_on`

module _ {n : ℕ} (cells lens : List ℕ) (roomy : length cells ≡ 2048) (w : WellFormed n 16 (lines_in cells lens)) (m : ℕ) (h : m < 16) where
  -- the machine's line, as the code lends it
  abbrev pub lent : List ℕ
  lent = take (128 * m + get_or lens m 0 - 128 * m) (drop (128 * m) cells)

  lent_is : lent ≡ line_of (lines_in cells lens) m
  lent_is =
      part_cells cells (128 * m) (get_or lens m 0) (128 * m + get_or lens m 0) refl (omega (arith, fit_well cells lens w m)) ∙ sym (line_cells cells lens m)

  pub on_asks : {k : Links} → Roomy n k → Below (length k.before) lent × Below (length k.after) lent × Below (length k.machines) lent × Below (length k.places) lent
  on_asks r = rw lent_is (relink_asks w r m)

  pub on_relinked : (k : Links) {k' : Links} → k' ≡ line_relinked n m lent k → k' ≡ line_relinked n m (line_of (lines_in cells lens) m) k
  on_relinked k e = e ∙ ap (λ (l : List ℕ). line_relinked n m l k) lent_is

-- ---- `relink`

pub roomy_for : {n : ℕ} (before after machines places : List ℕ) → length before ≡ n → length after ≡ n → length machines ≡ n → length places ≡ n
    → Roomy n (links_of before after machines places)
roomy_for before after machines places b a m p =
    record { before = omega arith; after = omega arith; machines = omega arith; places = omega arith }

-- what a move leaves in the arrays
abbrev pub relinked : (n : ℕ) → Move → Lines → Links → Links
relinked n (Swap m i) lines k = line_relinked n m (line_of lines m) k
relinked n (Shift m i j) lines k = line_relinked n m (line_of lines m) k
relinked n (Reassign a r i q j) lines k = line_relinked n q (line_of lines q) (line_relinked n r (line_of lines r) k)

module _ {n : ℕ} {lines lines' : Lines} (w : WellFormed n 16 lines) (w' : WellFormed n 16 lines') {k : Links} (r : Roomy n k) (h : LinesHeld n lines k) where
  move_relinked : (made : Move) → lines' ≡ applied made lines → LinesHeld n lines' (relinked n made lines' k)
  move_relinked (Swap m i) e =
      one_relinked w w' r h m (λ x ne. ap (λ (l : Lines). line_of l x) e ∙ get_or-set_other lines m x (swap_at (line_of lines m) i) [] ne)
  move_relinked (Shift m i j) e =
      one_relinked w w' r h m (λ x ne. ap (λ (l : Lines). line_of l x) e ∙ get_or-set_other lines m x (shifted (line_of lines m) i j) [] ne)
  move_relinked (Reassign a o i q j) e =
      two-relinked w w' r h o q
      (λ x no nq.
      ap (λ (l : Lines). line_of l x) e
      ∙ get_or-set_other (left lines o i) q x (insert_at (line_of (left lines o i) q) j a) [] nq
      ∙ get_or-set_other lines o x (remove_at (line_of lines o) i) [] no)

  -- .. of the move that a match tells
  pub told-relinked : {made told : Move} {k' : Links} → made ≡ told → k' ≡ relinked n told lines' k → lines' ≡ applied made lines → LinesHeld n lines' k'
  told-relinked {made} {told} {k'} t x e =
      subst (LinesHeld n lines') (ap (λ (mv : Move). relinked n mv lines' k) t ∙ sym x) (move_relinked made e)
