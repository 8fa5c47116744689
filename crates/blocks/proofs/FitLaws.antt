-- Every block move fits the lines and leaves each activity on its machine, and so does each that is kept.
use Prim.Native.Nat.{ℕ, ◌+◌, ◌-◌, ◌<◌}
use mathlib.Core.Path.{sym}
use mathlib.Core.List.{List, [], ◌∷◌, map, append-nil}
use native.Mathlib.Omega.{arith}
use borrow.Author.Tests.{lt-ltb, le-ltb}
use lib.Dec.{leb}
use lib.ListN.{length}
use Rattle.graph.specs.Counting.{Below}
use Rattle.graph.proofs.CountingLaws.{either}
use Rattle.plan.specs.Problem.{Problem}
use Rattle.lines.specs.Lines.{Lines, machine_of, position_of}
use Rattle.moves.specs.Moves.{line_of, Fits, Within}
use Rattle.moves.specs.declared.Move.{Move}
use Rattle.moves.specs.declared.Move.TheVariants.{Swap}
use Rattle.ranking.specs.declared.held.Rated.{Rated}
use Rattle.ranking.specs.Ranking.{precedes, insert_by, sort_into}
use Rattle.path.specs.Placing.{Placing}
use Rattle.blocks.specs.BlockMoves.{block, closed, goes_on', begun, blocks_from, blocks, block_moves}
use Rattle.blocks.specs.Keeping.{as_given, estimated, keep_best_estimated}
use Rattle.blocks.specs.Scanning.{Pathed, own_moves, own_moves_of_all}
use Rattle.blocks.proofs.EveryLaws.{Every, none, also, every_append, every_take}
use Rattle.blocks.proofs.OnceLaws.{split, every_shift, goes_on, ends_there, at_end_lem, own_append}
use Rattle.blocks.proofs.PathLaws.{moves_once}

-- It fits, and whatever machines there are, it enters no other.
abbrev pub Inline : Lines → Move → Type 0
Inline lines y = Fits y lines × ((R : ℕ) → Within R y)

-- ---- a block

module _ (lines : Lines) (m f l : ℕ) (known : m < 16) (inside : l < length (line_of lines m)) where
  own_fit : f < l → Every (Inline lines) (own_moves (block m f l))
  own_fit h =
      let a : Inline lines (Swap m f) = (record { machine = known; next = omega arith }, λ R. tt) in
      let b : Inline lines (Swap m (l - 1)) = (record { machine = known; next = omega arith }, λ R. tt) in
      either (l - f) 1
      (λ e. rw (le-ltb (f + 1) l (omega arith)) (also a none))
      (λ ne.
      rw (lt-ltb (f + 1) l (omega arith))
      (also a (also b (every_append (every_shift (Inline lines) m f (f + 2) (l - f - 1) (λ i c d. (record { machine = known; from = omega arith; to = omega arith }, λ R. tt))) (every_shift (Inline lines) m l f (l - f - 1) (λ i c d. (record { machine = known; from = omega arith; to = inside }, λ R. tt)))))))

  closed_fit : Every (Inline lines) (own_moves_of_all (closed (block m f l)))
  unfolding own_moves_of_all
  closed_fit =
      either (l - f) 0
      (λ e. rw (le-ltb f l (omega arith)) none)
      (λ ne. rw (lt-ltb f l (omega arith), append-nil (own_moves (block m f l))) (own_fit (omega arith)))

-- ---- all blocks

module _ {n : ℕ} {lines : Lines} {path machines places : List ℕ} (k : Pathed n lines path machines places) where
  fit_from : (rest : List ℕ) (m f l : ℕ) → m < 16 → l < length (line_of lines m) → Below n rest
      → Every (Inline lines) (own_moves_of_all (blocks_from (machine_of lines) (position_of lines) (block m f l) rest))
  unfolding Below
  fit_from [] m f l known inside h =
      rw (at_end_lem (machine_of lines) (position_of lines) m f l, append-nil (closed (block m f l))) (closed_fit lines m f l known inside)
  fit_from (b ∷ rest) m f l known inside h =
      split (goes_on' (machine_of lines) (position_of lines) (block m f l) b)
      (λ e.
      rw (goes_on (machine_of lines) (position_of lines) m f l b rest e)
      (fit_from rest (machine_of lines b) f (position_of lines b) (k.known b h.0) (k.inside b h.0) h.1))
      (λ e.
      rw (ends_there (machine_of lines) (position_of lines) m f l b rest e, own_append (closed (block m f l)) (blocks_from (machine_of lines) (position_of lines) (begun (machine_of lines) (position_of lines) b) rest))
      (every_append (closed_fit lines m f l known inside) (fit_from rest (machine_of lines b) (position_of lines b) (position_of lines b) (k.known b h.0) (k.inside b h.0) h.1)))

  fit_by : (l : List ℕ) → Below n l → Every (Inline lines) (own_moves_of_all (blocks lines l))
  unfolding own_moves_of_all Below
  fit_by [] h = none
  fit_by (a ∷ l) h =
      fit_from l (machine_of lines a) (position_of lines a) (position_of lines a) (k.known a h.0) (k.inside a h.0) h.1

  pub moves_fit : Every (Inline lines) (block_moves lines path)
  moves_fit = rw (sym (moves_once k)) (fit_by path k.path_known)

-- ---- those kept

module _ {P : Rated → Type 0} where
  every_insert : (x : Rated) (l : List Rated) → P x → Every P l → Every P (insert_by precedes x l)
  unfolding insert_by
  every_insert x [] h none = also h none
  every_insert x (y ∷ l) h (also k ks) =
      split (precedes x y) (λ e. rw e (also h (also k ks))) (λ e. rw e (also k (every_insert x l h ks)))

  every_sort : (sorted l : List Rated) → Every P sorted → Every P l → Every P (sort_into precedes sorted l)
  unfolding sort_into
  every_sort sorted [] h none = h
  every_sort sorted (x ∷ l) h (also k ks) = every_sort (insert_by precedes x sorted) l (every_insert x sorted k h) ks

  every_rated : (f : Move → Rated) (Q : Move → Type 0) → ((y : Move) → Q y → P (f y)) → (l : List Move) → Every Q l → Every P (map f l)
  every_rated f Q g [] none = none
  every_rated f Q g (y ∷ l) (also h hs) = also (g y h) (every_rated f Q g l hs)

pub kept_fit : (p : Problem) (lines : Lines) (s : Placing) (tail : List ℕ) (moves : List Move) → Every (Inline lines) moves
    → Every (λ r. Inline lines r.made) (keep_best_estimated p lines s tail moves)
kept_fit p lines s tail moves h =
    split (leb (length moves) 3)
    (λ e. rw e (every_rated as_given (Inline lines) (λ y k. k) moves h))
    (λ e.
    rw e
    (every_take 3 (every_sort [] (map (estimated p lines s tail) moves) none (every_rated (estimated p lines s tail) (Inline lines) (λ y k. k) moves h))))
