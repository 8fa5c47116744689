-- What the active decoder's functions ask of their slices.
use Rattle.std.specs.Prelude.{ℕ, ◌≤◌, ◌<◌, ◌^◌, ◌≡◌, List, Option, length, get_or}
use Rattle.plan.specs.Problem.{Problem, Genes}
use Rattle.board.specs.Board.{Board, empty_board}
use Rattle.board.specs.Sound.{Sized}
use Rattle.active.specs.Kept.{Manned, Kept, Fresh}

-- Ends that are small, and a cell for each machine and task.
pub record Timely (n : ℕ) (ends lines steps : List ℕ) : Type 0 where
  pub ended : length ends ≡ n
  pub small : (q : ℕ) → get_or ends q 0 < 2 ^ 61
  pub lined : length lines ≡ 16
  pub stepped : length steps ≡ 32

-- What a choice looks at: the ranks, machines, times and links of a sound board, its flags, and what is kept.
pub record Chosen (p : Problem) (g : Genes) (ranks : List ℕ) (on : List (Option ℕ)) (ends lines steps settled kept : List ℕ) : Type 0 where
  pub ranked : length ranks ≡ 128
  pub manned : Manned g p.n on
  pub timely : Timely p.n ends lines steps
  pub flags : length settled ≡ p.n
  pub keeping : Kept p g kept ends lines steps settled

-- A board on which nothing stands, room for n rows, a rank and a machine for each, and nothing kept.
pub record Begun (p : Problem) (g : Genes) (ranks : List ℕ) (on : List (Option ℕ)) (order kept : List ℕ) (b : Board) : Type 0 where
  pub ranked : length ranks ≡ 128
  pub manned : Manned g p.n on
  pub roomy : p.n ≤ length order
  pub fresh : Fresh p kept
  pub empty : b ≡ empty_board p.n

-- Cells for a board and for its rows, a rank and a machine for each, and nothing kept.
pub record Started (p : Problem) (g : Genes) (ranks : List ℕ) (on : List (Option ℕ)) (order kept : List ℕ) (b : Board) : Type 0 where
  pub ranked : length ranks ≡ 128
  pub manned : Manned g p.n on
  pub roomy : p.n ≤ length order
  pub fresh : Fresh p kept
  pub sized : Sized p.n b
