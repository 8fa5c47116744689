-- What the functions of a step ask: lines in cells, and room.
use Rattle.std.specs.Prelude.{ℕ, ◌≤◌, ◌≡◌, List, length}
use Rattle.lines.specs.Lines.{lines_in, WellFormed}

-- Cells and lengths that hold lines of n activities on R machines.
pub record Lined (n R : ℕ) (cells lens : List ℕ) : Type 0 where
  pub roomy : length cells ≡ 2048
  pub sixteen : length lens ≡ 16
  pub well : WellFormed n R (lines_in cells lens)

-- Room for what a step finds out: links, the path, tails, and heads.
pub record Space (n : ℕ) (before after machines places path tail heads : List ℕ) : Type 0 where
  pub length_before : length before ≡ n
  pub length-after : length after ≡ n
  pub length-machines : length machines ≡ n
  pub length-places : length places ≡ n
  pub length_path : length path ≡ n
  pub length_tail : length tail ≡ n
  pub length_heads : 128 ≤ length heads
