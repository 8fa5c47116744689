-- A text that stands in a line from a place on, where it fits, and the place after it.
use Rattle.std.specs.Prelude.{ℕ, ◌+◌, ◌≡◌, List, length}
use Rattle.words.specs.Text.{written}

-- The line before, the place, the text; the line with it, and the place after.
pub record Put (before : List ℕ) (at : ℕ) (text line : List ℕ) (place : ℕ) : Type 0 where
  pub holds : line ≡ written before at text
  pub ends : place ≡ at + length text
