-- A text written over a line from a place on. A text that does not fit whole is not written at all: the line stays, and so does the place.
use Rattle.std.specs.Prelude.{ℕ, ◌+◌, Bool, cond, List, ◌++◌, length, take, drop, leb}

-- Whether n bytes from a place on are within a line of the length `room`.
abbrev pub fits : ℕ → ℕ → ℕ → Bool
fits room at n = leb (at + n) room

unfoldable pub written : List ℕ → ℕ → List ℕ → List ℕ
written line at text =
    cond (fits (length line) at (length text)) (take at line ++ text ++ drop (at + length text) line) line

-- The place after the text.
unfoldable pub place_after : List ℕ → ℕ → List ℕ → ℕ
place_after line at text = cond (fits (length line) at (length text)) (at + length text) at
