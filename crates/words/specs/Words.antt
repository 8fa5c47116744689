-- Stored bytes are little-endian 32-bit words: four bytes each, the lowest first. Up to three bytes at the end are in no word.
use Rattle.std.specs.Prelude.{ℕ, ◌+◌, ◌*◌, ◌/◌, ◌%◌, ◌<◌, List, [], ◌∷◌, ◌++◌}
use Rattle.words.specs.Text.{written}

-- The word of four bytes, and the four bytes of a word.
abbrev pub le32 : ℕ → ℕ → ℕ → ℕ → ℕ
le32 a b c d = a + 256 * b + 65536 * c + 16777216 * d

abbrev pub bytes4 : ℕ → List ℕ
bytes4 w = w % 256 ∷ w / 256 % 256 ∷ w / 65536 % 256 ∷ w / 16777216 ∷ []

-- The whole words of a list of bytes, in order.
unfoldable pub words : List ℕ → List ℕ
words [] = []
words (a ∷ []) = []
words (a ∷ b ∷ []) = []
words (a ∷ b ∷ c ∷ []) = []
words (a ∷ b ∷ c ∷ d ∷ s) = le32 a b c d ∷ words s

-- The bytes of a list of words.
unfoldable pub bytes_of : List ℕ → List ℕ
bytes_of [] = []
bytes_of (w ∷ ws) = bytes4 w ++ bytes_of ws

-- The bytes once word k is w; the same bytes where there is no whole word k.
unfoldable pub put_word : List ℕ → ℕ → ℕ → List ℕ
put_word s k w = written s (4 * k) (bytes4 w)

-- Every number of a list is below n.
abbrev pub Below : ℕ → List ℕ → Type 0
Below n [] = Unit {0}
Below n (a ∷ s) = (a < n) × Below n s
