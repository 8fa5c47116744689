-- Document 01, "The input, word by word": Order and Assignment are the last two sections, each its count and then a word an entry. A plan with
-- another Order and Assignment is what stands before them, then the new two.
use Rattle.std.specs.Prelude.{ℕ, ◌%◌, ◌^◌, List, [], ◌∷◌, ◌++◌, length}
use Rattle.words.specs.Words.{bytes_of}

-- Numbers as words: a number from 2^32 on loses its higher bits. Task numbers, machines and their counts are far below.
unfoldable pub low_words : List ℕ → List ℕ
low_words [] = []
low_words (x ∷ xs) = x % 2 ^ 32 ∷ low_words xs

-- A section of a word an entry.
unfoldable pub section : List ℕ → List ℕ
section xs = bytes_of (low_words (length xs ∷ xs))

unfoldable pub renewed_bytes : (before tasks machines : List ℕ) → List ℕ
renewed_bytes before tasks machines = before ++ section tasks ++ section machines
