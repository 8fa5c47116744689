-- A word as a signed number, by two's complement: a word from 2^31 on stands for the number that is 2^32 less.
use Rattle.std.specs.Prelude.{ℕ, ◌-◌, ◌^◌, cond, ltb, ℤ, pos, negsuc}

-- `pos n` is n, and `negsuc n` is -1 - n.
abbrev pub signed_word : ℕ → ℤ
signed_word w = cond (ltb w (2 ^ 31)) (pos w) (negsuc (2 ^ 32 - 1 - w))

-- The word that stands for a number.
abbrev pub unsigned_word : ℤ → ℕ
unsigned_word (pos n) = n
unsigned_word (negsuc n) = 2 ^ 32 - 1 - n

-- A number, 0 where it is negative.
abbrev pub clamp : ℤ → ℕ
clamp (pos n) = n
clamp (negsuc n) = 0
