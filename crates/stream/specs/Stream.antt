-- What is known of the next plan of a stream: its length is within the buffer; and where the reader's bytes are known, it is the bytes that
-- follow the word of its length.
use Rattle.std.specs.Prelude.{List, ℕ, ◌≡◌, ◌+◌, ◌<◌, ◌≤◌, ◌⊎◌, ◌++◌, length, take, get_or, IfSome, Option, Some, None}
use Rattle.std.specs.Io.KnownBytes.{Consumes}
use Rattle.words.specs.Words.{words}

-- The first n numbers of a line can be taken, and are n.
abbrev pub IsPrefixLen : ℕ → (line : List ℕ) → Type 0
IsPrefixLen n line = (n ≤ length line) × (n ≡ length (take n line))

abbrev pub Lies : Option ℕ → (line : List ℕ) → Type 0
Lies None line = Unit {0}
Lies (Some n) line = IsPrefixLen n line

-- The reader's bytes begin with those at the start of the buffer, up to some place, and it has lost just these.
abbrev pub Leaves : (before after : Option (List ℕ)) → (buf : List ℕ) → Type 0
Leaves before after buf = (n : ℕ) × (n ≤ length buf) × Consumes before after (take n buf)

-- The reader has lost its bytes up to some place, and none behind it.
abbrev pub Loses : (before after : Option (List ℕ)) → Type 0
Loses before after = (bytes : List ℕ) × Consumes before after bytes

-- The word of a plan's length, which stands in front of it.
abbrev pub size_word : List ℕ → ℕ
size_word bytes = get_or (words (take 4 bytes)) 0 0

-- No whole plan that has room in the buffer.
abbrev pub HoldsNone : (room : ℕ) → List ℕ → Type 0
HoldsNone room bytes = (length bytes < 4) ⊎ (room < size_word bytes) ⊎ (length bytes < 4 + size_word bytes)

-- The reader has lost the word of the plan's length and the plan, which is what the buffer begins with.
abbrev pub HasRead : (before after : Option (List ℕ)) → ℕ → (line : List ℕ) → Type 0
HasRead before after n line = (head : List ℕ) × (length head ≡ 4) × (get_or (words head) 0 0 ≡ n) × Consumes before after (head ++ take n line)

abbrev pub Takes : (before after : Option (List ℕ)) → Option ℕ → (line : List ℕ) → Type 0
Takes before after None line = IfSome before (HoldsNone (length line))
Takes before after (Some n) line = HasRead before after n line
