-- Document 01, "Plans to hold on the card board": what the program prints, byte by byte. A blank is 32, the end of a line 10.
use Rattle.std.specs.Prelude.{ℕ, zero, suc, List, [], ◌∷◌, ◌++◌, length, get_or}
use Rattle.words.specs.Digits.{decimal, hex16}

-- A number in decimal, and the byte after it.
unfoldable pub number_text : (v after : ℕ) → List ℕ
number_text v after = decimal v ++ after ∷ []

-- Activity, machine, start, end, setup.
unfoldable pub row_text : (activity machine start end setup : ℕ) → List ℕ
row_text activity machine start end setup =
    (number_text activity 32 ++ number_text machine 32) ++ (number_text start 32 ++ number_text end 32 ++ number_text setup 10)

-- The first k rows.
unfoldable pub rows_to : (activities machines starts ends setups : List ℕ) → (k : ℕ) → List ℕ
rows_to a m s e u zero = []
rows_to a m s e u (suc k) = rows_to a m s e u k ++ row_text (get_or a k 0) (get_or m k 0) (get_or s k 0) (get_or e k 0) (get_or u k 0)

-- `outcome ` and `fitness `.
abbrev pub outcome_word : List ℕ
outcome_word = 111 ∷ 117 ∷ 116 ∷ 99 ∷ 111 ∷ 109 ∷ 101 ∷ 32 ∷ []

abbrev pub fitness_word : List ℕ
fitness_word = 102 ∷ 105 ∷ 116 ∷ 110 ∷ 101 ∷ 115 ∷ 115 ∷ 32 ∷ []

unfoldable pub head_text : (outcome bits : ℕ) → List ℕ
head_text outcome bits = outcome_word ++ number_text outcome 10 ++ fitness_word ++ hex16 bits ++ 10 ∷ []

-- The outcome, the fitness by its bits, and the rows of five columns.
unfoldable pub sheet_text : (outcome bits : ℕ) → (activities machines starts ends setups : List ℕ) → List ℕ
sheet_text outcome bits a m s e u = head_text outcome bits ++ rows_to a m s e u (length a)

-- `refused `, number and place.
abbrev pub refused_word : List ℕ
refused_word = 114 ∷ 101 ∷ 102 ∷ 117 ∷ 115 ∷ 101 ∷ 100 ∷ 32 ∷ []

unfoldable pub refusal_text : (number place : ℕ) → List ℕ
refusal_text number place = refused_word ++ number_text number 32 ++ number_text place 10
