-- Document 01, "Plans to hold on the card board": the program improves a plan and prints `decode`: the outcome, then the fitness and the rows of
-- the sheet that is shown. At 14 that is the sheet of the plan with the new order and machines, at 10 to 13 of the plan as it is. A refusal is
-- one line.
use Rattle.std.specs.Prelude.{ℕ, ◌≤◌, ◌≡◌, cond, List, leb, length, take}
use Rattle.std.specs.Float.Ieee.{to_bits}
use Rattle.std.specs.Float.{binary64}
use Rattle.words.specs.Text.{written}
use Rattle.writing.specs.Writing.{Put}
use Rattle.reader.specs.Refusals.{number_of}
use Rattle.calls.specs.Outcome.{Outcome, no, sheet}
use Rattle.decode.specs.Decode.{better_placement}
use Rattle.decoding.specs.Decoding.{decoded_plan}
use Rattle.search.specs.Search.{Improved, no_steps, incomplete, contradictory, nothing_better, improved, number}
use Rattle.improving.specs.Improving.{Outcome as Improving, no as refused, came, improved_plan}
use Rattle.renewed.specs.Meaning.{renewed_plan}
use Rattle.printing.specs.Printing.{sheet_text, refusal_text}

-- A sheet, the outcome above it; or a refusal. The fitness is the sheet's own.
abbrev pub sheet_or : (outcome : ℕ) → Outcome → List ℕ
sheet_or outcome (no reason place) = refusal_text (number_of reason) place
sheet_or outcome (sheet rows c f) = sheet_text outcome (to_bits binary64 f) c.activities c.machines c.starts c.ends c.setups

abbrev pub decode_text : (outcome : ℕ) → (bytes : List ℕ) → List ℕ
decode_text outcome s = sheet_or outcome (decoded_plan better_placement s)

-- The plan whose sheet is shown.
abbrev pub plan_shown : Improved → (bytes : List ℕ) → List ℕ
plan_shown no_steps s = s
plan_shown incomplete s = s
plan_shown contradictory s = s
plan_shown (nothing_better f) s = s
plan_shown (improved f tasks machines) s = renewed_plan s tasks machines

abbrev pub shown_if : Improving → (bytes : List ℕ) → List ℕ
shown_if (refused reason place) s = refusal_text (number_of reason) place
shown_if (came i) s = decode_text (number i) (plan_shown i s)

-- What the terminal shows for an input.
abbrev pub shown : (bytes : List ℕ) → List ℕ
shown s = shown_if (improved_plan s) s

-- Room for any text that is shown: at most 64 bytes, and 105 for each of 128 rows.
abbrev pub enough : ℕ
enough = 16384

-- A text put at the start of a buffer, and no longer than that.
abbrev pub PutShort : (before text line : List ℕ) → (place : ℕ) → Type 0
PutShort before text line place = Put before 0 text line place × (place ≤ enough)

-- A length within a buffer. The second part follows from the first; to lend that part of the buffer asks for both.
abbrev pub Within : (n : ℕ) → (line : List ℕ) → Type 0
Within n line = (n ≤ length line) × (n ≡ length (take n line))

-- The text over the first bytes of a buffer, and its length; nothing where the buffer is too short.
abbrev pub shown_over : (bytes out : List ℕ) → List ℕ
shown_over s out = cond (leb enough (length out)) (written out 0 (shown s)) out

abbrev pub shown_length : (bytes out : List ℕ) → ℕ
shown_length s out = cond (leb enough (length out)) (length (shown s)) 0

-- What is printed of the lent buffer: the bytes that `show` answers.
abbrev pub printed_text : (s out : List ℕ) → List ℕ
printed_text s out = take (shown_length s out) (shown_over s out)
