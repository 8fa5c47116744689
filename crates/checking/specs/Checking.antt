-- Document 01, "The sheet check (ours)", for a stored plan: what the plan is refused for, numbers 1, 2, 3, 5 and 4; else the first bad row and
-- its first broken rule; else rule 10, the lowest activity without a row; else accepted.
use Rattle.std.specs.Prelude.{ℕ, List, ℤ, Result, Ok, Err}
use Rattle.reader.specs.Answer.{Reading}
use Rattle.reader.specs.Answer.{Answer}
use Rattle.reader.specs.Answer.{Accepted as Read, No}
use Rattle.intake.specs.Intake.{problem_in, taken_in}
use Rattle.sheet.specs.Sheet.{check_sheet}
use Rattle.sheet.specs.declared.Verdict.{Verdict}
use Rattle.reader.specs.Refusals.{refusal}
use Rattle.reader.specs.declared.refusal.Refusal.{Refusal}

abbrev pub checked_if : Answer → List ℕ → Reading → List ℤ → Result Verdict Refusal
checked_if Read s r rows = Ok (check_sheet (problem_in s r) rows)
checked_if (No reason place) s r rows = Err (refusal reason place)

abbrev pub checked : (bytes : List ℕ) → (rows : List ℤ) → Result Verdict Refusal
checked s rows = checked_if (taken_in s).answer s (taken_in s) rows
