-- Answers as numbers, for callers in C: document 01's number for each case, and what goes with it.
use Rattle.std.specs.Prelude.{ℕ, List, [], ◌∷◌, Result, Ok, Err}
use Rattle.reader.specs.Refusals.{number_of}
use Rattle.reader.specs.declared.refusal.Refusal.{Refusal}
use Rattle.calls.specs.declared.Sheet.{Sheet}
use Rattle.sheet.specs.Sheet.{number_of as rule_number}
use Rattle.sheet.specs.declared.Verdict.{Verdict}
use Rattle.sheet.specs.declared.Verdict.TheVariants.{Accepted, Bad, Missing}
use Rattle.improving.specs.declared.Ending.{Ending}
use Rattle.improving.specs.declared.Ending.TheVariants.{NoSteps, Incomplete, Contradictory, NothingBetter, Better}
use Rattle.looking.specs.declared.Seen.{Seen}

-- A call that writes a sheet: the number and the place of a refusal; or no refusal, how many rows, and the bits of their fitness.
abbrev pub code_of : Result Sheet Refusal → List ℕ
code_of (Err refused) = number_of refused.reason ∷ refused.place ∷ 0 ∷ 0 ∷ []
code_of (Ok sheet) = 0 ∷ 0 ∷ sheet.rows ∷ sheet.bits ∷ []

-- The sheet check: a refusal's number, the rule that is broken, and the place, the row or, for rule 10, the activity; all 0 where it is accepted.
abbrev pub check_code : Result Verdict Refusal → List ℕ
check_code (Err refused) = number_of refused.reason ∷ 0 ∷ refused.place ∷ []
check_code (Ok Accepted) = 0 ∷ 0 ∷ 0 ∷ []
check_code (Ok (Bad rule row)) = 0 ∷ rule_number rule ∷ row ∷ []
check_code (Ok (Missing activity)) = 0 ∷ 10 ∷ activity ∷ []

-- An answer of Improve as three numbers: the number and the place of a refusal, and no fitness; or the outcome, 0, and the bits of the best line
-- fitness, 0 where there is none.
abbrev pub improve_code : Result Ending Refusal → List ℕ
improve_code (Err refused) = number_of refused.reason ∷ refused.place ∷ 0 ∷ []
improve_code (Ok NoSteps) = 10 ∷ 0 ∷ 0 ∷ []
improve_code (Ok Incomplete) = 11 ∷ 0 ∷ 0 ∷ []
improve_code (Ok Contradictory) = 12 ∷ 0 ∷ 0 ∷ []
improve_code (Ok (NothingBetter bits)) = 13 ∷ 0 ∷ bits ∷ []
improve_code (Ok (Better bits)) = 14 ∷ 0 ∷ bits ∷ []

-- A step shown, as seven numbers: the number and the place of a refusal; or no refusal, how many activities of the path, block moves, kept block
-- moves and kept reassignments, and the bits of the line fitness.
abbrev pub look_code : Result Seen Refusal → List ℕ
look_code (Err refused) = number_of refused.reason ∷ refused.place ∷ 0 ∷ 0 ∷ 0 ∷ 0 ∷ 0 ∷ []
look_code (Ok seen) = 0 ∷ 0 ∷ seen.path ∷ seen.moves ∷ seen.blocks ∷ seen.others ∷ seen.bits ∷ []
