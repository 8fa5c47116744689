-- Document 01, "Numbers on the screen", for Improve: number 6 for a buffer that is too short, then what the plan is refused for, then 10 to 14.
-- Only 14 writes: n task numbers and n machines, later cells untouched.
use Rattle.std.specs.Prelude.{ℕ, Bool, true, false, ◌&&◌, List, leb, length, Result, Ok, Err}
use Rattle.std.specs.Float.Ieee.{to_bits}
use Rattle.std.specs.Float.{binary64}
use Rattle.reader.specs.Answer.{Reading}
use Rattle.reader.specs.Answer.{Answer as ReadersAnswer}
use Rattle.reader.specs.Answer.{Accepted, No}
use Rattle.intake.specs.Intake.{problem_in, genes_in, taken_in}
use Rattle.rows.specs.Rows.{over}
use Rattle.search.specs.Search.{Improved, no_steps, incomplete, contradictory, nothing_better, improved, improve}
use Rattle.reader.specs.Refusals.{refusal}
use Rattle.reader.specs.declared.refusal.Reason.{Reason}
use Rattle.reader.specs.declared.refusal.Refusal.{Refusal}
use Rattle.reader.specs.declared.refusal.Reason.TheVariants.{Room}
use Rattle.improving.specs.declared.Ending.{Ending}
use Rattle.improving.specs.declared.Ending.TheVariants.{NoSteps, Incomplete, Contradictory, NothingBetter, Better}

-- A refusal with its place, or what the search comes to.
pub data Outcome : Type 0 where
  no : (reason : Reason) → (place : ℕ) → Outcome
  came : Improved → Outcome

-- The answer to what the search comes to; a fitness is told by its bits.
abbrev pub told : Improved → Ending
told no_steps = NoSteps
told incomplete = Incomplete
told contradictory = Contradictory
told (nothing_better f) = NothingBetter (to_bits binary64 f)
told (improved f tasks machines) = Better (to_bits binary64 f)

abbrev pub answer_of : Outcome → Result Ending Refusal
answer_of (no reason place) = Err (refusal reason place)
answer_of (came i) = Ok (told i)

-- What it leaves in a buffer: at 14 the task numbers, or the machines, over the first cells.
abbrev pub tasks_over : Improved → (cells : List ℕ) → List ℕ
tasks_over no_steps cells = cells
tasks_over incomplete cells = cells
tasks_over contradictory cells = cells
tasks_over (nothing_better f) cells = cells
tasks_over (improved f tasks machines) cells = over tasks cells

abbrev pub machines_over : Improved → (cells : List ℕ) → List ℕ
machines_over no_steps cells = cells
machines_over incomplete cells = cells
machines_over contradictory cells = cells
machines_over (nothing_better f) cells = cells
machines_over (improved f tasks machines) cells = over machines cells

abbrev pub tasks_left : Outcome → (cells : List ℕ) → List ℕ
tasks_left (no reason place) cells = cells
tasks_left (came i) cells = tasks_over i cells

abbrev pub machines_left : Outcome → (cells : List ℕ) → List ℕ
machines_left (no reason place) cells = cells
machines_left (came i) cells = machines_over i cells

-- ---- a plan, and its buffers

abbrev pub improved_if : ReadersAnswer → (bytes : List ℕ) → Reading → Outcome
improved_if Accepted s r = came (improve (problem_in s r) (genes_in s r))
improved_if (No reason place) s r = no reason place

abbrev pub improved_plan : (bytes : List ℕ) → Outcome
improved_plan s = improved_if (taken_in s).answer s (taken_in s)

abbrev pub six_unless : Bool → Outcome → Outcome
six_unless true o = o
six_unless false o = no Room 0

-- Number 6: 2,048 cells for the lines, 128 places for each result.
abbrev pub roomy : (cells tasks machines : List ℕ) → Bool
roomy cells tasks machines = leb 2048 (length cells) && (leb 128 (length tasks) && leb 128 (length machines))

abbrev pub improved_in : (bytes cells tasks machines : List ℕ) → Outcome
improved_in bytes cells tasks machines = six_unless (roomy cells tasks machines) (improved_plan bytes)
