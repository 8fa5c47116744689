-- Document 01, "How tightly each call is bound": the public calls with their input, what can come out of one, and which of that its contract
-- permits. What comes out is the answer and the content of each buffer that the call may write, but for Improve's cells, which are work space.
-- Document 01, "Numbers on the screen": a refusal writes nothing, and of Improve's outcomes only 14 writes.
use Rattle.std.specs.Prelude.{ℕ, ◌<◌, ◌≡◌, List, ℤ, length, Result, Ok, Err}
use Rattle.reader.specs.declared.refusal.Refusal.{Refusal}
use Rattle.sheet.specs.declared.Verdict.{Verdict}
use Rattle.calls.specs.declared.Sheet.{Sheet}
use Rattle.calls.specs.Outcome as sheets
use Rattle.calls.specs.Timing.{timed, timed_order, timed_again}
use Rattle.decoding.specs.Decoding as decoders
use Rattle.checking.specs.Checking.{checked}
use Rattle.improving.specs.declared.Ending.{Ending}
use Rattle.improving.specs.declared.Ending.TheVariants.{NoSteps, Incomplete, Contradictory, NothingBetter, Better}
use Rattle.improving.specs.Improving as improving
use Rattle.looking.specs.declared.Seen.{Seen}
use Rattle.looking.specs.Looking as looking
use Rattle.terminal_text.specs.Shown.{enough, shown_over, shown_length}

-- The result buffers that a caller lends: of a sheet, of Improve, of a step that is shown.
pub record Rows : Type 0 where
  pub activities : List ℕ
  pub machines : List ℕ
  pub starts : List ℕ
  pub ends : List ℕ
  pub setups : List ℕ

pub record NewGenes : Type 0 where
  pub tasks : List ℕ
  pub machines : List ℕ

pub record Views : Type 0 where
  pub path : List ℕ
  pub moves : List ℕ
  pub kept : List ℕ
  pub ranks : List ℕ

-- A call with its input, and with what its result buffers hold before it.
pub data Call : Type 0 where
  time : (bytes cells lens : List ℕ) → Rows → Call
  time_order : (bytes : List ℕ) → Rows → Call
  time_again : (bytes cells lens : List ℕ) → (times : ℕ) → Call
  in_order : (bytes : List ℕ) → Rows → Call
  active : (bytes : List ℕ) → Rows → Call
  decode : (bytes : List ℕ) → Rows → Call
  check : (bytes : List ℕ) → (rows : List ℤ) → Call
  improve : (bytes cells : List ℕ) → NewGenes → Call
  look : (bytes cells lens : List ℕ) → Views → Call
  show : (bytes out : List ℕ) → Call

-- An answer, and what the result buffers hold after the call.
pub record Ended (Told Lent : Type 0) : Type 0 where
  pub answer : Told
  pub lent : Lent

abbrev pub Outcome : Call → Type 0
Outcome (time bytes cells lens b) = Ended (Result Sheet Refusal) Rows
Outcome (time_order bytes b) = Ended (Result Sheet Refusal) Rows
Outcome (time_again bytes cells lens times) = ℕ
Outcome (in_order bytes b) = Ended (Result Sheet Refusal) Rows
Outcome (active bytes b) = Ended (Result Sheet Refusal) Rows
Outcome (decode bytes b) = Ended (Result Sheet Refusal) Rows
Outcome (check bytes rows) = Result Verdict Refusal
Outcome (improve bytes cells b) = Ended (Result Ending Refusal) NewGenes
Outcome (look bytes cells lens b) = Ended (Result Seen Refusal) Views
Outcome (show bytes out) = Ended ℕ (List ℕ)

-- ---- what the contracts say

-- The two clauses of every call that writes a sheet: what it comes to is told, and left in the five buffers.
abbrev pub Writes : ((a m s e u : List ℕ) → sheets.Outcome) → Rows → Ended (Result Sheet Refusal) Rows → Type 0
Writes comes b x =
    let o = comes b.activities b.machines b.starts b.ends b.setups in
    (x.answer ≡ sheets.answer_of o)
    × sheets.Leaves o b.activities b.machines b.starts b.ends b.setups
    x.lent.activities x.lent.machines x.lent.starts x.lent.ends x.lent.setups

-- Improve's three.
abbrev pub Improves : improving.Outcome → NewGenes → Ended (Result Ending Refusal) NewGenes → Type 0
Improves o b x =
    (x.answer ≡ improving.answer_of o)
    × (x.lent.tasks ≡ improving.tasks_left o b.tasks)
    × (x.lent.machines ≡ improving.machines_left o b.machines)

-- The two of `look`.
abbrev pub Shows : looking.Outcome → Views → Ended (Result Seen Refusal) Views → Type 0
Shows o b x =
    (x.answer ≡ looking.answer_of o)
    × looking.Leaves o b.path b.moves b.kept b.ranks x.lent.path x.lent.moves x.lent.kept x.lent.ranks

abbrev pub Permitted : (c : Call) → Outcome c → Type 0
Permitted (time bytes cells lens b) x = Writes (timed bytes cells lens) b x
Permitted (time_order bytes b) x = Writes (timed_order bytes) b x
Permitted (time_again bytes cells lens times) x = x ≡ timed_again bytes cells lens times
Permitted (in_order bytes b) x = Writes (decoders.in_order bytes) b x
Permitted (active bytes b) x = Writes (decoders.active bytes) b x
Permitted (decode bytes b) x = Writes (decoders.decoded bytes) b x
Permitted (check bytes rows) x = x ≡ checked bytes rows
Permitted (improve bytes cells b) x = Improves (improving.improved_in bytes cells b.tasks b.machines) b x
Permitted (look bytes cells lens b) x = Shows (looking.looked bytes cells lens b.path b.moves b.kept b.ranks) b x
Permitted (show bytes out) x = (x.lent ≡ shown_over bytes out) × (x.answer ≡ shown_length bytes out)

-- ---- where nothing is written

-- Answers beside which no result is written: a refusal; of Improve each but 14.
abbrev pub refuses : {Told : Type 0} → Result Told Refusal → Type 0
refuses (Err refused) = Unit {0}
refuses (Ok told) = ⊥

abbrev pub finds_nothing : Result Ending Refusal → Type 0
finds_nothing (Err refused) = Unit {0}
finds_nothing (Ok NoSteps) = Unit {0}
finds_nothing (Ok Incomplete) = Unit {0}
finds_nothing (Ok Contradictory) = Unit {0}
finds_nothing (Ok (NothingBetter bits)) = Unit {0}
finds_nothing (Ok (Better bits)) = ⊥

-- `time_again` and `check` have no buffer to write; `show` puts a refusal as text, and nothing where its buffer is too short.
abbrev pub Quiet : (c : Call) → Outcome c → Type 0
Quiet (time bytes cells lens b) x = refuses x.answer
Quiet (time_order bytes b) x = refuses x.answer
Quiet (time_again bytes cells lens times) x = Unit {0}
Quiet (in_order bytes b) x = refuses x.answer
Quiet (active bytes b) x = refuses x.answer
Quiet (decode bytes b) x = refuses x.answer
Quiet (check bytes rows) x = Unit {0}
Quiet (improve bytes cells b) x = finds_nothing x.answer
Quiet (look bytes cells lens b) x = refuses x.answer
Quiet (show bytes out) x = length out < enough

-- The result buffers hold what they held before the call.
abbrev pub Untouched : (c : Call) → Outcome c → Type 0
Untouched (time bytes cells lens b) x = x.lent ≡ b
Untouched (time_order bytes b) x = x.lent ≡ b
Untouched (time_again bytes cells lens times) x = Unit {0}
Untouched (in_order bytes b) x = x.lent ≡ b
Untouched (active bytes b) x = x.lent ≡ b
Untouched (decode bytes b) x = x.lent ≡ b
Untouched (check bytes rows) x = Unit {0}
Untouched (improve bytes cells b) x = x.lent ≡ b
Untouched (look bytes cells lens b) x = x.lent ≡ b
Untouched (show bytes out) x = x.lent ≡ out
