-- Demand 3 for a public call, over arcs and bounds: on lines that hold each activity exactly once, timing is refused 8 exactly when task order,
-- line order and named predecessors lead from some activity back to itself; otherwise the rows name each activity once, the starts in them meet
-- every bound, and no whole-number starts that meet every bound are earlier anywhere.
use Rattle.std.specs.Prelude.{ℕ, ◌+◌, ◌≤◌, ◌<◌, ◌≡◌, List, ◌↔◌, get_or, take, Result, Ok, Err}
use Rattle.graph.specs.Counting.{count_of}
use Rattle.graph.specs.Arcs.{Circle}
use Rattle.plan.specs.Problem.{Problem}
use Rattle.lines.specs.Lines.{Lines, machine_of, place_on}
use Rattle.timing.specs.Timing.{span_at}
use Rattle.timing.specs.Exactly.{Binds, Meeting}
use Rattle.reader.specs.Refusals.{number_of, refusal}
use Rattle.reader.specs.declared.refusal.Reason.TheVariants.{Contradiction}
use Rattle.reader.specs.declared.refusal.Refusal.{Refusal}
use Rattle.calls.specs.declared.Sheet.{Sheet}

-- What a column has in the row of an activity: at the first cell that names it.
abbrev pub in_row : (activities column : List ℕ) → ℕ → ℕ
in_row activities column a = get_or column (place_on activities a) 0

-- Rows for each activity, with starts that meet every bound and are least.
pub record Least (p : Problem) (lines : Lines) (answer : Result Sheet Refusal) (activities machines starts ends : List ℕ) : Type 0 where
  pub bits : ℕ
  pub is : answer ≡ Ok (record { rows = p.n; bits = bits })
  pub once : (a : ℕ) → a < p.n → count_of a (take p.n activities) ≡ 1
  pub on : (a : ℕ) → a < p.n → in_row activities machines a ≡ machine_of lines a
  pub meets : Meeting p lines (in_row activities starts)
  pub least : (S : ℕ → ℕ) → Meeting p lines S → (a : ℕ) → a < p.n → in_row activities starts a ≤ S a
  pub done : (a : ℕ) → a < p.n → in_row activities ends a ≡ in_row activities starts a + span_at p lines a

-- Of the answer, and of what stands in the lent buffers after the call.
pub record Demand3 (p : Problem) (lines : Lines) (answer : Result Sheet Refusal) (activities machines starts ends : List ℕ) : Type 0 where
  pub contradicts : (answer ≡ Err (refusal Contradiction 0)) ↔ Circle p.n (Binds p lines)
  -- as the screen shows it
  pub shown : number_of Contradiction ≡ 8
  pub otherwise : (Circle p.n (Binds p lines) → ⊥) → Least p lines answer activities machines starts ends
