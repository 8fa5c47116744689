-- Document 01, "Two decoders" and "Numbers on the screen", for the calls that write a decoder's sheet: number 6 for a result that is too short,
-- then what the plan is refused for; else the rows in placing order, later cells untouched, and the fitness of what is placed.
use Rattle.std.specs.Prelude.{ℕ, List, length, get_or}
use Rattle.reader.specs.Answer.{Reading}
use Rattle.reader.specs.Answer.{Answer}
use Rattle.reader.specs.Answer.{Accepted, No}
use Rattle.plan.specs.Problem.{Problem, Genes}
use Rattle.intake.specs.Intake.{problem_in, genes_in, taken_in}
use Rattle.intake.specs.Circle.{each}
use Rattle.rows.specs.Rows.{columns_of}
use Rattle.fitness.specs.Fitness.{fitness_of}
use Rattle.genes.specs.Indexed.{assigned_to}
use Rattle.board.specs.Board.{Board}
use Rattle.in_order.specs.InOrder.{place_in_order}
use Rattle.active.specs.Active.{place_active}
use Rattle.decode.specs.Decode.{better_placement}
use Rattle.calls.specs.Outcome.{Outcome, no, sheet}
use Rattle.calls.specs.Timing.{six_unless, roomy}

-- A row for each activity placed, in placing order; starts, ends and setups are by activity. An activity that is not placed has the end 0.
abbrev pub sheet_in : Problem → Genes → (order starts ends setups : List ℕ) → Outcome
sheet_in p g order starts ends setups =
    sheet (length order) (columns_of order (each (assigned_to g) p.n 0) starts ends setups) (fitness_of p (λ a. get_or ends a 0))

abbrev pub board_sheet : Problem → Genes → Board → Outcome
board_sheet p g b = sheet_in p g b.order b.starts b.ends b.setups

abbrev pub decoded_if : Answer → (rule : Problem → Genes → Board) → List ℕ → Reading → Outcome
decoded_if Accepted rule s r = board_sheet (problem_in s r) (genes_in s r) (rule (problem_in s r) (genes_in s r))
decoded_if (No reason place) rule s r = no reason place

abbrev pub decoded_plan : (rule : Problem → Genes → Board) → (bytes : List ℕ) → Outcome
decoded_plan rule s = decoded_if (taken_in s).answer rule s (taken_in s)

-- By any rule that places what the genes give.
abbrev pub decoded_by : (rule : Problem → Genes → Board) → (bytes : List ℕ) → (a m s e u : List ℕ) → Outcome
decoded_by rule bytes a m s e u = six_unless (roomy a m s e u) (decoded_plan rule bytes)

-- ---- the three calls

abbrev pub in_order : (bytes : List ℕ) → (a m s e u : List ℕ) → Outcome
in_order = decoded_by place_in_order

abbrev pub active : (bytes : List ℕ) → (a m s e u : List ℕ) → Outcome
active = decoded_by place_active

abbrev pub decoded : (bytes : List ℕ) → (a m s e u : List ℕ) → Outcome
decoded = decoded_by better_placement
