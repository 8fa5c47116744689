-- Document 01, "Numbers on the screen" and "Timing and fitness", for lines that the caller gives: number 6 for a buffer that is too short, then
-- what the plan is refused for, then 7 and 8; else the rows in timing order and their fitness.
use Rattle.std.specs.Prelude.{ℕ, zero, suc, Bool, true, false, ◌&&◌, List, leb, Float, length, get_or, take}
use Rattle.reader.specs.Answer.{Reading}
use Rattle.reader.specs.Answer.{Answer}
use Rattle.reader.specs.Answer.{Accepted, No}
use Rattle.plan.specs.Problem.{Problem, Genes}
use Rattle.genes.specs.Indexed.{misses, lines_of_genes}
use Rattle.intake.specs.Intake.{problem_in, genes_in, taken_in}
use Rattle.lines.specs.Lines.{Lines, lines_in, well_formed, machine_of}
use Rattle.intake.specs.Circle.{each}
use Rattle.timing.specs.Timing.{timing_order, contradicts, starts_of, ends_of, setups_of}
use Rattle.fitness.specs.Fitness.{makespan_of, fitness_of}
use Rattle.rows.specs.Rows.{Columns, columns_of}
use Rattle.reader.specs.declared.refusal.Reason.TheVariants.{Room, Lines as Missed, Contradiction}
use Rattle.calls.specs.Outcome.{Outcome, no, sheet}

-- The sheet of lines that do not contradict.
abbrev pub sheet_of : Problem → Lines → Columns
sheet_of p lines = columns_of (timing_order p lines) (each (machine_of lines) p.n 0) (starts_of p lines) (ends_of p lines) (setups_of p lines)

abbrev pub fitness_on : Problem → Lines → Float
fitness_on p lines = fitness_of p (λ a. get_or (ends_of p lines) a 0)

abbrev pub eight_if : Bool → Problem → Lines → Outcome
eight_if true p lines = no Contradiction 0
eight_if false p lines = sheet p.n (sheet_of p lines) (fitness_on p lines)

abbrev pub seven_unless : Bool → Problem → Lines → Outcome
seven_unless true p lines = eight_if (contradicts p lines) p lines
seven_unless false p lines = no Missed 0

abbrev pub timed_lines : Problem → Lines → Outcome
timed_lines p lines = seven_unless (well_formed p.n p.machines lines) p lines

abbrev pub timed_if : Answer → List ℕ → Reading → Lines → Outcome
timed_if Accepted s r lines = timed_lines (problem_in s r) lines
timed_if (No reason place) s r lines = no reason place

-- A plan and lines for it.
abbrev pub timed_plan : (bytes : List ℕ) → Lines → Outcome
timed_plan s lines = timed_if (taken_in s).answer s (taken_in s) lines

-- A plan and the lines that its own genes give; 7 where they miss an activity.
abbrev pub seven_if : Bool → Problem → Genes → Outcome
seven_if true p g = no Missed 0
seven_if false p g = eight_if (contradicts p (lines_of_genes p g)) p (lines_of_genes p g)

abbrev pub timed_genes : Problem → Genes → Outcome
timed_genes p g = seven_if (misses p g) p g

abbrev pub ordered_if : Answer → List ℕ → Reading → Outcome
ordered_if Accepted s r = timed_genes (problem_in s r) (genes_in s r)
ordered_if (No reason place) s r = no reason place

abbrev pub ordered_plan : (bytes : List ℕ) → Outcome
ordered_plan s = ordered_if (taken_in s).answer s (taken_in s)

-- Number 6: 2,048 cells for lines, 128 places for each result.
abbrev pub six_unless : Bool → Outcome → Outcome
six_unless true o = o
six_unless false o = no Room 0

abbrev pub roomy : (a m s e u : List ℕ) → Bool
roomy a m s e u = leb 128 (length a) && (leb 128 (length m) && (leb 128 (length s) && (leb 128 (length e) && leb 128 (length u))))

abbrev pub timed : (bytes cells lens : List ℕ) → (a m s e u : List ℕ) → Outcome
timed bytes cells lens a m s e u = six_unless (leb 2048 (length cells) && roomy a m s e u) (timed_plan bytes (lines_in (take 2048 cells) lens))

abbrev pub timed_order : (bytes : List ℕ) → (a m s e u : List ℕ) → Outcome
timed_order bytes a m s e u = six_unless (roomy a m s e u) (ordered_plan bytes)

-- Lines timed again and again, for measuring: the makespan of the last time; 0 where there is none.
abbrev pub makespan_on : Problem → Lines → ℕ
makespan_on p lines = makespan_of p (λ a. get_or (ends_of p lines) a 0)

abbrev pub last_of : (times : ℕ) → Bool → Problem → Lines → ℕ
last_of zero b p lines = 0
last_of (suc times) true p lines = 0
last_of (suc times) false p lines = makespan_on p lines

abbrev pub again_if : Bool → (times : ℕ) → Problem → Lines → ℕ
again_if true times p lines = last_of times (contradicts p lines) p lines
again_if false times p lines = 0

abbrev pub taken_again : Answer → (times : ℕ) → List ℕ → Reading → Lines → ℕ
taken_again Accepted times s r lines = again_if (well_formed (problem_in s r).n (problem_in s r).machines lines) times (problem_in s r) lines
taken_again (No reason place) times s r lines = 0

abbrev pub zero_unless : Bool → ℕ → ℕ
zero_unless true x = x
zero_unless false x = 0

abbrev pub timed_again : (bytes cells lens : List ℕ) → (times : ℕ) → ℕ
timed_again bytes cells lens times =
    zero_unless (leb 2048 (length cells)) (taken_again (taken_in bytes).answer times bytes (taken_in bytes) (lines_in (take 2048 cells) lens))
