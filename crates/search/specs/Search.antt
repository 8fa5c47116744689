-- Document 01, "One search step" and "Numbers on the screen": a step, the steps, and what Improve answers.
use Rattle.std.specs.Prelude.{ℕ, zero, suc, Bool, true, false, List, eqb, Float}
use Rattle.std.specs.Float.Ieee.{lt}
use Rattle.plan.specs.Problem.{Problem, Genes}
use Rattle.intake.specs.Circle.{each}
use Rattle.lines.specs.Lines.{Lines, machine_of}
use Rattle.moves.specs.Moves.{applied}
use Rattle.moves.specs.declared.Move.{Move}
use Rattle.genes.specs.Indexed.{misses, lines_of_genes}
use Rattle.timing.specs.Timing.{timing_order, contradicts}
use Rattle.trial.specs.Taboo.{fresh, forbidden, pairs_after, left_after}
use Rattle.trial.specs.declared.Taboo.{Taboo}
use Rattle.trial.specs.Trial.{line_fitness, tried_all}
use Rattle.trial.specs.declared.Best.{Best}
use Rattle.trial.specs.declared.Best.TheVariants.{Nothing, Found}
use Rattle.search.specs.Step.{moves_from}
use Rattle.search.specs.Saving.{tasks_of}

-- ---- one step

-- A new best: its task numbers in timing order, and its machines.
pub data Saved : Type 0 where
  unsaved : Saved
  saved : (tasks machines : List ℕ) → Saved

-- What a step starts from: the lines, the live pairs and machines left, the best fitness ever and what it was reached with.
pub record State : Type 0 where
  pub lines : Lines
  pub pairs : List Taboo
  pub left : List Taboo
  pub best : Float
  pub found : Saved

-- The best move of a step, the best ever as it was before it.
abbrev pub best_from : Problem → (step : ℕ) → State → Best
best_from p step st =
    tried_all p st.lines (forbidden step st.pairs st.left st.lines) st.best (moves_from p st.lines) Nothing

abbrev pub genes_by : Problem → (n : ℕ) → (order : List ℕ) → Lines → Saved
genes_by p n order lines = saved (tasks_of p order) (each (machine_of lines) n 0)

abbrev pub genes_on : Problem → Lines → Saved
genes_on p lines = genes_by p p.n (timing_order p lines) lines

-- What two lists hold, if anything was saved in them.
abbrev pub saved_of : Bool → (tasks machines : List ℕ) → Saved
saved_of true tasks machines = saved tasks machines
saved_of false tasks machines = unsaved

abbrev pub saved_if : Bool → Saved → Saved → Saved
saved_if true new old = new
saved_if false new old = old

abbrev pub lesser_if : Bool → Float → Float → Float
lesser_if true new old = new
lesser_if false new old = old

-- The state once a move is made: a new strict best is saved.
abbrev pub made : Problem → (step : ℕ) → State → Float → Move → State
made p step st f m =
    record {
      lines = applied m st.lines;
      pairs = pairs_after step st.pairs st.lines m;
      left = left_after step st.left m;
      best = lesser_if (lt f st.best) f st.best;
      found = saved_if (lt f st.best) (genes_on p (applied m st.lines)) st.found;
    }

-- ---- the steps

-- At most so many steps from `step` on, the best move of the first one given; none: stop.
unfoldable pub steps_from : Problem → (most step : ℕ) → Best → State → State
steps_from p zero step b st = st
steps_from p (suc most) step Nothing st = st
steps_from p (suc most) step (Found f m) st =
    steps_from p most (suc step) (best_from p (suc step) (made p step st f m)) (made p step st f m)

abbrev pub begun : Problem → Lines → State
begun p lines = record { lines = lines; pairs = fresh; left = fresh; best = line_fitness p lines; found = unsaved }

abbrev pub searched_to : Problem → (limit : ℕ) → Lines → State
searched_to p limit lines = steps_from p limit 0 (best_from p 0 (begun p lines)) (begun p lines)

abbrev pub searched : Problem → Lines → State
searched p lines = searched_to p p.limit lines

-- ---- what Improve answers, by document 01's numbers 10 to 14

pub data Improved : Type 0 where
  no_steps : Improved
  incomplete : Improved
  contradictory : Improved
  nothing_better : Float → Improved
  improved : Float → (tasks machines : List ℕ) → Improved

abbrev pub number : Improved → ℕ
number no_steps = 10
number incomplete = 11
number contradictory = 12
number (nothing_better f) = 13
number (improved f tasks machines) = 14

abbrev pub answer : Saved → Float → Improved
answer unsaved f = nothing_better f
answer (saved tasks machines) f = improved f tasks machines

abbrev pub thirteen_or : State → Improved
thirteen_or st = answer st.found st.best

abbrev pub twelve_if : Bool → Problem → Lines → Improved
twelve_if true p lines = contradictory
twelve_if false p lines = thirteen_or (searched p lines)

abbrev pub eleven_if : Bool → Problem → Genes → Improved
eleven_if true p g = incomplete
eleven_if false p g = twelve_if (contradicts p (lines_of_genes p g)) p (lines_of_genes p g)

abbrev pub ten_if : Bool → Problem → Genes → Improved
ten_if true p g = no_steps
ten_if false p g = eleven_if (misses p g) p g

abbrev pub improve : Problem → Genes → Improved
improve p g = ten_if (eqb p.limit 0) p g
