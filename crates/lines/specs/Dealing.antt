-- Document 01, "Timing and fitness": the lines of an order are its activities in order, on their assigned machines, not reordered for
-- predecessors.
use Rattle.std.specs.Prelude.{◌≡◌, List, [], ◌∷◌, ◌++◌, ℕ, zero, suc, ◌≤◌, eqb, length, get_or, replicate}
use Rattle.graph.specs.Counting.{Below}
use Rattle.graph.specs.Filing.{cons_if}
use Rattle.lines.specs.Lines.{Lines, lines_in, Fit}

-- an activity put at the end of machine m's line
unfoldable pub at_end : Lines → ℕ → ℕ → Lines
at_end [] m a = []
at_end (l ∷ lines) zero a = (l ++ (a ∷ [])) ∷ lines
at_end (l ∷ lines) (suc m) a = l ∷ at_end lines m a

-- activities dealt out one after the other, each to its machine
unfoldable pub dealt : (ℕ → ℕ) → List ℕ → Lines → Lines
dealt on [] lines = lines
dealt on (a ∷ activities) lines = dealt on activities (at_end lines (on a) a)

unfoldable pub lines_of : (ℕ → ℕ) → List ℕ → Lines
lines_of on activities = dealt on activities (replicate 16 [])

-- those that are on machine m, in their order
unfoldable pub on_machine : (ℕ → ℕ) → ℕ → List ℕ → List ℕ
on_machine on m [] = []
on_machine on m (a ∷ activities) = cons_if (eqb (on a) m) a (on_machine on m activities)

-- activities that can be dealt: no more than a stretch has room for, each with a machine
pub record Dealable (activities machines cells : List ℕ) : Type 0 where
  pub few : length activities ≤ 128
  pub assigned : Below (length machines) activities
  pub known : Below 16 machines
  pub roomy : length cells ≡ 2048

-- cells and lengths that hold the lines of the order
pub record Dealt (activities machines cells lens : List ℕ) : Type 0 where
  pub held : lines_in cells lens ≡ lines_of (λ a. get_or machines a 0) activities
  pub fit : Fit lens
