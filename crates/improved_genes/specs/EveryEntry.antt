-- The search of document 01 with every entry kept, so that its lists can lose none: what the search with six places in each list is compared with.
use Rattle.std.specs.Prelude.{ℕ, zero, suc, ◌≡◌, [], Float}
use Rattle.std.specs.Float.Ieee.{lt}
use Rattle.plan.specs.Problem.{Problem}
use Rattle.lines.specs.Lines.{Lines}
use Rattle.moves.specs.Moves.{applied}
use Rattle.moves.specs.declared.Move.{Move}
use Rattle.trial.specs.History.{pair_made, left_made, entries_with}
use Rattle.trial.specs.Trial.{line_fitness}
use Rattle.trial.specs.declared.Best.{Best}
use Rattle.trial.specs.declared.Best.TheVariants.{Nothing, Found}
use Rattle.search.specs.Search.{State, unsaved, genes_on, saved_if, lesser_if, best_from}

-- the state once a move is made, with one entry more in its list
abbrev pub made_keeping : Problem → (step : ℕ) → State → Float → Move → State
made_keeping p step st f m =
    record {
      lines = applied m st.lines;
      pairs = entries_with step st.pairs (pair_made st.lines m);
      left = entries_with step st.left (left_made st.lines m);
      best = lesser_if (lt f st.best) f st.best;
      found = saved_if (lt f st.best) (genes_on p (applied m st.lines)) st.found;
    }

unfoldable pub steps_keeping : Problem → (most step : ℕ) → Best → State → State
steps_keeping p zero step b st = st
steps_keeping p (suc most) step Nothing st = st
steps_keeping p (suc most) step (Found f m) st =
    steps_keeping p most (suc step) (best_from p (suc step) (made_keeping p step st f m)) (made_keeping p step st f m)

abbrev pub begun_keeping : Problem → Lines → State
begun_keeping p lines = record { lines = lines; pairs = []; left = []; best = line_fitness p lines; found = unsaved }

abbrev pub searched_keeping : Problem → (limit : ℕ) → Lines → State
searched_keeping p limit lines = steps_keeping p limit 0 (best_from p 0 (begun_keeping p lines)) (begun_keeping p lines)

-- two searches that came to the same lines, the same best fitness and the same genes
pub record Alike (s t : State) : Type 0 where
  pub lines : s.lines ≡ t.lines
  pub best : s.best ≡ t.best
  pub found : s.found ≡ t.found
