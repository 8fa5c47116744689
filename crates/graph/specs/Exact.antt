-- Demand 3, over arcs and bounds: the order is short exactly when the arcs lead from some activity back to itself; otherwise the starts are
-- what the rule says, and no starts that meet the rule are earlier anywhere.
use Rattle.std.specs.Prelude.{◌≡◌, List, ◌↔◌, ℕ, ◌+◌, ◌≤◌, ◌<◌, length, get_or}
use Rattle.graph.specs.Arcs.{Graph, Waits, Circle}
use Rattle.graph.specs.Order.{order_of}
use Rattle.graph.specs.Starts.{Rule, timed, Meets}

-- counts that are right: for each activity how many arcs it waits for
pub record Counted (g : Graph) (counts : List ℕ) : Type 0 where
  pub long : g.n ≤ length counts
  pub right : (b : ℕ) → b < g.n → get_or counts b 0 ≡ length (g.preds b)

abbrev pub graph_order : Graph → List ℕ → List ℕ
graph_order g counts = order_of g.succs g.n counts

-- the start that timing gives an activity, whatever the list of starts held before
abbrev pub start_of : Graph → List ℕ → Rule → (ℕ → ℕ) → List ℕ → ℕ → ℕ
start_of g counts rule span old a = get_or (timed rule span (graph_order g counts) old) a 0

pub record Exact (g : Graph) (counts : List ℕ) (rule : Rule) (span : ℕ → ℕ) (old : List ℕ) : Type 0 where
  pub contradicts : (length (graph_order g counts) < g.n) ↔ Circle g.n (Waits g)
  pub meets : (Circle g.n (Waits g) → ⊥) → (a : ℕ) → a < g.n
      → start_of g counts rule span old a ≡ rule a (λ p. start_of g counts rule span old p + span p)
  pub least : (Circle g.n (Waits g) → ⊥) → (S : ℕ → ℕ) → Meets g.n rule span S → (a : ℕ) → a < g.n → start_of g counts rule span old a ≤ S a
