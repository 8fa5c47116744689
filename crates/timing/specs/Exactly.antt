-- Demand 3 for a problem and lines of it, over arcs and bounds: timing contradicts exactly when task order, line order and named predecessors
-- lead from some activity back to itself; otherwise its starts meet every bound and are the least whole-number starts that do.
use Rattle.std.specs.Prelude.{ℕ, ◌+◌, ◌≤◌, ◌<◌, ◌≡◌, true, false, ◌↔◌, Some}
use Rattle.graph.specs.Counting.{count_of}
use Rattle.graph.specs.Arcs.{Circle}
use Rattle.plan.specs.Problem.{Problem}
use Rattle.tables.specs.Tabled.{task_pred}
use Rattle.lines.specs.Lines.{Lines, line_pred}
use Rattle.timing.specs.Timing.{span_at, way_to, contradicts, start_of}

-- An arc: q is a's line predecessor, its task predecessor, or named by it.
pub data Binds (p : Problem) (lines : Lines) (q a : ℕ) : Type 0 where
  line : a < p.n → line_pred lines a ≡ Some q → Binds p lines q a
  task : a < p.n → task_pred p a ≡ Some q → Binds p lines q a
  name : a < p.n → 0 < count_of q (p.predecessors a) → Binds p lines q a

-- Starts S that meet every bound.
pub record Meeting (p : Problem) (lines : Lines) (S : ℕ → ℕ) : Type 0 where
  pub released : (a : ℕ) → a < p.n → p.release a ≤ S a
  pub lined : (q a : ℕ) → a < p.n → line_pred lines a ≡ Some q → S q + span_at p lines q ≤ S a
  pub tasked : (q a : ℕ) → a < p.n → task_pred p a ≡ Some q → S q + span_at p lines q + way_to p lines q a ≤ S a
  pub followed : (q a : ℕ) → a < p.n → 0 < count_of q (p.predecessors a) → S q + span_at p lines q ≤ S a

pub record Exactly (p : Problem) (lines : Lines) : Type 0 where
  pub circle : (contradicts p lines ≡ true) ↔ Circle p.n (Binds p lines)
  pub meets : contradicts p lines ≡ false → Meeting p lines (start_of p lines)
  pub least : contradicts p lines ≡ false → (S : ℕ → ℕ) → Meeting p lines S → (a : ℕ) → a < p.n → start_of p lines a ≤ S a
