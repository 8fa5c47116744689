-- Document 01, "Timing and fitness": the timing order of given lines, and each activity's start, the greatest of 0, its line predecessor's end,
-- its task predecessor's end plus transport from that one's machine to its own, its release, and every named predecessor's end.
-- An activity's machine is the one whose line holds it.
use Rattle.std.specs.Prelude.{ℕ, ◌+◌, ◌<◌, Bool, List, ◌++◌, ltb, length, get_or, replicate}
use Rattle.graph.specs.Order.{order_of}
use Rattle.graph.specs.Links.{linked}
use Rattle.graph.specs.Starts.{Rule, timed}
use Rattle.graph.specs.Shop.{greatest}
use Rattle.plan.specs.Problem.{Problem}
use Rattle.tables.specs.Tabled.{task_pred, task_succ}
use Rattle.intake.specs.Circle.{each}
use Rattle.bounds.specs.Bounds.{setup_of, span_of}
use Rattle.lines.specs.Lines.{Lines, line_pred, line_succ, machine_of}

-- The setup and the span of an activity where its line has it.
abbrev pub setup_at : Problem → Lines → ℕ → ℕ
setup_at p lines a = setup_of p a (machine_of lines a) (line_pred lines a)

abbrev pub span_at : Problem → Lines → ℕ → ℕ
span_at p lines a = span_of p a (machine_of lines a) (setup_at p lines a)

-- How long the way is from one activity's machine to another's.
abbrev pub way_to : Problem → Lines → ℕ → ℕ → ℕ
way_to p lines q a = p.transport (machine_of lines q) (machine_of lines a)

-- Whom an activity frees: its line successor, task successor, then those naming it; and for whom it waits.
abbrev pub frees : Problem → Lines → ℕ → List ℕ
frees p lines a = linked (line_succ lines a) ++ (linked (task_succ p a) ++ p.waiting a)

abbrev pub waits_for : Problem → Lines → ℕ → List ℕ
waits_for p lines a = linked (line_pred lines a) ++ (linked (task_pred p a) ++ p.predecessors a)

abbrev pub counts_for : Problem → Lines → List ℕ
counts_for p lines = each (λ a. length (waits_for p lines a)) p.n 0

abbrev pub timing_order : Problem → Lines → List ℕ
timing_order p lines = order_of (frees p lines) p.n (counts_for p lines)

-- The start that the ends of the others allow.
abbrev pub start_by : Problem → Lines → Rule
start_by p lines a ends =
    greatest ends (p.predecessors a)
    (greatest (λ q. ends q + way_to p lines q a) (linked (task_pred p a)) (greatest ends (linked (line_pred lines a)) (p.release a)))

-- Each activity placed in the timing order.
abbrev pub starts_of : Problem → Lines → List ℕ
starts_of p lines = timed (start_by p lines) (span_at p lines) (timing_order p lines) (replicate p.n 0)

abbrev pub start_of : Problem → Lines → ℕ → ℕ
start_of p lines a = get_or (starts_of p lines) a 0

-- Each activity's end is its start plus its span.
abbrev pub ends_by : Problem → Lines → (starts : List ℕ) → List ℕ
ends_by p lines starts = each (λ a. get_or starts a 0 + span_at p lines a) p.n 0

abbrev pub ends_of : Problem → Lines → List ℕ
ends_of p lines = ends_by p lines (starts_of p lines)

abbrev pub setups_of : Problem → Lines → List ℕ
setups_of p lines = each (setup_at p lines) p.n 0

-- Number 8: the order leaves an activity out.
abbrev pub contradicts : Problem → Lines → Bool
contradicts p lines = ltb (length (timing_order p lines)) p.n
