-- Document 01, "One search step": the path starts from the greatest end, the latest in timing order among equals. Going back: the line
-- predecessor if its end equals this start; else the task predecessor if end plus transport equals it; else the first listed predecessor
-- whose end equals it; else stop. The path is held first activity first.
use Rattle.std.specs.Prelude.{ℕ, zero, suc, ◌+◌, Bool, cond, List, [], ◌∷◌, eqb, leb, get_or, Some, None, Option}
use Rattle.graph.specs.Links.{to_if}
use Rattle.plan.specs.Problem.{Problem}
use Rattle.tables.specs.Tabled.{task_pred}
use Rattle.lines.specs.Lines.{Lines, line_pred}
use Rattle.timing.specs.Timing.{way_to}
use Rattle.path.specs.Placing.{Placing, start_at, end_at}

-- ---- where it starts

-- The greater end of those in turn and of one before them, the later among equals.
unfoldable pub last_from : (ends : List ℕ) → ℕ → (order : List ℕ) → ℕ
last_from ends a [] = a
last_from ends a (b ∷ order) = last_from ends (cond (leb (get_or ends a 0) (get_or ends b 0)) b a) order

abbrev pub last_to_end : (order ends : List ℕ) → Option ℕ
last_to_end [] ends = None
last_to_end (a ∷ order) ends = Some (last_from ends a order)

-- ---- where it goes back to

abbrev pub or_else : Option ℕ → Option ℕ → Option ℕ
or_else (Some b) other = Some b
or_else None other = other

-- The activity of a link, if it passes a test; the first of a list that does.
abbrev pub meeting : (ℕ → Bool) → Option ℕ → Option ℕ
meeting test (Some b) = to_if (test b) b
meeting test None = None

unfoldable pub first_meeting : (ℕ → Bool) → List ℕ → Option ℕ
first_meeting test [] = None
first_meeting test (b ∷ named) = or_else (to_if (test b) b) (first_meeting test named)

-- b's end, and b's end plus transport, equals a's start.
abbrev pub ends_at : Placing → (a b : ℕ) → Bool
ends_at s a b = eqb (end_at s b) (start_at s a)

abbrev pub arrives_at : Problem → Lines → Placing → (a b : ℕ) → Bool
arrives_at p lines s a b = eqb (end_at s b + way_to p lines b a) (start_at s a)

abbrev pub back_of : Problem → Lines → Placing → ℕ → Option ℕ
back_of p lines s a =
    or_else (meeting (ends_at s a) (line_pred lines a))
    (or_else (meeting (arrives_at p lines s a) (task_pred p a)) (first_meeting (ends_at s a) (p.predecessors a)))

-- The machine that an activity comes from: that of the step before it; its own where there is none.
abbrev pub machine_before : (machines : List ℕ) → (a : ℕ) → (before : Option ℕ) → ℕ
machine_before machines a (Some b) = get_or machines b 0
machine_before machines a None = get_or machines a 0

-- ---- the path

-- What is walked back from an activity, before the path found so far; at most so many.
unfoldable pub walk_back : (back : ℕ → Option ℕ) → (most : ℕ) → Option ℕ → (path : List ℕ) → List ℕ
walk_back back zero link path = path
walk_back back (suc most) None path = path
walk_back back (suc most) (Some a) path = walk_back back most (back a) (a ∷ path)

abbrev pub critical_path : Problem → Lines → Placing → List ℕ
critical_path p lines s = walk_back (back_of p lines s) p.n (last_to_end s.order s.ends) []
