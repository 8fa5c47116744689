-- Document 01, "One search step": an old tail is the greatest old span plus tail over line successor, task successor and waiting
-- activities, or 0.
use Rattle.std.specs.Prelude.{ℕ, zero, suc, ◌+◌, List, length, get_or, set, replicate}
use Rattle.graph.specs.Shop.{greatest}
use Rattle.plan.specs.Problem.{Problem}
use Rattle.lines.specs.Lines.{Lines}
use Rattle.timing.specs.Timing.{frees}
use Rattle.path.specs.Placing.{Placing, span_in}

-- Old span plus old tail.
abbrev pub after : Placing → (tail : List ℕ) → ℕ → ℕ
after s tail x = span_in s x + get_or tail x 0

-- The tail of an activity, by the tails of those that it frees.
abbrev pub tail_of : Problem → Lines → Placing → (tail : List ℕ) → ℕ → ℕ
tail_of p lines s tail a = greatest (after s tail) (frees p lines a) 0

-- The tails set of the first k in timing order, the last of them first, so that each is set after all that it frees.
unfoldable pub tails_down : Problem → Lines → Placing → (k : ℕ) → (tail : List ℕ) → List ℕ
tails_down p lines s zero tail = tail
tails_down p lines s (suc k) tail =
    tails_down p lines s k (set tail (get_or s.order k 0) (tail_of p lines s tail (get_or s.order k 0)))

-- The tail of each activity.
abbrev pub tails : Problem → Lines → Placing → List ℕ
tails p lines s = tails_down p lines s (length s.order) (replicate p.n 0)
