-- Document 01, "Timing and fitness": the order's k-th naming of a task is its k-th activity; unknown tasks and surplus namings are dropped. The
-- lines are these activities in order, on their assigned machines. Outcome 11: an activity has no machine, or the Order gives fewer than n.
use Rattle.std.specs.Prelude.{ℕ, zero, suc, ◌+◌, Bool, true, false, not, ◌&&◌, ◌||◌, List, [], ◌∷◌, ltb, length, unwrap_or, Some, None, Option}
use Rattle.graph.specs.Counting.{count_of}
use Rattle.graph.specs.Filing.{cons_if}
use Rattle.plan.specs.Problem.{Problem, Genes}
use Rattle.lines.specs.Lines.{Lines}
use Rattle.lines.specs.Dealing.{lines_of}

-- ---- the activities that the order gives

-- the next word names a task that there is, and the task still has an activity for it; `named` has the words before, the last one first
abbrev pub gives : Problem → (named : List ℕ) → ℕ → Bool
gives p named t = ltb t p.tasks && ltb (count_of t named) (p.steps t)

unfoldable pub indexed_from : Problem → (named order : List ℕ) → List ℕ
indexed_from p named [] = []
indexed_from p named (t ∷ order) = cons_if (gives p named t) (p.first t + count_of t named) (indexed_from p (t ∷ named) order)

abbrev pub indexed : Problem → Genes → List ℕ
indexed p g = indexed_from p [] g.order

-- ---- their machines

-- an activity's machine, 0 where it has none
abbrev pub assigned_to : Genes → ℕ → ℕ
assigned_to g a = unwrap_or (g.assigned a) 0

abbrev pub is_assigned : Option ℕ → Bool
is_assigned None = false
is_assigned (Some m) = true

-- each of the first k activities has a machine
unfoldable pub assigned_below : Genes → ℕ → Bool
assigned_below g zero = true
assigned_below g (suc k) = assigned_below g k && is_assigned (g.assigned k)

abbrev pub all_assigned : Problem → Genes → Bool
all_assigned p g = assigned_below g p.n

-- ---- outcome 11, and the lines

abbrev pub misses : Problem → Genes → Bool
misses p g = not (all_assigned p g) || ltb (length (indexed p g)) p.n

abbrev pub lines_of_genes : Problem → Genes → Lines
lines_of_genes p g = lines_of (assigned_to g) (indexed p g)
