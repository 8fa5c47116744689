-- How activities are placed along the timing order: what one placing asks of its slices, and what all of them leave.
use Rattle.std.specs.Prelude.{ℕ, ◌+◌, ◌≤◌, ◌<◌, ◌^◌, ◌≡◌, List, length, get_or, Some, None, Option}
use Rattle.graph.specs.Counting.{Below}
use Rattle.graph.specs.Links.{linked, link_of}
use Rattle.graph.specs.Shop.{greatest}
use Rattle.plan.specs.Problem.{Problem}
use Rattle.tables.specs.Found.{Held}
use Rattle.tables.specs.Tabled.{task_pred}
use Rattle.bounds.specs.Bounds.{setup_of, span_of}
use Rattle.lines.specs.Lines.{Lines, line_pred, machine_of}
use Rattle.timing.specs.Timing.{timing_order, starts_of, ends_of}

-- The machine of the step before; 0, which binds nothing, where there is none.
abbrev pub machine_before : Option ℕ → (on : ℕ → ℕ) → ℕ
machine_before None on = 0
machine_before (Some q) on = on q

-- The start that the ends of the others allow, after `line` on its machine and `step` in its task, with the way from that one's machine.
abbrev pub start_after : Problem → (activity : ℕ) → (line step : Option ℕ) → (way : ℕ) → (ends : ℕ → ℕ) → ℕ
start_after p a line step way ends =
    greatest ends (p.predecessors a) (greatest (λ q. ends q + way) (linked step) (greatest ends (linked line) (p.release a)))

-- A link leads to one of so many ends, which can be reckoned with.
pub record Ending (ends : List ℕ) (link : Option ℕ) : Type 0 where
  pub known : Below (length ends) (linked link)
  pub small : (t : ℕ) → link ≡ Some t → get_or ends t 0 < 2 ^ 62

-- The start and the end of an activity by what is known of the others: who stands before it on its line, the machines, and the ends so far.
abbrev pub start_now : Problem → (before machines ends : List ℕ) → (activity : ℕ) → ℕ
start_now p before machines ends a =
    start_after p a (link_of before a) (task_pred p a) (p.transport (machine_before (task_pred p a) (λ q. get_or machines q 0)) (get_or machines a 0)) (λ q. get_or ends q 0)

abbrev pub span_now : Problem → (before machines : List ℕ) → (activity : ℕ) → ℕ
span_now p before machines a = span_of p a (get_or machines a 0) (setup_of p a (get_or machines a 0) (link_of before a))

abbrev pub end_now : Problem → (before machines ends : List ℕ) → (activity : ℕ) → ℕ
end_now p before machines ends a = start_now p before machines ends a + span_now p before machines a

-- All that the placing of an activity looks at is there and can be reckoned with.
pub record Placeable (p : Problem) (before machines starts ends : List ℕ) (a : ℕ) : Type 0 where
  pub known : a < p.n
  pub length_before : length before ≡ p.n
  pub length-machines : length machines ≡ p.n
  pub length_starts : length starts ≡ p.n
  pub length-ends : length ends ≡ p.n
  pub on : get_or machines a 0 < p.machines
  pub from : machine_before (task_pred p a) (λ q. get_or machines q 0) < p.machines
  pub line : Ending ends (link_of before a)
  pub step : Ending ends (task_pred p a)
  pub small : end_now p before machines ends a < 2 ^ 62

-- The table holds some problem that has the activity, and there is an end for each that it names.
pub record Bound (table ends : List ℕ) (a : ℕ) : Type 0 where
  pub held : Held table a
  pub named : Below (length ends) (held.problem.predecessors a)

-- A link to the one before on its line, and the machine, of each of n activities.
pub record Seated (n : ℕ) (lines : Lines) (before machines : List ℕ) : Type 0 where
  pub length_before : length before ≡ n
  pub length-machines : length machines ≡ n
  pub preds : (a : ℕ) → a < n → link_of before a ≡ line_pred lines a
  pub on : (a : ℕ) → a < n → get_or machines a 0 ≡ machine_of lines a

-- The whole timing order, which leaves none out.
pub record Whole (p : Problem) (lines : Lines) (order : List ℕ) : Type 0 where
  pub is : order ≡ timing_order p lines
  pub all : length order ≡ p.n

-- Each start and each end.
pub record Placement (p : Problem) (lines : Lines) (starts ends : List ℕ) : Type 0 where
  pub begun : starts ≡ starts_of p lines
  pub done : ends ≡ ends_of p lines

-- What is known of lines once they are timed.
pub record Timed (p : Problem) (lines : Lines) (order starts ends : List ℕ) : Type 0 where
  pub whole : Whole p lines order
  pub placement : Placement p lines starts ends

-- Room for what is found out about n activities: their links, the order, the starts and the ends.
pub record Rooms (n : ℕ) (before after machines places order starts ends : List ℕ) : Type 0 where
  pub length_before : length before ≡ n
  pub length-after : length after ≡ n
  pub length-machines : length machines ≡ n
  pub length-places : length places ≡ n
  pub length_order : length order ≡ n
  pub length_starts : length starts ≡ n
  pub length-ends : length ends ≡ n
