-- Document 01, "One search step": if any activity has two candidates, add reassignments: for path activities in order, each other candidate
-- in order, positions p from (leading activities there with end <= own start) to (leading with start < own end). Length = greatest of task
-- predecessor's end, release, predecessors' ends, end before p; plus own three times there; plus greatest of span + tail over task
-- successor, waiting activities, activity at p. Absent terms are 0. Least length, then least p. No p, no move. Keep three by
-- (length, time), ties as given.
use Rattle.std.specs.Prelude.{ℕ, zero, suc, ◌+◌, ◌-◌, Bool, true, false, cond, ◌||◌, List, [], ◌∷◌, ◌++◌, eqb, ltb, leb, length, get_or, Some, None, Option}
use Rattle.graph.specs.Links.{linked, to_if}
use Rattle.graph.specs.Shop.{greatest}
use Rattle.plan.specs.Problem.{Problem}
use Rattle.tables.specs.Tabled.{task_pred, task_succ}
use Rattle.lines.specs.Lines.{Lines, machine_of, position_of}
use Rattle.moves.specs.Moves.{line_of}
use Rattle.moves.specs.declared.Move.TheVariants.{Reassign}
use Rattle.ranking.specs.Ranking.{best_three}
use Rattle.ranking.specs.declared.held.Rated.{Rated}
use Rattle.path.specs.Placing.{Placing, start_at, end_at}
use Rattle.path.specs.Tails.{after}
use Rattle.reassign.specs.declared.Way.{Way}
use Rattle.reassign.specs.declared.Spot.{Spot}
use Rattle.reassign.specs.declared.Leaving.{Leaving}

-- ---- whether there are any

-- one of so many numbers from `at` on passes a test
unfoldable pub any_from : (ℕ → Bool) → (count at : ℕ) → Bool
any_from test zero at = false
any_from test (suc count) at = test at || any_from test count (suc at)

-- any activity has two candidates
abbrev pub flexible : Problem → Bool
flexible p = any_from (λ a. leb 2 (length (p.candidates a))) p.n 0

-- ---- positions on a line

-- how many pass before the first that does not
unfoldable pub leading : (ℕ → Bool) → List ℕ → ℕ
leading test [] = 0
leading test (x ∷ line) = cond (test x) (suc (leading test line)) 0

-- the first and the last position of an activity, both included
abbrev pub first_place : Placing → (line : List ℕ) → (activity : ℕ) → ℕ
first_place s line a = leading (λ x. leb (end_at s x) (start_at s a)) line

abbrev pub last_place : Placing → (line : List ℕ) → (activity : ℕ) → ℕ
last_place s line a = leading (λ x. ltb (start_at s x) (end_at s a)) line

-- who stands at a position, and before it
abbrev pub line_at : List ℕ → ℕ → Option ℕ
line_at line i = to_if (ltb i (length line)) (get_or line i 0)

abbrev pub line_before : List ℕ → ℕ → Option ℕ
line_before line zero = None
line_before line (suc i) = line_at line i

-- ---- the longest way through an activity

-- what is before it and behind it on no line
abbrev pub head_of : Problem → Placing → ℕ → ℕ
head_of p s a = greatest (end_at s) (p.predecessors a ++ linked (task_pred p a)) (p.release a)

abbrev pub rest_of : Problem → Placing → (tail : List ℕ) → ℕ → ℕ
rest_of p s tail a = greatest (after s tail) (linked (task_succ p a) ++ p.waiting a) 0

-- its own three times on a machine
abbrev pub time_on : Problem → (activity machine : ℕ) → ℕ
time_on p a m = p.setup a m + p.process a m + p.teardown a m

-- head, time and rest, with those on the line before position i and at it
abbrev pub length_at : Placing → (tail line : List ℕ) → Way → ℕ → ℕ
length_at s tail line way i =
    greatest (end_at s) (linked (line_before line i)) way.head + way.time + greatest (after s tail) (linked (line_at line i)) way.rest

-- least length, then least position, of one position and of so many from `at` on
unfoldable pub least : (lengths : ℕ → ℕ) → (best at count : ℕ) → ℕ
least lengths best at zero = best
least lengths best at (suc count) = least lengths (cond (ltb (lengths at) (lengths best)) at best) (suc at) count

abbrev pub least_of : (lengths : ℕ → ℕ) → (first last : ℕ) → ℕ
least_of lengths first last = least lengths first (suc first) (last - first)

abbrev pub spot_of : (lengths : ℕ → ℕ) → (first last : ℕ) → Spot
spot_of lengths first last = record { length = lengths (least_of lengths first last); place = least_of lengths first last }

-- ---- one activity to one machine

abbrev pub leaving_of : Problem → Lines → Placing → (tail : List ℕ) → (activity : ℕ) → Leaving
leaving_of p lines s tail a =
    record { activity = a; machine = machine_of lines a; place = position_of lines a; head = head_of p s a; rest = rest_of p s tail a }

abbrev pub way_of : Leaving → (time : ℕ) → Way
way_of l time = record { head = l.head; time = time; rest = l.rest }

-- whether there is a position on a line, and the best of them
abbrev pub any_place : Placing → (line : List ℕ) → (activity : ℕ) → Bool
any_place s line a = leb (first_place s line a) (last_place s line a)

abbrev pub best_spot : Placing → (tail line : List ℕ) → Leaving → (time : ℕ) → Spot
best_spot s tail line l time =
    spot_of (length_at s tail line (way_of l time)) (first_place s line l.activity) (last_place s line l.activity)

abbrev pub room_if : Bool → Spot → Option Spot
room_if true spot = Some spot
room_if false spot = None

abbrev pub room_in : Placing → (tail line : List ℕ) → Leaving → (time : ℕ) → Option Spot
room_in s tail line l time = room_if (any_place s line l.activity) (best_spot s tail line l time)

abbrev pub rated_at : Leaving → (to time : ℕ) → Spot → Rated
rated_at l to time spot =
    record { length = spot.length; time = time; made = Reassign l.activity l.machine l.place to spot.place }

abbrev pub one_if : Bool → Rated → List Rated
one_if true x = x ∷ []
one_if false x = []

-- no position, no move
abbrev pub on_line : Placing → (tail line : List ℕ) → Leaving → (to time : ℕ) → List Rated
on_line s tail line l to time =
    one_if (any_place s line l.activity) (rated_at l to time (best_spot s tail line l time))

-- none to its own machine
abbrev pub to_machine : Problem → Lines → Placing → (tail : List ℕ) → Leaving → (machine : ℕ) → List Rated
to_machine p lines s tail l m =
    cond (eqb m l.machine) [] (on_line s tail (line_of lines m) l m (time_on p l.activity m))

-- ---- all of them

-- what f gives for each, one after the other
unfoldable pub gathered : (ℕ → List Rated) → List ℕ → List Rated
gathered f [] = []
gathered f (x ∷ l) = f x ++ gathered f l

abbrev pub of_activity : Problem → Lines → Placing → (tail : List ℕ) → (activity : ℕ) → List Rated
of_activity p lines s tail a = gathered (to_machine p lines s tail (leaving_of p lines s tail a)) (p.candidates a)

abbrev pub reassignments : Problem → Lines → Placing → (tail path : List ℕ) → List Rated
reassignments p lines s tail path = gathered (of_activity p lines s tail) path

abbrev pub best_reassignments : Problem → Lines → Placing → (tail path : List ℕ) → List Rated
best_reassignments p lines s tail path = cond (flexible p) (best_three (reassignments p lines s tail path)) []
