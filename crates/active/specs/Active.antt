-- Document 01, "Two decoders", active: scan tasks; skip and settle steps without a machine; stop a task at one whose predecessors aren't
-- settled; a scan with no candidate ends the work. Least (finish, rank) fixes the machine and moment; among candidates on it that start
-- before that finish, or that are it, the least rank is placed; ties by task. Rank is the place in the order, greatest if absent.
use Rattle.std.specs.Prelude.{ℕ, zero, suc, ◌+◌, Bool, true, false, not, ◌&&◌, ◌||◌, List, [], ◌∷◌, ◌++◌, eqb, ltb, leb, length, get_or, set, replicate, Some, None, Option}
use Rattle.plan.specs.Problem.{Problem, Genes}
use Rattle.timing.specs.Placing.{machine_before}
use Rattle.genes.specs.Indexed.{indexed, assigned_to, is_assigned}
use Rattle.board.specs.Board.{Board, empty_board, last_placed, seat_after, sit}
use Rattle.board.specs.declared.Seat.{Seat}

-- ---- ranks

-- each of a list has its place in it, counted from k
unfoldable pub ranked_from : (k : ℕ) → (activities ranks : List ℕ) → List ℕ
ranked_from k [] ranks = ranks
ranked_from k (a ∷ l) ranks = ranked_from (suc k) l (set ranks a k)

-- .. and those that are not in it all have its length, which is greater; there are 128 activities at most
abbrev pub ranks_of : (activities : List ℕ) → List ℕ
ranks_of activities = ranked_from 0 activities (replicate 128 (length activities))

-- ---- one scan of the tasks

-- who is settled, and the candidates that were found, by task
pub record Scan : Type 0 where
  pub settled : List ℕ
  pub candidates : List ℕ

abbrev pub settled_in : (settled : List ℕ) → ℕ → Bool
settled_in settled a = eqb (get_or settled a 0) 1

unfoldable pub any_unsettled : (settled : List ℕ) → List ℕ → Bool
any_unsettled settled [] = false
any_unsettled settled (b ∷ l) = not (settled_in settled b) || any_unsettled settled l

-- a task stops at its first step that is not settled and has a machine
abbrev pub stops_at : Genes → (settled : List ℕ) → ℕ → Bool
stops_at g settled a = not (settled_in settled a) && is_assigned (g.assigned a)

-- it is a candidate unless it waits for a predecessor
abbrev pub candidate_unless : (waits : Bool) → ℕ → List ℕ
candidate_unless true a = []
candidate_unless false a = a ∷ []

abbrev pub stop_at : Problem → ℕ → Scan → Scan
stop_at p a s =
    record {
      settled = s.settled;
      candidates = s.candidates ++ candidate_unless (any_unsettled s.settled (p.predecessors a)) a;
    }

-- a step before it is settled already, or has no machine and is settled now
abbrev pub pass_over : ℕ → Scan → Scan
pass_over a s = record { settled = set s.settled a 1; candidates = s.candidates }

-- a task from activity a on, with `left` steps left; `stop` says whether it stops at a
unfoldable pub scan_steps : Problem → Genes → (left : ℕ) → (stop : Bool) → (a : ℕ) → Scan → Scan
scan_steps p g zero stop a s = s
scan_steps p g (suc left) true a s = stop_at p a s
scan_steps p g (suc left) false a s = scan_steps p g left (stops_at g (set s.settled a 1) (suc a)) (suc a) (pass_over a s)

abbrev pub scan_from : Problem → Genes → (left a : ℕ) → Scan → Scan
scan_from p g left a s = scan_steps p g left (stops_at g s.settled a) a s

-- `left` tasks from task t on; a later task sees what an earlier one settled
unfoldable pub scan_tasks : Problem → Genes → (left t : ℕ) → Scan → Scan
scan_tasks p g zero t s = s
scan_tasks p g (suc left) t s = scan_tasks p g left (suc t) (scan_from p g (p.steps t) (p.first t) s)

abbrev pub scan_of : Problem → Genes → (settled : List ℕ) → Scan
scan_of p g settled = scan_tasks p g p.tasks 0 (record { settled = settled; candidates = [] })

-- ---- the candidate that is placed

abbrev pub rank : (ranks : List ℕ) → Seat → ℕ
rank ranks x = get_or ranks x.activity 0

-- a candidate's seat: its predecessors are all settled, so that each of them binds by its end
abbrev pub seat_now : Problem → Genes → (ends lines steps : List ℕ) → ℕ → Seat
seat_now p g ends lines steps a =
    seat_after p a (assigned_to g a) (last_placed p.n lines (assigned_to g a)) (last_placed p.n steps (p.task_of a))
    (p.transport (machine_before (last_placed p.n steps (p.task_of a)) (assigned_to g)) (assigned_to g a)) (λ q. get_or ends q 0)

abbrev pub pick_seat : Bool → Seat → Seat → Seat
pick_seat true x y = x
pick_seat false x y = y

-- x, if its (finish, rank) is less than that of y, who comes earlier
abbrev pub sooner : (ranks : List ℕ) → Seat → Seat → Seat
sooner ranks x y =
    pick_seat (ltb x.finish y.finish || (eqb x.finish y.finish && ltb (rank ranks x) (rank ranks y))) x y

unfoldable pub lead_from : (ranks : List ℕ) → (ℕ → Seat) → Seat → List ℕ → Seat
lead_from ranks seat y [] = y
lead_from ranks seat y (a ∷ l) = lead_from ranks seat (sooner ranks (seat a) y) l

-- on the lead's machine, and starts before its finish or is it
abbrev pub contends : (lead : Seat) → Seat → Bool
contends lead x = eqb x.machine lead.machine && (ltb x.start lead.finish || eqb x.activity lead.activity)

-- x, if it contends and no rank is less, y being the least of those after it
abbrev pub preferred : (ranks : List ℕ) → (lead : Seat) → Seat → Seat → Seat
preferred ranks lead x y = pick_seat (contends lead x && leb (rank ranks x) (rank ranks y)) x y

unfoldable pub least_rank : (ranks : List ℕ) → (ℕ → Seat) → (lead : Seat) → List ℕ → Seat
least_rank ranks seat lead [] = lead
least_rank ranks seat lead (a ∷ l) = preferred ranks lead (seat a) (least_rank ranks seat lead l)

abbrev pub lead_of : (ranks : List ℕ) → (ℕ → Seat) → List ℕ → Seat
lead_of ranks seat l = lead_from ranks seat (seat (get_or l 0 0)) l

abbrev pub chosen_of : (ranks : List ℕ) → (ℕ → Seat) → (candidates : List ℕ) → Option Seat
chosen_of ranks seat [] = None
chosen_of ranks seat (a ∷ l) = Some (least_rank ranks seat (lead_of ranks seat (a ∷ l)) (a ∷ l))

-- ---- placing

abbrev pub with_settled : Board → List ℕ → Board
with_settled b settled =
    record {
      order = b.order;
      starts = b.starts;
      ends = b.ends;
      setups = b.setups;
      lines = b.lines;
      steps = b.steps;
      settled = settled;
    }

-- what a scan of the board settles, and whom it chooses
abbrev pub scanned : Problem → Genes → Board → Board
scanned p g b = with_settled b (scan_of p g b.settled).settled

abbrev pub choice_on : Problem → Genes → (ranks : List ℕ) → Board → Option Seat
choice_on p g ranks b = chosen_of ranks (seat_now p g b.ends b.lines b.steps) (scan_of p g b.settled).candidates

-- the board is scanned; `fuel` more can be placed
unfoldable pub place_from : Problem → Genes → (ranks : List ℕ) → (fuel : ℕ) → Option Seat → Board → Board
place_from p g ranks zero choice b = b
place_from p g ranks (suc fuel) None b = b
place_from p g ranks (suc fuel) (Some x) b =
    place_from p g ranks fuel (choice_on p g ranks (sit p x b)) (scanned p g (sit p x b))

abbrev pub place_all : Problem → Genes → (ranks : List ℕ) → (fuel : ℕ) → Board → Board
place_all p g ranks fuel b = place_from p g ranks fuel (choice_on p g ranks b) (scanned p g b)

abbrev pub place_active : Problem → Genes → Board
place_active p g = place_all p g (ranks_of (indexed p g)) p.n (empty_board p.n)
