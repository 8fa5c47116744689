-- What is kept from one placing to the next, in rows of 32 cells, one for each task: how far it is passed, where it ends, and the seat of
-- its next activity. What is written here decides nothing: it is what the rules would work out again.
use Rattle.std.specs.Prelude.{ℕ, zero, suc, ◌+◌, ◌≤◌, ◌<◌, ◌≡◌, Bool, false, cond, not, ◌&&◌, List, [], ◌∷◌, eqb, length, get_or, slice_index_or, set, None, Option, is_some}
use Rattle.plan.specs.Problem.{Problem, Genes}
use Rattle.board.specs.declared.Seat.{Seat}
use Rattle.graph.specs.Counting.{Below}
use Rattle.active.specs.Active.{settled_in, any_unsettled, scan_of, seat_now}

-- ---- machines by activity

pub record Manned (g : Genes) (n : ℕ) (on : List (Option ℕ)) : Type 0 where
  pub sized : length on ≡ 128
  pub given : (a : ℕ) → a < n → slice_index_or on a None ≡ g.assigned a

-- a task stops at an activity that is not settled and has a machine
abbrev pub stops_here : (on : List (Option ℕ)) (settled : List ℕ) → ℕ → Bool
stops_here on settled a = not (settled_in settled a) && is_some (slice_index_or on a None)

-- ---- the rows

-- where each begins, after the first
abbrev pub last_row : ℕ
last_row = 32

abbrev pub activity_row : ℕ
activity_row = 64

abbrev pub machine_row : ℕ
machine_row = 96

abbrev pub start_row : ℕ
start_row = 128

abbrev pub finish_row : ℕ
finish_row = 160

abbrev pub setup_row : ℕ
setup_row = 192

abbrev pub next_in : (kept : List ℕ) → ℕ → ℕ
next_in kept t = get_or kept t 0

abbrev pub last_in : (kept : List ℕ) → ℕ → ℕ
last_in kept t = get_or kept (last_row + t) 0

-- the activity whose seat is kept; a number that is no activity stands for none
abbrev pub held_in : (kept : List ℕ) → ℕ → ℕ
held_in kept t = get_or kept (activity_row + t) 0

abbrev pub seat_in : (kept : List ℕ) → ℕ → Seat
seat_in kept t =
    record {
      activity = get_or kept (activity_row + t) 0;
      machine = get_or kept (machine_row + t) 0;
      start = get_or kept (start_row + t) 0;
      finish = get_or kept (finish_row + t) 0;
      setup = get_or kept (setup_row + t) 0;
    }

-- a task's seat written
abbrev pub with_seat : (kept : List ℕ) → ℕ → Seat → List ℕ
with_seat kept t x =
    set (set (set (set (set kept (activity_row + t) x.activity) (machine_row + t) x.machine) (start_row + t) x.start) (finish_row + t) x.finish) (setup_row + t) x.setup

-- .. where it is not kept already
abbrev pub keep_seat : Problem → Genes → (ends lines steps kept : List ℕ) → (t a : ℕ) → List ℕ
keep_seat p g ends lines steps kept t a = cond (eqb (held_in kept t) a) kept (with_seat kept t (seat_now p g ends lines steps a))

-- the seats on a machine forgotten, of the first k tasks
unfoldable pub forgotten : (none machine : ℕ) → ℕ → (kept : List ℕ) → List ℕ
forgotten n m zero kept = kept
forgotten n m (suc k) kept = cond (eqb (get_or kept (machine_row + k) 0) m) (set (forgotten n m k kept) (activity_row + k) n) (forgotten n m k kept)

-- the activities whose seats some tasks keep
unfoldable pub held_by : (kept tasks : List ℕ) → List ℕ
held_by kept [] = []
held_by kept (t ∷ l) = held_in kept t ∷ held_by kept l

-- ---- what holds of them

-- A kept seat: that of an activity of its task that waits for none.
pub record Holds (p : Problem) (g : Genes) (kept ends lines steps settled : List ℕ) (t : ℕ) : Type 0 where
  pub owned : p.task_of (held_in kept t) ≡ t
  pub free : any_unsettled settled (p.predecessors (held_in kept t)) ≡ false
  pub seat : seat_in kept t ≡ seat_now p g ends lines steps (held_in kept t)

-- All steps of a task before its next one are settled.
pub record Fronts (p : Problem) (kept settled : List ℕ) : Type 0 where
  pub last : (t : ℕ) → t < p.tasks → last_in kept t ≡ p.first t + p.steps t
  pub above : (t : ℕ) → t < p.tasks → p.first t ≤ next_in kept t
  pub below : (t : ℕ) → t < p.tasks → next_in kept t ≤ p.first t + p.steps t
  pub passed : (t : ℕ) → t < p.tasks → (i : ℕ) → p.first t ≤ i → i < next_in kept t → get_or settled i 0 ≡ 1

-- Whoever was placed last on a machine or of a task is settled.
pub record Told (n : ℕ) (lines steps settled : List ℕ) : Type 0 where
  pub lined : (m : ℕ) → m < 16 → get_or lines m 0 < n → get_or settled (get_or lines m 0) 0 ≡ 1
  pub stepped : (t : ℕ) → t < 32 → get_or steps t 0 < n → get_or settled (get_or steps t 0) 0 ≡ 1

pub record Kept (p : Problem) (g : Genes) (kept ends lines steps settled : List ℕ) : Type 0 where
  pub sized : length kept ≡ 224
  pub fronts : Fronts p kept settled
  pub told : Told p.n lines steps settled
  pub holds : (t : ℕ) → t < p.tasks → held_in kept t < p.n → Holds p g kept ends lines steps settled t

-- At the beginning nothing is passed, and no seat is kept.
pub record Fresh (p : Problem) (kept : List ℕ) : Type 0 where
  pub sized : length kept ≡ 224
  pub next : (t : ℕ) → t < p.tasks → next_in kept t ≡ p.first t
  pub last : (t : ℕ) → t < p.tasks → last_in kept t ≡ p.first t + p.steps t
  pub none : (t : ℕ) → t < p.tasks → held_in kept t ≡ p.n

-- ---- the scan

-- All tasks are scanned: the candidates are those whose seats the tasks offered keep.
pub record ScannedAll (p : Problem) (g : Genes) (settled₀ settled kept ends lines steps offered : List ℕ) : Type 0 where
  pub keeping : Kept p g kept ends lines steps settled
  pub scanned : record { settled = settled; candidates = held_by kept offered } ≡ scan_of p g settled₀
  pub tasks : Below p.tasks offered
  pub known : (k : ℕ) → k < length offered → held_in kept (get_or offered k 0) < p.n

-- ---- tasks whose seats are compared

pub record Offered (n : ℕ) (ranks kept tasks : List ℕ) : Type 0 where
  pub sized : length kept ≡ 224
  pub there : Below 32 tasks
  pub known : (k : ℕ) → k < length tasks → held_in kept (get_or tasks k 0) < n
  pub ranked : length ranks ≡ 128
  pub few : n ≤ 128
  pub some : 0 < length tasks
