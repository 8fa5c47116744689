-- What holds of every board of the active decoder, and of those in order if the order gives everybody, beside Sound: whoever is placed lasts as long
-- as its place on its machine's line asks, and starts no sooner than its release and the ends of all that it waits for. These were settled before it
-- was placed, so that no later placing moves them.
use Rattle.std.specs.Prelude.{ℕ, zero, suc, ◌+◌, ◌≤◌, ◌<◌, ◌≡◌, cond, List, eqb, length, get_or, Some, None, Option}
use Rattle.graph.specs.Counting.{count_of}
use Rattle.plan.specs.Problem.{Problem}
use Rattle.tables.specs.Tabled.{task_pred}
use Rattle.sheet.specs.Lawful.{span_from}
use Rattle.board.specs.Board.{Board, end_of, last_on, last_of}
use Rattle.board.specs.Sound.{Sound}
use Rattle.accepted_sheets.specs.SheetRows.{start_of}

-- of the first k of a list, the last that is on a machine
unfoldable pub last_before : (on : ℕ → ℕ) → (order : List ℕ) → (machine k : ℕ) → Option ℕ
last_before on order m zero = None
last_before on order m (suc k) = cond (eqb (on (get_or order k 0)) m) (Some (get_or order k 0)) (last_before on order m k)

-- placed, or passed over for want of a machine: its end stays as it is
abbrev pub Settled : Board → ℕ → Type 0
Settled b a = get_or b.settled a 0 ≡ 1

-- q is settled, and a does not start before its end
pub record Awaited (b : Board) (q a : ℕ) : Type 0 where
  pub settled : Settled b q
  pub ended : end_of b q ≤ start_of b a

-- an activity that is placed, after `line` on its machine
pub record Seated (p : Problem) (on : ℕ → ℕ) (b : Board) (a : ℕ) (line : Option ℕ) : Type 0 where
  pub lasts : end_of b a ≡ start_of b a + span_from p a (on a) line
  pub released : p.release a ≤ start_of b a
  pub lined : (q : ℕ) → line ≡ Some q → Awaited b q a
  pub stepped : (q : ℕ) → task_pred p a ≡ Some q → Awaited b q a
  pub named : (q : ℕ) → 0 < count_of q (p.predecessors a) → Awaited b q a

-- `on` has the machine of each activity
pub record Orderly (p : Problem) (on : ℕ → ℕ) (b : Board) : Type 0 where
  pub sound : Sound p.n b
  pub each : (i : ℕ) → i < length b.order → Seated p on b (get_or b.order i 0) (last_before on b.order (on (get_or b.order i 0)) i)
  -- the cells of the machines tell of the last placed there
  pub last_on : (m : ℕ) → m < 16 → last_on p b m ≡ last_before on b.order m (length b.order)
  -- the steps of a task are settled one after the other, and its cell tells of the last of them, if that one is placed
  pub stepwise : (a q : ℕ) → Settled b a → q < a → p.task_of q ≡ p.task_of a → Settled b q
  pub last_of_lem : (q : ℕ) → 0 < count_of q b.order → p.task_of q ≡ p.task_of (suc q) → get_or b.settled (suc q) 0 ≡ 0 → last_of p b (p.task_of q) ≡ Some q
  -- who is not placed has no end
  pub unplaced : (a : ℕ) → count_of a b.order ≡ 0 → end_of b a ≡ 0

-- who may be placed next: it is not settled, and all that it waits for is
pub record Next (p : Problem) (b : Board) (a : ℕ) : Type 0 where
  pub here : a < p.n
  pub free : get_or b.settled a 0 ≡ 0
  pub steps : (q : ℕ) → q < a → p.task_of q ≡ p.task_of a → Settled b q
  pub named : (q : ℕ) → 0 < count_of q (p.predecessors a) → Settled b q
