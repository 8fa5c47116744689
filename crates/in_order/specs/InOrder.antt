-- Document 01, "Two decoders", in order: repeatedly the first activity whose predecessors and earlier task steps are taken or not in the
-- order. Without a machine it is settled, end 0, unplaced.
use Rattle.std.specs.Prelude.{ℕ, zero, suc, Bool, false, not, ◌&&◌, ◌||◌, List, [], ◌∷◌, eqb, length, get_or, set, replicate, Some, None, Option}
use Rattle.graph.specs.Links.{to_if}
use Rattle.plan.specs.Problem.{Problem, Genes}
use Rattle.lines.specs.Linking.{marked}
use Rattle.genes.specs.Indexed.{indexed, assigned_to}
use Rattle.board.specs.Board.{Board, empty_board, seat, sit, settle}

-- ---- the order in which activities are taken

-- by activity: 1 where it is in the order and not taken
abbrev pub is_pending : (pending : List ℕ) → ℕ → Bool
is_pending pending a = eqb (get_or pending a 0) 1

unfoldable pub any_pending : (pending : List ℕ) → List ℕ → Bool
any_pending pending [] = false
any_pending pending (b ∷ l) = is_pending pending b || any_pending pending l

-- an earlier step of its task is pending: the step before it, or one before that
unfoldable pub earlier_pending : Problem → (pending : List ℕ) → ℕ → Bool
earlier_pending p pending zero = false
earlier_pending p pending (suc a) = eqb (p.task_of a) (p.task_of (suc a)) && (is_pending pending a || earlier_pending p pending a)

-- its predecessors and earlier steps are taken or not in the order
abbrev pub is_ready : Problem → (pending : List ℕ) → ℕ → Bool
is_ready p pending a = not (any_pending pending (p.predecessors a) || earlier_pending p pending a)

abbrev pub can_come : Problem → (pending : List ℕ) → ℕ → Bool
can_come p pending a = is_pending pending a && is_ready p pending a

abbrev pub or_else : Option ℕ → Option ℕ → Option ℕ
or_else (Some a) other = Some a
or_else None other = other

unfoldable pub first_ready : Problem → (pending activities : List ℕ) → Option ℕ
first_ready p pending [] = None
first_ready p pending (a ∷ l) = or_else (to_if (can_come p pending a) a) (first_ready p pending l)

-- the first that is ready, then the first of those left, and so on
unfoldable pub ready_from : Problem → (activities : List ℕ) → (fuel : ℕ) → Option ℕ → (pending : List ℕ) → List ℕ
ready_from p activities zero next pending = []
ready_from p activities (suc fuel) None pending = []
ready_from p activities (suc fuel) (Some a) pending =
    a ∷ ready_from p activities fuel (first_ready p (set pending a 0) activities) (set pending a 0)

-- all of the order are pending at first; there are 128 activities at most
abbrev pub all_pending : (activities : List ℕ) → List ℕ
all_pending activities = marked activities 1 (replicate 128 0)

abbrev pub ready_order : Problem → (activities : List ℕ) → List ℕ
ready_order p activities = ready_from p activities (length activities) (first_ready p (all_pending activities) activities) (all_pending activities)

-- ---- placing them

abbrev pub seat_or_settle : Problem → Genes → ℕ → Option ℕ → Board → Board
seat_or_settle p g a None b = settle a b
seat_or_settle p g a (Some m) b = sit p (seat p (assigned_to g) b a m) b

unfoldable pub sit_all : Problem → Genes → (activities : List ℕ) → Board → Board
sit_all p g [] b = b
sit_all p g (a ∷ l) b = sit_all p g l (seat_or_settle p g a (g.assigned a) b)

abbrev pub place_in_order : Problem → Genes → Board
place_in_order p g = sit_all p g (ready_order p (indexed p g)) (empty_board p.n)
