-- Document 01, "Timing and fitness", the timing order: activities waiting for nothing are stacked, lowest number first; the last stacked is
-- taken first and frees those that wait for it, in their order. A definition that runs.
use Rattle.std.specs.Prelude.{◌≡◌, Bool, true, false, List, [], ◌∷◌, ℕ, zero, suc, ◌-◌, ◌<◌, get_or, set, eqb}
use Rattle.graph.specs.Counting.{count_of}

-- how many arcs each activity still waits for, and the stack, its top first
pub record State : Type 0 where
  pub counts : List ℕ
  pub stack : List ℕ

abbrev pub push_if : Bool → ℕ → List ℕ → List ℕ
push_if true b st = b ∷ st
push_if false b st = st

-- one arc into b is met: b waits for one less, and is stacked if that leaves none
abbrev pub free : ℕ → State → State
free b s =
    record { counts = set s.counts b (get_or s.counts b 0 - 1); stack = push_if (eqb (get_or s.counts b 0 - 1) 0) b s.stack }

unfoldable pub free_all : List ℕ → State → State
free_all [] s = s
free_all (b ∷ bs) s = free_all bs (free b s)

-- the order from here on in which activities are taken, at most `most` of them
unfoldable pub order_from : (succs : ℕ → List ℕ) → ℕ → List ℕ → List ℕ → List ℕ
order_from succs zero counts stack = []
order_from succs (suc most) counts [] = []
order_from succs (suc most) counts (a ∷ stack) =
    let s = free_all (succs a) (record { counts = counts; stack = stack }) in
    a ∷ order_from succs most s.counts s.stack

-- of the m activities from k on, those that wait for nothing are put on the stack one after the other
unfoldable pub stack_free : List ℕ → ℕ → ℕ → List ℕ → List ℕ
stack_free counts zero k st = st
stack_free counts (suc m) k st = stack_free counts m (suc k) (push_if (eqb (get_or counts k 0) 0) k st)

-- the timing order of n activities
unfoldable pub order_of : (succs : ℕ → List ℕ) → ℕ → List ℕ → List ℕ
unfolding order_from stack_free
order_of succs n counts = order_from succs n counts (stack_free counts n 0 [])

-- each of a list comes once and is none of d, and what it waits for stands before it or in d
unfoldable pub InTurn : ℕ → (ℕ → ℕ → Type 0) → List ℕ → List ℕ → Type 0
InTurn n R d [] = Unit {0}
InTurn n R d (a ∷ o) = (a < n) × (count_of a d ≡ 0) × ((p : ℕ) → R p a → 0 < count_of p d) × InTurn n R (a ∷ d) o
