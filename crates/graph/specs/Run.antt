-- How two arrays hold the state of the timing order, and what the code needs of the run that the rules make: no count of 0 is lowered,
-- the stack stays within its room, and only activities are taken.
use Rattle.std.specs.Prelude.{◌≡◌, List, [], ◌∷◌, ℕ, zero, suc, ◌≤◌, ◌<◌, length, get_or}
use Rattle.graph.specs.Order.{State, free, free_all}

-- the first k of an array, the last of them first: a stack
unfoldable pub stack_of : List ℕ → ℕ → List ℕ
stack_of s zero = []
stack_of s (suc k) = get_or s k 0 ∷ stack_of s k

abbrev pub state_of : List ℕ → List ℕ → ℕ → State
state_of counts stack top = record { counts = counts; stack = stack_of stack top }

-- freeing bs lowers no count of 0, and the stack never has more than `room`
unfoldable pub Safe : List ℕ → State → ℕ → Type 0
Safe [] s room = length s.stack ≤ room
Safe (b ∷ bs) s room = (b < length s.counts) × (0 < get_or s.counts b 0) × (length (free b s).stack ≤ room) × Safe bs (free b s) room

-- the whole order takes activities below n, is safe, and ends within `most` of them
unfoldable pub SafeRun : ℕ → (ℕ → List ℕ) → ℕ → List ℕ → List ℕ → ℕ → Type 0
SafeRun n succs zero counts st room = st ≡ []
SafeRun n succs (suc most) counts [] room = Unit {0}
SafeRun n succs (suc most) counts (a ∷ st) room =
    let s = free_all (succs a) (record { counts = counts; stack = st }) in
    (a < n) × Safe (succs a) (record { counts = counts; stack = st }) room × SafeRun n succs most s.counts s.stack room
