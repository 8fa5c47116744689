-- Laws of a stack that an array holds, and of the state with one count lowered. Assumes nothing.
use mathlib.Core.Path.{◌≡◌, refl, ap}
use mathlib.Core.List.{List, ◌∷◌}
use Prim.Native.Nat.{ℕ, zero, suc, ◌+◌, ◌-◌, ◌≤◌, ◌<◌}
use native.Mathlib.Numerals.{add-one}
use native.Mathlib.Omega.{arith}
use lib.ListN.{length, get_or, set}
use lib.Seq.{get_or-set_same, get_or-set_other}
use borrow.Author.Tests.{eq-eqb, ne_eqb}
use Rattle.graph.specs.Order.{free}
use Rattle.graph.specs.Run.{stack_of, state_of}

stack_of-set : (s : List ℕ) (k i v : ℕ) → k ≤ i → stack_of (set s i v) k ≡ stack_of s k
unfolding stack_of
stack_of-set s zero i v h = refl
stack_of-set s (suc k) i v h = rw (get_or-set_other s i k v 0 (λ e. omega arith), stack_of-set s k i v (omega arith))

pub stack_of_push : (s : List ℕ) (top b : ℕ) → top < length s → stack_of (set s top b) (top + 1) ≡ b ∷ stack_of s top
unfolding stack_of
stack_of_push s top b h = rw (add-one, get_or-set_same s top b 0 h, stack_of-set s top top b (omega arith))

pub stack_of_pop : (s : List ℕ) (top : ℕ) → 0 < top → stack_of s top ≡ get_or s (top - 1) 0 ∷ stack_of s (top - 1)
unfolding stack_of
stack_of_pop s zero h = absurd (omega arith)
stack_of_pop s (suc t) h = let e : suc t - 1 ≡ t = omega arith in rw e

pub length-stack_of : (s : List ℕ) (k : ℕ) → length (stack_of s k) ≡ k
unfolding stack_of
length-stack_of s zero = refl
length-stack_of s (suc k) = ap suc (length-stack_of s k)

-- ---- one arc into b is met

-- a push has room
pub push_room : (c s : List ℕ) (b top : ℕ) → get_or c b 0 - 1 ≡ 0 → length (free b (state_of c s top)).stack ≤ length s → top < length s
push_room c s b top e h = let k = rw (eq-eqb _ _ e) at h in omega (arith, k, length-stack_of s top)

pub lower_push : (c s : List ℕ) (b top : ℕ) → length (free b (state_of c s top)).stack ≤ length s → get_or c b 0 - 1 ≡ 0
    → state_of (set c b (get_or c b 0 - 1)) (set s top b) (top + 1) ≡ free b (state_of c s top)
lower_push c s b top h e = rw (stack_of_push s top b (push_room c s b top e h), eq-eqb _ _ e)

pub lower_keep : (c s : List ℕ) (b top : ℕ) → (get_or c b 0 - 1 ≡ 0 → ⊥) → state_of (set c b (get_or c b 0 - 1)) s top ≡ free b (state_of c s top)
lower_keep c s b top h = rw (ne_eqb _ _ h)
