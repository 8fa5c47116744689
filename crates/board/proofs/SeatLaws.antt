-- The last placed read from a cell, and how late a seat can end.
use Rattle.std.specs.Prelude.{None, Option, Some, ℕ}
use Prim.Native.Nat.{ℕ, ◌+◌, ◌*◌, ◌≤◌, ◌<◌, ◌^◌}
use mathlib.Core.Path.{◌≡◌, refl}
use mathlib.Core.List.{List}
use native.Mathlib.Omega.{arith}
use borrow.Author.Tests.{lt-ltb, le-ltb, ltb-true}
use mathlib.Core.Bool.{Bool, true, false}
use lib.Dec.{ltb}
use lib.ListN.{length, get_or}
use Rattle.graph.specs.Counting.{Below}
use Rattle.graph.specs.Links.{linked, to_if}
use Rattle.graph.proofs.ShopTheorem.{greatest-least}
use Rattle.plan.specs.Problem.{Problem, Genes}
use Rattle.genes.specs.Indexed.{assigned_to}
use Rattle.plan.specs.Accepted.{Accepted, longest}
use Rattle.timing.specs.Placing.{machine_before, start_after, Ending}
use Rattle.timing.proofs.EndLaws.{span_most}
use Rattle.board.specs.Board.{last_placed, seat_after}

pub last_to : (n : ℕ) (cells : List ℕ) (k : ℕ) → get_or cells k 0 < n → Some (get_or cells k 0) ≡ last_placed n cells k
last_to n cells k h = rw (lt-ltb (get_or cells k 0) n h)

pub last_none : (n : ℕ) (cells : List ℕ) (k : ℕ) → n ≤ get_or cells k 0 → None ≡ last_placed n cells k
last_none n cells k h = rw (le-ltb (get_or cells k 0) n h)

-- Whoever was placed last is an activity.
to_below : (n a : ℕ) (t : Bool) → ltb a n ≡ t → Below n (linked (to_if t a))
unfolding Below
to_below n a true e = (ltb-true a n e, tt)
to_below n a false e = tt

pub last_below : (n : ℕ) (cells : List ℕ) (k : ℕ) → Below n (linked (last_placed n cells k))
last_below n cells k = to_below n (get_or cells k 0) (ltb (get_or cells k 0) n) refl

-- A start is no later than the latest end and the longest way.
pub start_most : (p : Problem) (g : Genes) (ok : Accepted p g) (a : ℕ) (line step : Option ℕ) (way : ℕ) (ends : ℕ → ℕ) (most ways : ℕ)
    → longest ≤ most → ((q : ℕ) → ends q ≤ most) → way ≤ ways → start_after p a line step way ends ≤ most + ways
start_most p g ok a line step way ends most ways h k w =
    greatest-least ends (p.predecessors a) _ (most + ways)
    (greatest-least (λ q. ends q + way) (linked step) _ (most + ways)
    (greatest-least ends (linked line) (p.release a) (most + ways) (omega (arith, ok.release a)) (λ q c. omega (arith, k q)))
    (λ q c. omega (arith, k q)))
    (λ q c. omega (arith, k q))

-- Nor is a finish later than that and three durations.
pub finish_most : (p : Problem) (g : Genes) (ok : Accepted p g) (a m : ℕ) → a < p.n → m < p.machines
    → (line step : Option ℕ) (way : ℕ) (ends : ℕ → ℕ) (most ways : ℕ)
    → longest ≤ most → ((q : ℕ) → ends q ≤ most) → way ≤ ways → (seat_after p a m line step way ends).finish ≤ most + ways + 3 * longest
finish_most p g ok a m ha hm line step way ends most ways h k w =
    omega (arith, start_most p g ok a line step way ends most ways h k w, span_most p g ok a m line ha hm)

-- A link of an activity can be looked up among ends that are not too late.
pub ending : {n : ℕ} {ends : List ℕ} {link : Option ℕ} → length ends ≡ n → Below n (linked link) → ((q : ℕ) → get_or ends q 0 < 2 ^ 61) → Ending ends link
ending {n} {ends} {link} e b h = record { known = rw e b; small = λ q l. omega (arith, h q) }

-- ---- an activity's machine, if it has one

pub without_machine : (o : Option ℕ) → None ≡ o → o ≡ None
without_machine None e = refl
without_machine (Some m) e = let z : ◌≡◌ {A = ℕ} 0 1 = cc in absurd (omega arith)

pub with_machine : (o : Option ℕ) (m : ℕ) → Some m ≡ o → o ≡ Some m
with_machine None m e = let z : ◌≡◌ {A = ℕ} 0 1 = cc in absurd (omega arith)
with_machine (Some x) m e = cc

pub from_none : (g : Genes) {step : Option ℕ} → step ≡ None → 0 ≡ machine_before step (assigned_to g)
from_none g e = rw e

pub from_without : (g : Genes) (q : ℕ) {step : Option ℕ} → step ≡ Some q → None ≡ (g.assigned q) → 0 ≡ machine_before step (assigned_to g)
from_without g q e h = rw (e, without_machine (g.assigned q) h)

pub from_on : (g : Genes) (q m : ℕ) {step : Option ℕ} → step ≡ Some q → Some m ≡ (g.assigned q) → m ≡ machine_before step (assigned_to g)
from_on g q m e h = rw (e, with_machine (g.assigned q) m h)
