-- What a candidate's seat asks is there, and what is worked out is its seat.
use Rattle.std.specs.Prelude.{None, Option, Some, ℕ}
use Prim.Native.Nat.{ℕ, ◌<◌, ◌^◌}
use mathlib.Core.Path.{◌≡◌, refl}
use mathlib.Core.List.{List}
use native.Mathlib.Omega.{arith}
use lib.ListN.{get_or}
use Rattle.graph.specs.Counting.{Below}
use Rattle.graph.specs.Links.{linked}
use Rattle.plan.specs.Problem.{Problem, Genes}
use Rattle.plan.specs.Accepted.{Accepted}
use Rattle.timing.specs.Placing.{machine_before}
use Rattle.genes.specs.Indexed.{assigned_to}
use Rattle.genes.proofs.MachineLaws.{assigned_known}
use Rattle.board.specs.Board.{Board, last_placed, seat_after, seat}
use Rattle.board.specs.Sound.{Sound}
use Rattle.board.specs.declared.Seat.{Seat}
use Rattle.board.proofs.BoardLaws.{seat_is}
use Rattle.active.specs.Active.{seat_now}

pub one_below : (n a : ℕ) → a < n → Below n (linked (Some a))
unfolding Below
one_below n a h = (h, tt)

module _ {p : Problem} {g : Genes} (ok : Accepted p g) where
  before_known : (step : Option ℕ) → machine_before step (assigned_to g) < p.machines
  before_known None = omega (arith, ok.machines.0)
  before_known (Some q) = assigned_known ok q

  pub from_known : (step : Option ℕ) {from : ℕ} → from ≡ machine_before step (assigned_to g) → from < p.machines
  from_known step {from} e = rw e (before_known step)

  module _ (a : ℕ) (step : Option ℕ) {m from way : ℕ} (em : m ≡ assigned_to g a) (ef : from ≡ machine_before step (assigned_to g)) (ew : way ≡ p.transport from m) where
    pub way_small : way < 2 ^ 32
    way_small = omega (arith, ew, ok.transport from m (from_known step ef) (rw em (assigned_known ok a)))

    module _ (ends lines steps : List ℕ) {task : ℕ} {line : Option ℕ} {r : Seat} (el : line ≡ last_placed p.n lines m) (et : task ≡ p.task_of a) (es : step ≡ last_placed p.n steps task)
        (er : r ≡ seat_after p a m line step way (λ q. get_or ends q 0)) where
      pub seat_now_is : r ≡ seat_now p g ends lines steps a
      seat_now_is = rw (er, ew, ef, es, el, et, em)

-- On a sound board it is the seat by the rule that both decoders share.
pub seat_by_rule : (p : Problem) (g : Genes) {b : Board} → Sound p.n b → (a : ℕ)
    → seat_now p g b.ends b.lines b.steps a ≡ seat p (assigned_to g) b a (assigned_to g a)
seat_by_rule p g {b} s a = seat_is p (assigned_to g) s a (assigned_to g a) refl refl refl
