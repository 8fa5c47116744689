-- One activity that comes next upon a board: what its seat asks is there, and what is worked out is the seat by the rule.
use Rattle.std.specs.Prelude.{Option, ℕ}
use Prim.Native.Nat.{ℕ, ◌<◌, ◌^◌}
use mathlib.Core.Path.{◌≡◌, sym, ap, ◌∙◌}
use mathlib.Core.List.{List}
use native.Mathlib.Omega.{arith}
use lib.ListN.{get_or}
use Rattle.graph.specs.Counting.{Below}
use Rattle.graph.specs.Links.{linked}
use Rattle.plan.specs.Problem.{Problem, Genes}
use Rattle.plan.specs.Found.{transports_of, between}
use Rattle.plan.specs.Accepted.{Accepted}
use Rattle.plan.proofs.RowLaws.{between_at}
use Rattle.timing.specs.Placing.{machine_before}
use Rattle.genes.specs.Indexed.{assigned_to}
use Rattle.genes.proofs.MachineLaws.{assigned_known}
use Rattle.board.specs.Board.{Board, end_of, last_on, last_of, seat, seat_after, sit}
use Rattle.board.specs.Sound.{Sound}
use Rattle.board.specs.declared.Seat.{Seat}
use Rattle.board.proofs.SeatLaws.{last_below}
use Rattle.board.proofs.BoardLaws.{seat_is, from_known, seat_sound, ends_within}
use Rattle.in_order.specs.Waiting.{Coming}

module _ (p : Problem) (g : Genes) (ok : Accepted p g) {b : Board} {a m : ℕ} {step : Option ℕ} {way : ℕ} (k : Coming p g b a m step way) where
  pub way_small : way < 2 ^ 32
  way_small =
      omega (arith, k.moved, ok.transport (machine_before step (assigned_to g)) m (from_known p g ok (assigned_to g) (λ q h. assigned_known ok q) k.sound (p.task_of a) k.after) k.there)

  pub step_below : Below p.n (linked step)
  step_below = rw k.after (last_below p.n b.steps (p.task_of a))

  pub ends_small : (q : ℕ) → get_or b.ends q 0 < 2 ^ 61
  ends_small q = omega (arith, ends_within ok.activities.1 k.sound q)

  module _ {line : Option ℕ} (el : line ≡ last_on p b m) where
    pub line_below : Below p.n (linked line)
    line_below = rw el (last_below p.n b.lines m)

    module _ {r : Seat} (er : r ≡ seat_after p a m line step way (end_of b)) where
      pub seat_by_rule : r ≡ seat p (assigned_to g) b a m
      seat_by_rule = er ∙ seat_is p (assigned_to g) k.sound a m el k.after k.moved

      pub activity_is : r.activity ≡ a
      activity_is = ap (λ (t : Seat). t.activity) er

      machine_is : r.machine ≡ m
      machine_is = ap (λ (t : Seat). t.machine) er

      module _ {task : ℕ} (et : task ≡ p.task_of a) where
        pub task_is : task ≡ p.task_of r.activity
        task_is = et ∙ ap p.task_of (sym activity_is)

        pub room_is : task < 32
        room_is = omega (arith, et, ok.owner a k.here, ok.tasks.1)

        pub activity_known : r.activity < p.n
        activity_known = omega (arith, activity_is, k.here)

        pub machine_known : r.machine < 16
        machine_known = omega (arith, machine_is, k.there, ok.machines.1)

  pub placed_sound : Sound p.n (sit p (seat p (assigned_to g) b a m) b)
  placed_sound = seat_sound p g ok (assigned_to g) (λ q h. assigned_known ok q) k.sound a m k.here k.there k.unsettled

-- The way from the machine of the last placed of the task, as it is looked up.
pub way_is : (p : Problem) (g : Genes) → Accepted p g → {rows : List (List ℕ)} → rows ≡ transports_of p → (from m : ℕ) → from < p.machines → m < p.machines
    → between rows from m ≡ p.transport from m
way_is p g ok {rows} e from m hf hm =
    ap (λ (x : List (List ℕ)). between x from m) e ∙ between_at p.transport p.machines p.machines from m hf ok.machines.1 hm ok.machines.1

-- What is known of an activity that comes next.
pub coming_next : (p : Problem) (g : Genes) {b : Board} {a m : ℕ} {step : Option ℕ} {from way : ℕ} → Sound p.n b → a < p.n → m < p.machines → get_or b.settled a 0 ≡ 0
    → step ≡ last_of p b (p.task_of a) → from ≡ machine_before step (assigned_to g) → way ≡ p.transport from m → Coming p g b a m step way
coming_next p g {b} {a} {m} {step} {from} {way} s h k u e f w =
    record { sound = s; here = h; there = k; unsettled = u; after = e; moved = w ∙ ap (λ (x : ℕ). p.transport x m) f }
