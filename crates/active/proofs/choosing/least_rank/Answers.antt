-- `active::choosing::least_rank` meets its contract. The loop's invariant: the best so far is the least of those looked at.
use Prim.Native.Nat.{◌-◌}
use mathlib.Core.Path.{ap}
use native.Mathlib.Omega.{arith}
use Rattle.graph.proofs.CountingLaws.{below_at}
use Rattle.board.specs.declared.Seat.{Seat}
use Rattle.active.specs.Kept.{seat_in}
use Rattle.active.proofs.ChoiceLaws.{pick_begin, pick_again}
use Rattle.active.proofs.choosing.least_rank.Goals as goal

pub loop-k-init : goal.loop-k-init
loop-k-init c = pick_begin c.args.ranks.now (seat_in c.args.kept.now) c.args.lead c.args.n c.args.tasks.now c.requires.1

pub seat_at-requires : goal.seat_at-requires
seat_at-requires c = (c.requires.0.sized, below_at 32 c.args.tasks.now (c.loop-k.k - 1) c.requires.0.there (omega (arith, c.loop-k-test.true, c.loop-k.invariant.within)))

pub loop-k-preserved : goal.loop-k-preserved
loop-k-preserved c = pick_again c.loop-k.invariant c.loop-k-test.true c.seat_at.ensures (omega (arith, ap (λ (y : Seat). y.activity) c.seat_at.ensures, c.requires.0.known (c.loop-k.k - 1) (omega (arith, c.loop-k-test.true, c.loop-k.invariant.within)))) c.preferred-best.ensures
