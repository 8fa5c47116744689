-- `active::choosing::lead_of` meets its contract. The loop's invariant: the lead of the rest and the best so far is the lead of all.
use Prim.Native.Nat.{◌+◌, ◌<◌}
use mathlib.Core.Path.{ap, ◌∙◌}
use native.Mathlib.Omega.{arith}
use lib.ListN.{length}
use Rattle.graph.proofs.CountingLaws.{below_at}
use Rattle.board.specs.declared.Seat.{Seat}
use Rattle.active.specs.Kept.{seat_in}
use Rattle.active.proofs.ChoiceLaws.{rest_at, rest_length, lead_first, lead_again, lead_end}
use Rattle.active.proofs.choosing.lead_of.Goals as goal

pub seat_at-best-requires : goal.seat_at-best-requires
seat_at-best-requires c = (c.requires.sized, below_at 32 c.args.tasks.now 0 c.requires.there c.requires.some)

pub loop-t-init : goal.loop-t-init
loop-t-init c = lead_first c.args.ranks.now (seat_in c.args.kept.now) c.args.n c.args.tasks.now c.seat_at-best.ensures (c.requires.known 0 c.requires.some) c.requires.some

pub seat_at-requires : goal.seat_at-requires
seat_at-requires c = let k = below_at 32 c.args.tasks.now (c.loop-t.t-index + 1) c.requires.there (omega (arith, c.loop-t-test.true, rest_length c.args.tasks.now)) in
    (c.requires.sized, omega (arith, k, rest_at c.args.tasks.now c.loop-t.t-index))

pub sooner-best-requires : goal.sooner-best-requires
sooner-best-requires c = let e = c.seat_at.ensures ∙ ap (seat_in c.args.kept.now) (rest_at c.args.tasks.now c.loop-t.t-index) in
    let k = c.requires.known (c.loop-t.t-index + 1) (omega (arith, c.loop-t-test.true, rest_length c.args.tasks.now)) in
    (omega (arith, ap (λ (y : Seat). y.activity) e, k, c.requires.few, c.requires.ranked), omega (arith, c.loop-t.invariant.known, c.requires.few, c.requires.ranked))

pub loop-t-preserved : goal.loop-t-preserved
loop-t-preserved c = let h : c.loop-t.t-index + 1 < length c.args.tasks.now = omega (arith, c.loop-t-test.true, rest_length c.args.tasks.now) in
    let e = c.seat_at.ensures ∙ ap (seat_in c.args.kept.now) (rest_at c.args.tasks.now c.loop-t.t-index) in
    lead_again c.loop-t.invariant h e (omega (arith, ap (λ (y : Seat). y.activity) e, c.requires.known (c.loop-t.t-index + 1) h)) c.sooner-best.ensures

pub returns : goal.returns
returns c = lead_end c.loop-t.invariant (omega (arith, c.loop-t-test.false, rest_length c.args.tasks.now))
