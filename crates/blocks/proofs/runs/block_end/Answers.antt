-- `blocks::runs::block_end` meets its contract. The loop's invariant: the run goes on up to here.
use Prim.Native.Nat.{◌+◌}
use mathlib.Core.Path.{sym, ◌∙◌}
use native.Mathlib.Omega.{arith}
use lib.ListN.{length, get_or}
use Rattle.graph.proofs.CountingLaws.{below_at}
use Rattle.blocks.proofs.RunLaws.{run_begin, run_out, run_stops, run_goes}
use Rattle.blocks.proofs.runs.block_end.Goals as goal

pub loop-last-init : goal.loop-last-init
loop-last-init c = run_begin (λ a. get_or c.args.machines.now a 0) (λ a. get_or c.args.places.now a 0) c.args.path.now c.args.i c.requires.1

pub overflow_add-last : goal.overflow_add-last
overflow_add-last c = omega (arith, c.loop-last.invariant.within, c.requires.0.few)

pub overflow_add-next : goal.overflow_add-next
overflow_add-next c = omega (arith, c.loop-last.invariant.within, c.requires.0.few)

pub offset_bounds-path-last : goal.offset_bounds-path-last
offset_bounds-path-last c = omega (arith, c.loop-last.invariant.within, c.requires.0.few)

pub bounds-path-last : goal.bounds-path-last
bounds-path-last c = omega (arith, c.loop-last.invariant.within, c.requires.0.few)

pub offset_bounds-path-next : goal.offset_bounds-path-next
offset_bounds-path-next c = omega (arith, c.loop-last.invariant.within, c.requires.0.few)

pub bounds-path-next : goal.bounds-path-next
bounds-path-next c = omega (arith, c.loop-last.invariant.within, c.requires.0.few)

pub follows-requires : goal.follows-requires
follows-requires c = (below_at (length c.args.machines.now) c.args.path.now c.loop-last.last c.requires.0.known c.loop-last.invariant.within, below_at (length c.args.machines.now) c.args.path.now (c.loop-last.last + 1) c.requires.0.known c.loop-last-test.true, c.requires.0.placed, c.requires.0.low (get_or c.args.path.now c.loop-last.last 0))

pub returns-then-not-follows : goal.returns-then-not-follows
returns-then-not-follows c = run_stops c.loop-last.invariant c.loop-last-test.true (sym c.follows.ensures ∙ c.if-not-follows.true)

pub loop-last-smaller : goal.loop-last-smaller
loop-last-smaller c = omega (arith, c.loop-last.invariant.within, c.requires.0.few)

pub loop-last-preserved : goal.loop-last-preserved
loop-last-preserved c = run_goes c.loop-last.invariant c.loop-last-test.true (sym c.follows.ensures ∙ c.if-not-follows.false)

pub returns : goal.returns
returns c = run_out c.loop-last.invariant c.loop-last-test.false
