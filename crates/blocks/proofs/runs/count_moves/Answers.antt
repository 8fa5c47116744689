-- `blocks::runs::count_moves` meets its contract. The loop's invariant: those counted and those of the rest of the path are all.
use Prim.Native.Nat.{◌-◌}
use native.Mathlib.Omega.{arith}
use lib.ListN.{get_or}
use Rattle.blocks.proofs.RunLaws.{count_begin, few_moves, count_all, count_again}
use Rattle.blocks.proofs.runs.count_moves.Goals as goal

pub loop-i-init : goal.loop-i-init
loop-i-init c = count_begin (λ a. get_or c.args.machines.now a 0) (λ a. get_or c.args.places.now a 0) c.args.path.now

pub block_end-last-requires : goal.block_end-last-requires
block_end-last-requires c = (c.requires, c.loop-i-test.true)

pub overflow_add-count : goal.overflow_add-count
overflow_add-count c = let few = few_moves (c.block_end-last.result - c.loop-i.i) in omega (arith, few, c.moves_in-count.ensures, c.requires.few)

pub loop-i-preserved : goal.loop-i-preserved
loop-i-preserved c = count_again c.loop-i.invariant c.block_end-last.ensures c.moves_in-count.ensures

pub returns : goal.returns
returns c = count_all c.loop-i.invariant c.loop-i-test.false
