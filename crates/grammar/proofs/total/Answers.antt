use Prim.Native.Nat.{◌+◌, ◌*◌, ◌-◌}
use native.Mathlib.Omega.{arith}
use Rattle.words.specs.Words.{words}
use Rattle.grammar.proofs.EntryLaws.{total_step, total_none}
use Rattle.grammar.proofs.total.Goals as goal

pub loop-e-preserved : goal.loop-e-preserved
loop-e-preserved c = let t = total_step (words c.args.s.now) c.args.n c.loop-e.e c.args.at c.loop-e-test.true in (omega arith, omega arith)

pub returns : goal.returns
returns c = let t = total_none (words c.args.s.now) (c.args.n - c.loop-e.e) (c.args.at + 5 * c.loop-e.e) (omega arith) in omega arith
