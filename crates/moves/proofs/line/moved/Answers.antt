-- `moves::line::moved` meets its contract: at the target, in front of both places, between them either way, behind both. Assumes nothing.
use Prim.Native.Nat.{◌-◌}
use native.Mathlib.Omega.{arith}
use Rattle.moves.proofs.LineLaws.{moved_there, moved_front, moved_forward, moved-behind, moved_back}
use Rattle.moves.proofs.line.moved.Goals as goal

pub returns-then-k-to : goal.returns-then-k-to
returns-then-k-to c = moved_there c.args.line.now c.args.from c.args.to c.requires.0 c.requires.1 c.args.k c.if-k-to.true

pub returns-then-k-from : goal.returns-then-k-from
returns-then-k-from c = moved_front c.args.line.now c.args.from c.args.to c.requires.0 c.requires.1 c.args.k (omega arith) (omega arith)

pub returns-then-k-to-2 : goal.returns-then-k-to-2
returns-then-k-to-2 c = moved_forward c.args.line.now c.args.from c.args.to c.requires.0 c.requires.1 c.args.k (omega arith) (omega arith)

pub returns-then-from-k : goal.returns-then-from-k
returns-then-from-k c = moved-behind c.args.line.now c.args.from c.args.to c.requires.0 c.requires.1 c.args.k (omega arith) (omega arith)

pub returns : goal.returns
returns c = moved_back c.args.line.now c.args.from c.args.to c.requires.0 c.requires.1 c.args.k (c.args.k - 1) (omega arith) (omega arith) (omega arith)
