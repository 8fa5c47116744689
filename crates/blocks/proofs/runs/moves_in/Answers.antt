-- `blocks::runs::moves_in` meets its contract.
use borrow.Author.Tests.{lt-ltb, le-ltb}
use Rattle.blocks.proofs.runs.moves_in.Goals as goal

pub returns-then-far-lt2 : goal.returns-then-far-lt2
returns-then-far-lt2 c = rw (lt-ltb _ _ c.if-far-lt2.true)

pub returns : goal.returns
returns c = rw (le-ltb _ _ c.if-far-lt2.false)
