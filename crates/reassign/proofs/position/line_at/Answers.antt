-- `reassign::position::line_at` meets its contract.
use borrow.Author.Tests.{lt-ltb, le-ltb}
use Rattle.reassign.proofs.position.line_at.Goals as goal

pub returns-then-i-line : goal.returns-then-i-line
returns-then-i-line c = rw (lt-ltb _ _ c.if-i-line.true)

pub returns : goal.returns
returns c = rw (le-ltb _ _ c.if-i-line.false)
