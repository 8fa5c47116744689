-- `words::text::last_hex` meets its contract.
use native.Mathlib.Omega.{arith}
use borrow.Author.Tests.{lt-ltb, le-ltb}
use Rattle.words.proofs.text.last_hex.Goals as goal

pub returns-then-d-lt10 : goal.returns-then-d-lt10
returns-then-d-lt10 c = rw (lt-ltb _ _ c.if-d-lt10.true) (omega arith)

pub returns-else-d-lt10 : goal.returns-else-d-lt10
returns-else-d-lt10 c = rw (le-ltb _ _ c.if-d-lt10.false) (omega arith)
