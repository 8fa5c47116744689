-- `words::text::last_decimal` meets its contract.
use Prim.Native.Nat.{◌%◌}
use native.Mathlib.Omega.{arith}
use borrow.Author.Tests.{lt-ltb}
use Rattle.words.proofs.text.last_decimal.Goals as goal

pub returns : goal.returns
returns c = rw (lt-ltb (c.args.v % 10) 10 (omega arith)) (omega arith)
