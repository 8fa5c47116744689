-- `words::signed::clamped` meets its contract.
use mathlib.Core.Path.{sym}
use native.Mathlib.Omega.{arith}
use Rattle.words.proofs.SignedLaws.{clamp_low, clamp_high}
use Rattle.words.proofs.signed.clamped.Goals as goal

pub returns-then-w-lt-NEGATIVE_FROM : goal.returns-then-w-lt-NEGATIVE_FROM
returns-then-w-lt-NEGATIVE_FROM c = sym (clamp_low c.args.w (omega arith))

pub returns-else-w-lt-NEGATIVE_FROM : goal.returns-else-w-lt-NEGATIVE_FROM
returns-else-w-lt-NEGATIVE_FROM c = sym (clamp_high c.args.w (omega arith))
