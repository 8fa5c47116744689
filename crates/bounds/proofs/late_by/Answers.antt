use mathlib.Core.Path.{sym}
use native.Mathlib.Omega.{arith}
use Rattle.bounds.proofs.LateLaws.{late_low, late_high}
use Rattle.bounds.proofs.late_by.Goals as goal

pub returns-then-completion-d : goal.returns-then-completion-d
returns-then-completion-d c = rw (late_low c.args.completion c.args.deadline c.if-deadline-lt2147483648.true) (omega arith)

pub returns-then-deadline-lt2147483648 : goal.returns-then-deadline-lt2147483648
returns-then-deadline-lt2147483648 c = rw (late_low c.args.completion c.args.deadline c.if-deadline-lt2147483648.true)

pub returns : goal.returns
returns c = sym (late_high c.args.completion c.args.deadline c.if-deadline-lt2147483648.false (omega arith))
