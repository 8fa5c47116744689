-- `reassign::position::line_before` meets its contract.
use mathlib.Core.Path.{◌≡◌, sym, ap, ◌∙◌}
use native.Mathlib.Omega.{arith}
use Prim.Native.Nat.{suc, ◌-◌}
use Rattle.reassign.specs.Reassignments.{line_before}
use Rattle.reassign.proofs.position.line_before.Goals as goal

pub returns-then-i-eq0 : goal.returns-then-i-eq0
returns-then-i-eq0 c = rw c.if-i-eq0.true

pub returns : goal.returns
returns c = let e : c.args.i ≡ suc (c.args.i - 1) = omega (arith, c.if-i-eq0.false) in
    c.line_at.ensures ∙ ap (line_before c.args.line.now) (sym e)
