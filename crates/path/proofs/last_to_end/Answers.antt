-- `path::last_to_end` meets its contract. The loop's invariant: what is left, from the last so far, gives the same activity.
use Prim.Native.Nat.{ℕ, ◌+◌, ◌<◌}
use mathlib.Core.Path.{sym, subst, ◌∙◌}
use native.Mathlib.Omega.{arith}
use lib.ListN.{length}
use Rattle.path.proofs.LastLaws.{Seeking, rest_at, rest_length, begin, found, next_known, later, kept}
use Rattle.path.proofs.last_to_end.Goals as goal
use Rattle.path.proofs.last_to_end.Goals.{then-ends-last, else-ends-last}

pub loop-a-init : goal.loop-a-init
loop-a-init c = begin c.requires.0 c.requires.1

pub offset_bounds-ends-a : goal.offset_bounds-ends-a
offset_bounds-ends-a c = let h : c.loop-a.a-index + 1 < length c.args.order.now = omega (arith, c.loop-a-test.true, rest_length c.args.order.now) in
    omega (arith, next_known c.requires.0 c.requires.1 c.loop-a.invariant h, rest_at c.args.order.now c.loop-a.a-index)

pub bounds-ends-a : goal.bounds-ends-a
bounds-ends-a c = let h : c.loop-a.a-index + 1 < length c.args.order.now = omega (arith, c.loop-a-test.true, rest_length c.args.order.now) in
    omega (arith, next_known c.requires.0 c.requires.1 c.loop-a.invariant h, rest_at c.args.order.now c.loop-a.a-index)

pub loop-a-preserved : goal.loop-a-preserved
loop-a-preserved c = let h : c.loop-a.a-index + 1 < length c.args.order.now = omega (arith, c.loop-a-test.true, rest_length c.args.order.now) in
    let e = rest_at c.args.order.now c.loop-a.a-index in
    elim c.if-ends-last.branch [
      | then-ends-last w ↦
          subst (λ (x : ℕ). Seeking c.args.order.now c.args.ends.now x (c.loop-a.a-index + 1 + 1)) (sym (w.last-is ∙ e))
          (later c.requires.0 c.requires.1 c.loop-a.invariant h (rw e at w.if-ends-last.true))
      | else-ends-last w ↦
          subst (λ (x : ℕ). Seeking c.args.order.now c.args.ends.now x (c.loop-a.a-index + 1 + 1)) (sym w.last-is)
          (kept c.requires.0 c.requires.1 c.loop-a.invariant h (rw e at w.if-ends-last.false))
    ]

pub returns : goal.returns
returns c = found c.requires.0 c.requires.1 c.loop-a.invariant (omega (arith, c.loop-a-test.false, rest_length c.args.order.now))
