-- `trial::copy` meets its contract. The loop's invariant: the first i are copied. Assumes nothing.
use mathlib.Core.Path.{refl, sym, ap, ◌∙◌}
use mathlib.Core.List.{List}
use Prim.Native.Nat.{ℕ}
use native.Mathlib.Numerals.{add-one}
use native.Mathlib.Omega.{arith}
use lib.ListN.{set, length-set}
use Rattle.trial.proofs.CopyLaws.{copied, copied_next, copied_all}
use Rattle.trial.proofs.copy.Goals as goal

pub loop-i-init : goal.loop-i-init
unfolding copied
loop-i-init g c = (c.requires, refl)

pub loop-i-preserved : goal.loop-i-preserved
loop-i-preserved g c = (
  length-set c.loop-i.to c.loop-i.i c.index-from-i.result ∙ c.loop-i.invariant.0,
  ap (λ l. set l c.loop-i.i c.index-from-i.result) c.loop-i.invariant.1
      ∙ copied_next c.loop-i.i c.args.from.now c.args.to.now c.index-from-i.result c.loop-i-test.true c.requires c.index-from-i.is
      ∙ ap (λ (j : ℕ). copied j c.args.from.now c.args.to.now) (sym (add-one c.loop-i.i)),
)

pub returns : goal.returns
returns g c = c.loop-i.invariant.1 ∙ copied_all c.loop-i.i c.args.from.now c.args.to.now c.loop-i-test.false c.requires
