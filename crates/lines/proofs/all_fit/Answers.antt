-- `lines::all_fit` meets its contract: it is the two tests it makes. Assumes nothing.
use mathlib.Core.Path.{◌≡◌, sym, ap, ◌∙◌}
use mathlib.Core.Bool.{Bool, ◌&&◌}
use borrow.Author.Rules.{rules}
use Rattle.lines.specs.Lines.{all_zero}
use native.Mathlib.Omega.{arith}
use Prim.Native.Nat.{◌-◌}
use lib.ListN.{length, drop, length-drop}
use lib.Seq.{take_all}
use Rattle.lines.proofs.all_fit.Goals as goal

pub returns-then-not-all_short : goal.returns-then-not-all_short
returns-then-not-all_short c = sym (ap (λ (t : Bool). t && all_zero (drop c.args.machines c.args.lens)) (sym c.all_short.ensures ∙ c.if-not-all_short.true))

pub returns : goal.returns
returns c = let k : length c.args.lens ≡ 16 = search rules in
    c.all_zero.ensures
    ∙ ap all_zero (take_all (16 - c.args.machines) (drop c.args.machines c.args.lens) (omega (arith, length-drop c.args.machines c.args.lens)))
    ∙ sym (ap (λ (t : Bool). t && all_zero (drop c.args.machines c.args.lens)) (sym c.all_short.ensures ∙ c.if-not-all_short.false))
