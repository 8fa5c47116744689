-- `fitness::last_steps::late_in` meets its contract: without a deadline a task is not late.
use mathlib.Core.Path.{◌≡◌, ap, ◌∙◌}
use native.Mathlib.Omega.{arith}
use mir.Syntax.{w32}
use mir.Val.{SFits}
use mir.Facts.{to_z-of_z}
use Rattle.words.proofs.SignedLaws.{signed_fits}
use lib.IntN.{ℤ, pos, ◌-ℤ◌}
use Rattle.words.specs.Signed.{signed_word, clamp}
use borrow.Author.Tests.{eq-eqb, ne_eqb}
use Rattle.fitness.proofs.last_steps.late_in.Goals as goal

pub returns-then-of-ne1 : goal.returns-then-of-ne1
returns-then-of-ne1 c = rw (ne_eqb _ _ c.if-of-ne1.true)

pub returns : goal.returns
returns c = let r : c.signed_word-d.result ≡ signed_word c.args.of.deadline = c.signed_word-d.ensures in
    let f : SFits w32 c.signed_word-d.result = rw r (signed_fits c.args.of.deadline (omega arith)) in
    rw (eq-eqb _ _ c.if-of-ne1.false) (c.tardiness.ensures ∙ ap (λ (d : ℤ). clamp (pos c.args.done -ℤ d)) (to_z-of_z f ∙ r))
