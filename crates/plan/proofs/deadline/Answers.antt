use Rattle.std.specs.Prelude.{Some}
use mathlib.Core.Path.{◌≡◌, sym, ap, ◌∙◌}
use native.Mathlib.Omega.{arith}
use mir.Syntax.{w32}
use mir.Val.{SFits}
use mir.Facts.{to_z-of_z}
use Rattle.words.proofs.SignedLaws.{signed_fits}
use Rattle.words.specs.Signed.{signed_word}
use borrow.Author.Tests.{eq-eqb, ne_eqb}
use Rattle.plan.proofs.deadline.Goals as goal

pub returns-then-flag-ne1 : goal.returns-then-flag-ne1
returns-then-flag-ne1 c = rw (ne_eqb _ _ (λ q. c.if-flag-ne1.true (c.cell_at-flag.ensures ∙ q)))

pub returns : goal.returns
returns c = let r : c.signed_word.result ≡ signed_word c.cell_at-word.result = c.signed_word.ensures in
    let f : SFits w32 c.signed_word.result = rw r (signed_fits c.cell_at-word.result (omega arith)) in
    rw (eq-eqb _ _ (sym c.cell_at-flag.ensures ∙ c.if-flag-ne1.false)) (ap Some (to_z-of_z f ∙ r ∙ ap signed_word c.cell_at-word.ensures))
