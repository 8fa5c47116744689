use mir.Syntax.{w32}
use mir.Val.{SFits}
use mir.Facts.{to_z-of_z}
use lib.IntN.{ℤ, pos, ◌-ℤ◌}
use Rattle.words.specs.Signed.{signed_word, unsigned_word, clamp}
use Rattle.words.proofs.SignedLaws.{signed_unsigned}
use mathlib.Core.Path.{◌≡◌, ap, ◌∙◌}
use Rattle.bounds.proofs.tardiness.Goals as goal

pub returns : goal.returns
returns c = let f : SFits w32 c.in-Some.d = record { sfits = c.in-Some.known_told-1-own.given.0.1 } in
    let u : c.unsigned_word.result ≡ unsigned_word c.in-Some.d = rw (to_z-of_z f) at c.unsigned_word.ensures in
    rw c.in-Some.is (c.late_by.ensures ∙ ap (λ (z : ℤ). clamp (pos c.args.completion -ℤ z)) (ap signed_word u ∙ signed_unsigned c.in-Some.d f.sfits))
