-- A plan that was taken in is sound.
use mathlib.Core.Path.{◌≡◌, refl, sym, ap, ◌∙◌}
use mathlib.Core.Bool.{Bool, true, false}
use mathlib.Core.List.{List}
use Prim.Native.Nat.{ℕ}
use native.Mathlib.Omega.{arith}
use Rattle.reader.specs.Reading.{read_all, nothing_known}
use Rattle.reader.specs.Answer.{Reading, Answer, Accepted as Taken, No}
use Rattle.reader.proofs.AcceptedLaws.{answered}
use Rattle.plan.proofs.Accepting.{accepted_placed, accepted_layout, accepted_means}
use Rattle.intake.specs.Circle.{closes_circle}
use Rattle.intake.specs.Intake.{problem_in, genes_in, refused_if, then_circle, taken_in}
use Rattle.intake.specs.Sound.{Sound}
use Rattle.intake.proofs.BareShop.{four_is_circle}
use Rattle.intake.proofs.TakingLaws.{never_taken}

module _ (s : List ℕ) where
  -- read to the end, and no circle found
  passed : (r : Reading) → read_all s ≡ r → r.answer ≡ Taken → closes_circle (problem_in s r) ≡ false → Sound s r
  passed r er ea uncircled =
      let whole = er ∙ answered r ea in
      let ok = accepted_means s r.known r.starts whole in
      let laid = accepted_layout s r.known r.starts whole in
      record {
        accepted = ok;
        laid = laid;
        placed = accepted_placed s r.known r.starts whole;
        weighed = laid.weight nothing_known;
        acyclic = λ c. let e = (four_is_circle (problem_in s r) (genes_in s r) ok).1 c in let z : ◌≡◌ {A = ℕ} 0 1 = cc in omega arith;
      }

  circled : (r x : Reading) → read_all s ≡ x → x.answer ≡ Taken → (b : Bool) → closes_circle (problem_in s x) ≡ b → r ≡ refused_if b x → r.answer ≡ Taken → Sound s r
  circled r x er ea true e q a = never_taken (ap (λ (y : Reading). y.answer) q) a
  circled r x er ea false e q a = passed r (er ∙ sym q) a (ap (λ (y : Reading). closes_circle (problem_in s y)) q ∙ e)

  answers : (r x : Reading) → read_all s ≡ x → (a : Answer) → x.answer ≡ a → r ≡ then_circle a s x → r.answer ≡ Taken → Sound s r
  answers r x er Taken e q t = circled r x er e (closes_circle (problem_in s x)) refl q t
  answers r x er (No reason place) e q t = never_taken (ap (λ (y : Reading). y.answer) q ∙ e) t

  -- What was taken in keeps all that the record says.
  pub taken_in_means : (r : Reading) → r ≡ taken_in s → r.answer ≡ Taken → Sound s r
  taken_in_means r e t = answers r (read_all s) refl (read_all s).answer refl e t
