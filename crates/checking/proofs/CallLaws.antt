-- A plan that is taken in: what the check of its sheet asks, and that its verdict is the call's.
use Prim.Native.Nat.{ℕ}
use mathlib.Core.Path.{◌≡◌, refl, sym, ap, ◌∙◌, subst}
use mathlib.Core.List.{List}
use lib.IntN.{ℤ}
use Rattle.std.specs.Prelude.{Ok}
use Rattle.words.specs.Words.{words}
use Rattle.reader.specs.Answer.{Answer}
use Rattle.plan.specs.Input.{problem_of, genes_of}
use Rattle.plan.specs.Found.{Placed}
use Rattle.plan.specs.Accepted.{Accepted}
use Rattle.plan.specs.declared.Layout.{Layout}
use Rattle.tables.specs.Tabled.{Tabled}
use Rattle.intake.specs.Intake.{laid_out, taken_in}
use Rattle.intake.proofs.Soundness.{taken_in_means}
use Rattle.intake.proofs.TakingLaws.{took}
use Rattle.sheet.specs.Sheet.{check_sheet}
use Rattle.sheet.specs.declared.Verdict.{Verdict}
use Rattle.checking.specs.Checking.{checked_if, checked}

module _ (s : List ℕ) {z : Layout} (e : Ok z ≡ laid_out (taken_in s)) where
  pub checked-plan : (rows : List ℤ) {v : Verdict} → v ≡ check_sheet (problem_of (words s) z) rows → Ok v ≡ checked s rows
  checked-plan rows ev =
      let t = took (taken_in s) e in
      ap Ok (ev ∙ ap (λ (x : Layout). check_sheet (problem_of (words s) x) rows) t.1)
      ∙ ap (λ (x : Answer). checked_if x s (taken_in s) rows) (sym t.0)

  pub taken_asks : {table : List ℕ} → Tabled (problem_of (words s) z) table
      → Placed z × Accepted (problem_of (words s) z) (genes_of (words s) z) × Tabled (problem_of (words s) z) table
  taken_asks tabled =
      let t = took (taken_in s) e in
      let sound = taken_in_means s (taken_in s) refl t.0 in
      let kept = subst (λ (x : Layout). Placed x × Accepted (problem_of (words s) x) (genes_of (words s) x)) (sym t.1) (sound.placed, sound.accepted) in
      (kept.0, kept.1, tabled)
