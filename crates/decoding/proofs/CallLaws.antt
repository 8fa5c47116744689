-- Numbers 1 to 5 of a plan, and else its sheet.
use Prim.Native.Nat.{ℕ}
use mathlib.Core.Path.{◌≡◌, refl, sym, ap, ◌∙◌}
use mathlib.Core.Bool.{Bool, true, false, not}
use mathlib.Core.List.{List}
use Rattle.std.specs.Prelude.{Ok}
use Rattle.words.specs.Words.{words}
use Rattle.graph.proofs.BoolLaws.{denied, granted}
use Rattle.reader.specs.Answer.{Reading}
use Rattle.reader.specs.Answer.{Answer}
use Rattle.reader.specs.Answer.{Accepted, No}
use Rattle.reader.specs.declared.refusal.Reason.{Reason}
use Rattle.plan.specs.Problem.{Problem, Genes}
use Rattle.plan.specs.Input.{problem_of, genes_of}
use Rattle.plan.specs.declared.Layout.{Layout}
use Rattle.intake.specs.Intake.{problem_in, genes_in, taken_in, laid_out}
use Rattle.intake.proofs.TakingLaws.{took}
use Rattle.board.specs.Board.{Board}
use Rattle.calls.specs.Outcome.{no}
use Rattle.decoding.specs.Decoding.{board_sheet, decoded_if, decoded_plan}

module _ (rule : Problem → Genes → Board) (s : List ℕ) {r : Reading} (e : r ≡ taken_in s) where
  pub not_decoded : {reason : Reason} {place : ℕ} → r.answer ≡ No reason place → no reason place ≡ decoded_plan rule s
  not_decoded a = ap (λ (x : Answer). decoded_if x rule s (taken_in s)) (sym a ∙ ap (λ (x : Reading). x.answer) e)

  pub decoded_plan' : r.answer ≡ Accepted → board_sheet (problem_in s r) (genes_in s r) (rule (problem_in s r) (genes_in s r)) ≡ decoded_plan rule s
  decoded_plan' a =
      ap (λ (x : Reading). board_sheet (problem_in s x) (genes_in s x) (rule (problem_in s x) (genes_in s x))) e
      ∙ ap (λ (x : Answer). decoded_if x rule s (taken_in s)) (sym a ∙ ap (λ (x : Reading). x.answer) e)

-- .. of a layout that was answered.
module _ (rule : Problem → Genes → Board) (s : List ℕ) where
  pub laid_decoded : {z : Layout} → Ok z ≡ laid_out (taken_in s)
      → board_sheet (problem_of (words s) z) (genes_of (words s) z) (rule (problem_of (words s) z) (genes_of (words s) z)) ≡ decoded_plan rule s
  laid_decoded e =
      let k = took (taken_in s) e in
      ap (λ (x : Layout). board_sheet (problem_of (words s) x) (genes_of (words s) x) (rule (problem_of (words s) x) (genes_of (words s) x))) k.1 ∙ decoded_plan' rule s refl k.0

-- Whether the results have room, as it was tested.
pub has_room : (room : Bool) {r : Bool} → r ≡ room → not r ≡ false → room ≡ true
has_room room {r} e h = sym e ∙ granted r h

pub lacks_room : (room : Bool) {r : Bool} → r ≡ room → not r ≡ true → room ≡ false
lacks_room room {r} e h = sym e ∙ denied r h
