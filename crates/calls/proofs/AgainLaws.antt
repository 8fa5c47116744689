-- Lines timed so many times: each time leaves the same.
use Prim.Native.Nat.{ℕ, zero, suc, ◌≤◌, ◌<◌}
use mathlib.Core.Path.{◌≡◌, refl, sym, ap, ◌∙◌}
use mathlib.Core.Bool.{Bool, true, false, false≢true}
use mathlib.Core.List.{List}
use native.Mathlib.Omega.{arith}
use lib.ListN.{get_or}
use Rattle.std.specs.Prelude.{Ok, Err}
use Rattle.words.specs.Words.{words}
use Rattle.plan.specs.Problem.{Problem}
use Rattle.plan.specs.Input.{problem_of}
use Rattle.plan.specs.declared.Layout.{Layout}
use Rattle.lines.specs.Lines.{Lines}
use Rattle.reader.specs.Answer.{Reading}
use Rattle.reader.specs.Answer.{Answer}
use Rattle.reader.specs.Answer.{Accepted, No}
use Rattle.reader.specs.declared.refusal.Reason.{Reason}
use Rattle.reader.specs.declared.refusal.Refusal.{Refusal}
use Rattle.lines.specs.Lines.{well_formed}
use Rattle.intake.specs.Intake.{problem_in, taken_in, laid_out}
use Rattle.intake.proofs.TakingLaws.{took, refused_so}
use Rattle.timing.specs.Timing.{contradicts}
use Rattle.timing.specs.Placing.{Rooms, Timed}
use Rattle.fitness.specs.Fitness.{makespan_of}
use Rattle.calls.specs.Timing.{makespan_on, last_of, again_if, taken_again, zero_unless}

pub record Going (p : Problem) (lines : Lines) (times : ℕ) (before after on places order begun done : List ℕ) (i : ℕ) : Type 0 where
  pub within : i ≤ times
  pub rooms : Rooms p.n before after on places order begun done
  pub agreed : 0 < i → contradicts p lines ≡ false
  pub timed : 0 < i → Timed p lines order begun done

module _ (p : Problem) (lines : Lines) where
  pub stopped : (times : ℕ) (b : Bool) → b ≡ true → 0 ≡ last_of times b p lines
  stopped zero b e = refl
  stopped (suc times) true e = refl
  stopped (suc times) false e = absurd (false≢true e)

  pub never_begun : (times : ℕ) → times ≡ 0 → 0 ≡ last_of times (contradicts p lines) p lines
  never_begun zero e = refl
  never_begun (suc times) e = absurd (omega arith)

  pub last_is : (times : ℕ) (b : Bool) → (times ≡ 0 → ⊥) → b ≡ false → {x : ℕ} → x ≡ makespan_on p lines → x ≡ last_of times b p lines
  last_is zero b h e q = absurd (h refl)
  last_is (suc times) true h e q = absurd (false≢true (sym e))
  last_is (suc times) false h e q = q

  pub makespan_is : {order begun done : List ℕ} → Timed p lines order begun done → makespan_of p (λ a. get_or done a 0) ≡ makespan_on p lines
  makespan_is t = ap (λ (l : List ℕ). makespan_of p (λ a. get_or l a 0)) t.placement.done

  pub unfit : (b : Bool) (times : ℕ) → b ≡ false → 0 ≡ again_if b times p lines
  unfit true times e = absurd (false≢true (sym e))
  unfit false times e = refl

  pub fit : (b : Bool) (times : ℕ) → b ≡ true → last_of times (contradicts p lines) p lines ≡ again_if b times p lines
  fit true times e = refl
  fit false times e = absurd (false≢true e)

module _ (s : List ℕ) (lines : Lines) (times : ℕ) {r : Reading} (e : r ≡ taken_in s) where
  pub not_taken : {reason : Reason} {place : ℕ} → r.answer ≡ No reason place → 0 ≡ taken_again (taken_in s).answer times s (taken_in s) lines
  not_taken a = ap (λ (x : Answer). taken_again x times s (taken_in s) lines) (sym a ∙ ap (λ (x : Reading). x.answer) e)

  pub taken : r.answer ≡ Accepted → again_if (well_formed (problem_in s r).n (problem_in s r).machines lines) times (problem_in s r) lines ≡ taken_again (taken_in s).answer times s (taken_in s) lines
  taken a =
      ap (λ (x : Reading). again_if (well_formed (problem_in s x).n (problem_in s x).machines lines) times (problem_in s x) lines) e
      ∙ ap (λ (x : Answer). taken_again x times s (taken_in s) lines) (sym a ∙ ap (λ (x : Reading). x.answer) e)

-- .. of a layout that was answered, and of a refusal.
pub laid_again : (s : List ℕ) (lines : Lines) (times : ℕ) {z : Layout} → Ok z ≡ laid_out (taken_in s)
    → again_if (well_formed z.activities z.machines lines) times (problem_of (words s) z) lines ≡ taken_again (taken_in s).answer times s (taken_in s) lines
laid_again s lines times e =
    let k = took (taken_in s) e in
    ap (λ (x : Layout). again_if (well_formed x.activities x.machines lines) times (problem_of (words s) x) lines) k.1 ∙ taken s lines times refl k.0

pub refused_again : (s : List ℕ) (lines : Lines) (times : ℕ) {f : Refusal} → Err f ≡ laid_out (taken_in s) → 0 ≡ taken_again (taken_in s).answer times s (taken_in s) lines
refused_again s lines times e = not_taken s lines times refl (refused_so (taken_in s) e)

pub too_short : (b : Bool) (x : ℕ) → b ≡ false → 0 ≡ zero_unless b x
too_short true x e = absurd (false≢true (sym e))
too_short false x e = refl

pub long_enough : (b : Bool) (x : ℕ) → b ≡ true → x ≡ zero_unless b x
long_enough true x e = refl
long_enough false x e = absurd (false≢true e)
