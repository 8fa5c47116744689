-- Which number, and what a call leaves.
use Prim.Native.Nat.{ℕ, ◌≤◌}
use mathlib.Core.Path.{◌≡◌, refl, sym, subst}
use mathlib.Core.Bool.{Bool, true, false, ◌&&◌, false≢true}
use mathlib.Core.List.{List}
use lib.Dec.{leb}
use lib.ListN.{length}
use borrow.Author.Tests.{leb-true}
use Rattle.std.specs.Prelude.{Ok, Err}
use Rattle.words.specs.Words.{words}
use Rattle.reader.specs.declared.refusal.Reason.{Reason}
use Rattle.reader.specs.declared.refusal.Reason.TheVariants.{Room, Lines as Missed, Contradiction}
use Rattle.reader.specs.declared.refusal.Refusal.{Refusal}
use Rattle.plan.specs.Problem.{Problem}
use Rattle.plan.specs.Input.{problem_of}
use Rattle.plan.specs.declared.Layout.{Layout}
use Rattle.intake.specs.Intake.{taken_in, laid_out}
use Rattle.intake.proofs.TakingLaws.{took, refused_so}
use Rattle.lines.specs.Lines.{Lines}
use Rattle.timing.specs.Timing.{contradicts}
use Rattle.looking.specs.Looking.{Outcome, no, seen, sight_of, Leaves, eight_if, seven_unless, seen_lines, seen_plan, six_unless, roomy}

-- ---- numbers 6, 7 and 8

module _ (p : Problem) (lines : Lines) where
  pub eight : (b : Bool) → b ≡ true → no Contradiction 0 ≡ eight_if b p lines
  eight true e = refl
  eight false e = absurd (false≢true e)

  pub not_eight : (b : Bool) → b ≡ false → seen (sight_of p lines) ≡ eight_if b p lines
  not_eight true e = absurd (false≢true (sym e))
  not_eight false e = refl

  pub seven : (b : Bool) → b ≡ false → no Missed 0 ≡ seven_unless b p lines
  seven true e = absurd (false≢true (sym e))
  seven false e = refl

  pub not_seven : (b : Bool) → b ≡ true → eight_if (contradicts p lines) p lines ≡ seven_unless b p lines
  not_seven true e = refl
  not_seven false e = absurd (false≢true e)

module _ (o : Outcome) where
  pub six : (b : Bool) → b ≡ false → no Room 0 ≡ six_unless b o
  six true e = absurd (false≢true (sym e))
  six false e = refl

  pub not_six : (b : Bool) → b ≡ true → o ≡ six_unless b o
  not_six true e = refl
  not_six false e = absurd (false≢true e)

both : (b c : Bool) → (b && c) ≡ true → (b ≡ true) × (c ≡ true)
both true c e = (refl, e)
both false c e = absurd (false≢true e)

pub record Roomy (c p m k r : List ℕ) : Type 0 where
  pub cells : 2048 ≤ length c
  pub path : 128 ≤ length p
  pub moves : 1536 ≤ length m
  pub kept : 128 ≤ length k
  pub ranks : 128 ≤ length r

pub roomy_means : (cells path moves kept ranks : List ℕ) → roomy cells path moves kept ranks ≡ true → Roomy cells path moves kept ranks
roomy_means cells path moves kept ranks q =
    let a = both (leb 2048 (length cells)) (leb 128 (length path) && (leb 1536 (length moves) && (leb 128 (length kept) && leb 128 (length ranks)))) q in
    let b = both (leb 128 (length path)) (leb 1536 (length moves) && (leb 128 (length kept) && leb 128 (length ranks))) a.1 in
    let c = both (leb 1536 (length moves)) (leb 128 (length kept) && leb 128 (length ranks)) b.1 in
    let d = both (leb 128 (length kept)) (leb 128 (length ranks)) c.1 in
    record {
      cells = leb-true 2048 (length cells) a.0;
      path = leb-true 128 (length path) b.0;
      moves = leb-true 1536 (length moves) c.0;
      kept = leb-true 128 (length kept) d.0;
      ranks = leb-true 128 (length ranks) d.1;
    }

-- ---- what is left

pub leaves_as : {x y : Outcome} {p₀ m₀ k₀ r₀ p m k r : List ℕ} → x ≡ y → Leaves x p₀ m₀ k₀ r₀ p m k r → Leaves y p₀ m₀ k₀ r₀ p m k r
leaves_as {x} {y} {p₀} {m₀} {k₀} {r₀} {p} {m} {k} {r} e l = subst (λ (o : Outcome). Leaves o p₀ m₀ k₀ r₀ p m k r) e l

-- A refusal leaves all as it was.
pub refused : {reason : Reason} {place : ℕ} {o : Outcome} {p m k r : List ℕ} → no reason place ≡ o → Leaves o p m k r p m k r
refused e = leaves_as e (record { path = refl; moves = refl; kept = refl; ranks = refl })

-- ---- numbers 1 to 5, and else the plan is taken in

-- A layout that was answered is looked at.
pub laid_seen : (s : List ℕ) (lines : Lines) {z : Layout} → Ok z ≡ laid_out (taken_in s) → seen_lines (problem_of (words s) z) lines ≡ seen_plan s lines
laid_seen s lines e = let k = took (taken_in s) e in rw (k.0, k.1) refl

-- A refusal that was answered is what the plan is refused for.
pub refused_seen : (s : List ℕ) (lines : Lines) {f : Refusal} → Err f ≡ laid_out (taken_in s) → no f.reason f.place ≡ seen_plan s lines
refused_seen s lines e = rw (refused_so (taken_in s) e) refl
