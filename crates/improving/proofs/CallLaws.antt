-- What the call answers and what it leaves, case by case.
use Prim.Native.Nat.{ℕ, ◌≤◌}
use mathlib.Core.Path.{◌≡◌, refl, sym, ap, ◌∙◌}
use mathlib.Core.Bool.{Bool, true, false, ◌&&◌, false≢true}
use mathlib.Core.List.{List}
use borrow.Author.Tests.{leb-true}
use lib.Dec.{leb}
use lib.Ieee.{Float}
use lib.ListN.{length}
use Rattle.std.specs.Prelude.{Ok, Err}
use Rattle.words.specs.Words.{words}
use Rattle.reader.specs.declared.refusal.Reason.TheVariants.{Room}
use Rattle.reader.specs.declared.refusal.Refusal.{Refusal}
use Rattle.plan.specs.Problem.{Problem, Genes}
use Rattle.plan.specs.Input.{problem_of, genes_of}
use Rattle.plan.specs.declared.Layout.{Layout}
use Rattle.intake.specs.Intake.{taken_in, laid_out}
use Rattle.intake.proofs.TakingLaws.{took, refused_so}
use Rattle.lines.specs.Lines.{Lines}
use Rattle.genes.specs.Indexed.{misses, lines_of_genes}
use Rattle.timing.specs.Timing.{contradicts}
use Rattle.search.specs.Search.{Saved, saved_of, nothing_better, improved, contradictory, incomplete, no_steps, searched, answer, thirteen_or, twelve_if, eleven_if, ten_if, improve}
use Rattle.improving.specs.Improving.{Outcome, no, came, six_unless, roomy, improved_plan}

-- ---- 13 and 14

pub not_found : (b : Bool) → b ≡ false → (found on : List ℕ) (f : Float) → nothing_better f ≡ answer (saved_of b found on) f
not_found true e found on f = absurd (false≢true (sym e))
not_found false e found on f = refl

pub found_so : (b : Bool) → b ≡ true → (found on : List ℕ) (f : Float) → improved f found on ≡ answer (saved_of b found on) f
found_so true e found on f = refl
found_so false e found on f = absurd (false≢true e)

-- what was found is what the search finds
pub same_found : (b : Bool) (found on : List ℕ) {f : Float} (p : Problem) (lines : Lines) → f ≡ (searched p lines).best → saved_of b found on ≡ (searched p lines).found
    → answer (saved_of b found on) f ≡ thirteen_or (searched p lines)
same_found b found on {f} p lines ef es =
    ap (λ (x : Saved). answer x f) es ∙ ap (λ (x : Float). answer (searched p lines).found x) ef

-- ---- 12, 11 and 10

module _ (p : Problem) (lines : Lines) where
  pub twelve : (b : Bool) → b ≡ true → contradictory ≡ twelve_if b p lines
  twelve true e = refl
  twelve false e = absurd (false≢true e)

  pub not_twelve : (b : Bool) → b ≡ false → thirteen_or (searched p lines) ≡ twelve_if b p lines
  not_twelve true e = absurd (false≢true (sym e))
  not_twelve false e = refl

module _ (p : Problem) (g : Genes) where
  pub eleven : (b : Bool) → b ≡ true → incomplete ≡ eleven_if b p g
  eleven true e = refl
  eleven false e = absurd (false≢true e)

  pub not_eleven : (b : Bool) → b ≡ false → {lines : Lines} → lines ≡ lines_of_genes p g → twelve_if (contradicts p lines) p lines ≡ eleven_if b p g
  not_eleven true e q = absurd (false≢true (sym e))
  not_eleven false e q = ap (λ (l : Lines). twelve_if (contradicts p l) p l) q

  pub ten : (b : Bool) → b ≡ true → no_steps ≡ ten_if b p g
  ten true e = refl
  ten false e = absurd (false≢true e)

  pub not_ten : (b : Bool) → b ≡ false → eleven_if (misses p g) p g ≡ ten_if b p g
  not_ten true e = absurd (false≢true (sym e))
  not_ten false e = refl

-- ---- refusals

pub six : (o : Outcome) (b : Bool) → b ≡ false → no Room 0 ≡ six_unless b o
six o true e = absurd (false≢true (sym e))
six o false e = refl

pub roomy_on : (o : Outcome) (b : Bool) → b ≡ true → o ≡ six_unless b o
roomy_on o true e = refl
roomy_on o false e = absurd (false≢true e)

both : (b c : Bool) → (b && c) ≡ true → (b ≡ true) × (c ≡ true)
both true c e = (refl, e)
both false c e = absurd (false≢true e)

pub roomy_means : (cells tasks machines : List ℕ) → roomy cells tasks machines ≡ true → (2048 ≤ length cells) × (128 ≤ length tasks) × (128 ≤ length machines)
roomy_means cells tasks machines q =
    let c = both (leb 2048 (length cells)) (leb 128 (length tasks) && leb 128 (length machines)) q in
    let t = both (leb 128 (length tasks)) (leb 128 (length machines)) c.1 in
    (leb-true 2048 (length cells) c.0, leb-true 128 (length tasks) t.0, leb-true 128 (length machines) t.1)

-- A layout that was answered is searched from.
pub laid_improved : (s : List ℕ) {z : Layout} → Ok z ≡ laid_out (taken_in s) → came (improve (problem_of (words s) z) (genes_of (words s) z)) ≡ improved_plan s
laid_improved s e = let k = took (taken_in s) e in rw (k.0, k.1) refl

-- A refusal that was answered is what the plan is refused for.
pub refused_improved : (s : List ℕ) {f : Refusal} → Err f ≡ laid_out (taken_in s) → no f.reason f.place ≡ improved_plan s
refused_improved s e = rw (refused_so (taken_in s) e) refl
