-- The best so far: what is kept where new lines are better, and where they are not.
use Prim.Native.Nat.{ℕ}
use mathlib.Core.Path.{◌≡◌, refl, sym, ap₂}
use mathlib.Core.Bool.{Bool, true, false, false≢true}
use mathlib.Core.List.{List}
use lib.Ieee.{Float}
use Rattle.plan.specs.Problem.{Problem}
use Rattle.lines.specs.Lines.{Lines, machine_of}
use Rattle.intake.specs.Circle.{each}
use Rattle.search.specs.Saving.{tasks_of}
use Rattle.search.specs.Search.{Saved, saved, saved_if, lesser_if, genes_by}

pub better_best : (b : Bool) → b ≡ true → (f g : Float) → f ≡ lesser_if b f g
better_best true e f g = refl
better_best false e f g = absurd (false≢true e)

pub better_saved : (b : Bool) → b ≡ true → (p : Problem) (n : ℕ) (order : List ℕ) (lines : Lines) {tasks machines : List ℕ} → tasks ≡ tasks_of p order → machines ≡ each (machine_of lines) n 0
    → (old : Saved) → saved tasks machines ≡ saved_if b (genes_by p n order lines) old
better_saved true e p n order lines et em old = ap₂ saved et em
better_saved false e p n order lines et em old = absurd (false≢true e)

pub same_best : (b : Bool) → b ≡ false → (f g : Float) → g ≡ lesser_if b f g
same_best true e f g = absurd (false≢true (sym e))
same_best false e f g = refl

pub same_saved : (b : Bool) → b ≡ false → (new old : Saved) → old ≡ saved_if b new old
same_saved true e new old = absurd (false≢true (sym e))
same_saved false e new old = refl
