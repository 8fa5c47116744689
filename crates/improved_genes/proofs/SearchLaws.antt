-- What is so of the lines, the best fitness and the genes saved after each step of the search.
use Prim.Native.Nat.{ℕ, zero, suc, ◌<◌}
use mathlib.Core.Path.{◌≡◌, refl, sym, ◌∙◌, subst}
use mathlib.Core.Bool.{Bool, true, false}
use mathlib.Core.List.{List}
use mathlib.Core.Logic.{inl}
use lib.Ieee.{Float, lt}
use lib.ListN.{length}
use Rattle.graph.proofs.CountingLaws.{either}
use Rattle.plan.specs.Problem.{Problem, Genes}
use Rattle.plan.specs.Accepted.{Accepted}
use Rattle.intake.specs.Circle.{each}
use Rattle.lines.specs.Lines.{Lines, machine_of, WellFormed}
use Rattle.lines.proofs.LineLaws.{at_most_once}
use Rattle.moves.specs.Moves.{applied}
use Rattle.moves.specs.declared.Move.{Move}
use Rattle.moves.specs.declared.Move.TheVariants.{Swap, Shift, Reassign}
use Rattle.moves.proofs.MoveLaws.{as_many}
use Rattle.moves.proofs.StandingLaws.{applied-well_formed, swap-machines, shift_machines, reassigned_others, reassigned_own}
use Rattle.timing.specs.Timing.{timing_order, contradicts}
use Rattle.trial.specs.Taboo.{forbidden}
use Rattle.trial.specs.Trial.{line_fitness}
use Rattle.trial.specs.declared.Best.{Best}
use Rattle.trial.specs.declared.Best.TheVariants.{Nothing, Found}
use Rattle.search.specs.Saving.{tasks_of}
use Rattle.search.specs.Search.{Saved, unsaved, saved, State, best_from, genes_on, saved_if, lesser_if, made, steps_from}
use Rattle.improved_genes.specs.Written.{Able}
use Rattle.improved_genes.proofs.FloatLaws.{lt_on}
use Rattle.improved_genes.proofs.PathLaws.{Offered, all-offered}
use Rattle.improved_genes.proofs.TryingLaws.{Counted, Held, all_held}

-- ---- the lines

-- they can be timed, and each activity is on a machine that is one of its candidates or was its own
pub record Sound (p : Problem) (g : Genes) (lines : Lines) : Type 0 where
  pub sixteen : length lines ≡ 16
  pub well : WellFormed p.n p.machines lines
  pub possible : contradicts p lines ≡ false
  pub able : (a : ℕ) → a < p.n → Able p g a (machine_of lines a)

module _ {p : Problem} {g : Genes} {lines : Lines} (s : Sound p g lines) where
  still_able : (m : Move) → Offered p lines m → (a : ℕ) → a < p.n → Able p g a (machine_of (applied m lines) a)
  still_able (Swap m i) o a h = subst (Able p g a) (sym (swap-machines lines s.sixteen o.fits a)) (s.able a h)
  still_able (Shift m i j) o a h = subst (Able p g a) (sym (shift_machines lines s.sixteen o.fits a)) (s.able a h)
  still_able (Reassign x r i q j) o a h =
      either x a
      (λ e. subst (λ (y : ℕ). Able p g y (machine_of (applied (Reassign x r i q j) lines) y)) e
      (subst (Able p g x) (sym (reassigned_own lines s.sixteen o.fits (at_most_once s.well x))) (inl o.able)))
      (λ ne. subst (Able p g a) (sym (reassigned_others lines s.sixteen o.fits a ne)) (s.able a h))

  moved_sound : {f : Float} {m : Move} → Counted p lines (Offered p lines) f m → Sound p g (applied m lines)
  moved_sound {f} {m} c =
      let o = c.offered in
      record {
        sixteen = as_many m lines ∙ s.sixteen;
        well = applied-well_formed lines s.sixteen s.well m o.fits o.within;
        possible = c.possible;
        able = still_able m o;
      }

-- ---- the best so far

-- it was reached with these genes, which were taken from sound lines
pub record Reached (p : Problem) (g : Genes) (start best : Float) (tasks machines : List ℕ) : Type 0 where
  pub lines : Lines
  pub sound : Sound p g lines
  pub ordered : tasks ≡ tasks_of p (timing_order p lines)
  pub seated : machines ≡ each (machine_of lines) p.n 0
  pub value : best ≡ line_fitness p lines
  pub lower : lt best start ≡ true

-- nothing was saved and the best is that of the start, or what was saved is better
abbrev pub Progress : Problem → Genes → (start best : Float) → Saved → Type 0
Progress p g start best unsaved = best ≡ start
Progress p g start best (saved tasks machines) = Reached p g start best tasks machines

pub record Going (p : Problem) (g : Genes) (start : Float) (st : State) : Type 0 where
  pub sound : Sound p g st.lines
  pub progress : Progress p g start st.best st.found

module _ (p : Problem) (g : Genes) (start : Float) where
  lower_still : (f best : Float) (found : Saved) → Progress p g start best found → lt f best ≡ true → lt f start ≡ true
  lower_still f best unsaved e h = subst (λ (x : Float). lt f x ≡ true) e h
  lower_still f best (saved tasks machines) r h = lt_on f best start h r.lower

  progress_if : (t : Bool) (f best : Float) (lines : Lines) (found : Saved) → lt f best ≡ t → Sound p g lines → f ≡ line_fitness p lines → Progress p g start best found
      → Progress p g start (lesser_if t f best) (saved_if t (genes_on p lines) found)
  progress_if true f best lines found e s v k =
      record { lines = lines; sound = s; ordered = refl; seated = refl; value = v; lower = lower_still f best found k e }
  progress_if false f best lines found e s v k = k

  made_going : (step : ℕ) (st : State) {f : Float} {m : Move} → Counted p st.lines (Offered p st.lines) f m → Going p g start st → Going p g start (made p step st f m)
  made_going step st {f} {m} c k =
      let s = moved_sound k.sound c in
      record {
        sound = s;
        progress = progress_if (lt f st.best) f st.best (applied m st.lines) st.found refl s c.value k.progress;
      }

  module _ (ok : Accepted p g) where
    best_counted : (step : ℕ) (st : State) → Going p g start st → Held p st.lines (Offered p st.lines) (best_from p step st)
    best_counted step st k =
        let s = k.sound in
        all_held p st.lines (Offered p st.lines) (forbidden step st.pairs st.left st.lines) st.best Nothing
        (all-offered p g ok st.lines s.sixteen s.well s.possible) tt

    pub steps_going : (most step : ℕ) (b : Best) (st : State) → best_from p step st ≡ b → Going p g start st → Going p g start (steps_from p most step b st)
    unfolding steps_from
    steps_going zero step b st e k = k
    steps_going (suc most) step Nothing st e k = k
    steps_going (suc most) step (Found f m) st e k =
        let c : Counted p st.lines (Offered p st.lines) f m = subst (Held p st.lines (Offered p st.lines)) e (best_counted step st k) in
        steps_going most (suc step) (best_from p (suc step) (made p step st f m)) (made p step st f m) refl (made_going step st c k)
