-- Lines as a move leaves them can be timed, and their ends weighed. Assumes nothing.
use Prim.Native.Nat.{ℕ, ◌+◌}
use mathlib.Core.Path.{◌≡◌, sym, ap, ◌∙◌, subst}
use mathlib.Core.List.{List}
use native.Mathlib.Omega.{arith}
use lib.ListN.{length, get_or}
use Rattle.plan.specs.Problem.{Problem, Genes}
use Rattle.plan.specs.Accepted.{Accepted}
use Rattle.lines.specs.Lines.{Lines, lines_in, Fit, WellFormed}
use Rattle.lines.specs.Linking.{Links, LinesHeld}
use Rattle.moves.specs.declared.Move.{Move}
use Rattle.moves.specs.Moves.{applied, reversed, Fits, Holds}
use Rattle.moves.proofs.CellLaws.{line_long, many_in}
use Rattle.moves.proofs.HeldLaws.{reversed_in, undone_in}
use Rattle.moves.proofs.StandingLaws.{applied-well_formed}
use Rattle.intake.proofs.BareShop.{length-each}
use Rattle.fitness.specs.Ended.{Ended}
use Rattle.fitness.specs.Rising.{Rising}
use Rattle.timing.specs.Timing.{span_at, start_of}
use Rattle.timing.proofs.EndLaws.{ends_most}
use Rattle.timing.proofs.RisingLaws.{ends_rise}
use Rattle.timing.specs.Placing.{Timed}
use Rattle.trial.specs.Trial.{Allowed}

pub fit_of : {n R : ℕ} (cells lens : List ℕ) → WellFormed n R (lines_in cells lens) → Fit lens
fit_of cells lens w m = omega (arith, line_long cells lens m, w.short m)

pub holds_of : {n R : ℕ} (cells lens : List ℕ) → length cells ≡ 2048 → length lens ≡ 16 → WellFormed n R (lines_in cells lens) → Holds cells lens
holds_of cells lens roomy sixteen w = record { roomy = roomy; sixteen = sixteen; fit = fit_of cells lens w }

pub allowed_well_formed : {n R : ℕ} (cells lens : List ℕ) (m : Move) → length lens ≡ 16 → WellFormed n R (lines_in cells lens) → Allowed R (lines_in cells lens) m
    → WellFormed n R (applied m (lines_in cells lens))
allowed_well_formed cells lens m sixteen w a =
    applied-well_formed (lines_in cells lens) (many_in cells lens ∙ sixteen) w m a.fits a.within

pub moved-well_formed : {n R : ℕ} (cells lens cells' lens' : List ℕ) (m : Move) → length lens ≡ 16 → WellFormed n R (lines_in cells lens) → Allowed R (lines_in cells lens) m
    → lines_in cells' lens' ≡ applied m (lines_in cells lens) → WellFormed n R (lines_in cells' lens')
moved-well_formed {n} {R} cells lens cells' lens' m sixteen w a e =
    subst (λ (l : Lines). WellFormed n R l) (sym e) (allowed_well_formed cells lens m sixteen w a)

-- ---- the move is taken back

module _ (cells lens cells' lens' : List ℕ) (m back : Move) (sixteen : length lens ≡ 16) (f : Fits m (lines_in cells lens))
    (there : lines_in cells' lens' ≡ applied m (lines_in cells lens)) (q : back ≡ reversed m) where
  pub back_fits : Fit lens → Fits back (lines_in cells' lens')
  back_fits fit = rw q (reversed_in cells lens cells' lens' m sixteen f there fit)

  -- the lengths are as they were, so that the lines under them are those that the reverse leaves
  pub back-applied : (cells'' lens'' : List ℕ) → lines_in cells'' lens'' ≡ applied back (lines_in cells' lens') → lines_in cells'' lens ≡ applied back (lines_in cells' lens')
  back-applied cells'' lens'' e =
      let u = undone_in cells lens cells' lens' m sixteen f there cells'' lens'' (e ∙ ap (λ (x : Move). applied x (lines_in cells' lens')) q) in
      ap (λ (l : List ℕ). lines_in cells'' l) (sym u.1) ∙ e

  pub back_again : (cells'' lens'' : List ℕ) → lines_in cells'' lens'' ≡ applied back (lines_in cells' lens') → lines_in cells'' lens ≡ lines_in cells lens
  back_again cells'' lens'' e =
      let u = undone_in cells lens cells' lens' m sixteen f there cells'' lens'' (e ∙ ap (λ (x : Move). applied x (lines_in cells' lens')) q) in
      ap (λ (l : List ℕ). lines_in cells'' l) (sym u.1) ∙ u.0

-- ---- timed lines

pub timed_on : {p : Problem} {l l' : Lines} {order starts ends : List ℕ} → l ≡ l' → Timed p l order starts ends → Timed p l' order starts ends
timed_on {p} {l} {l'} {order} {starts} {ends} q t = subst (λ (x : Lines). Timed p x order starts ends) q t

pub ended : (p : Problem) (g : Genes) (ok : Accepted p g) (lines : Lines) (w : WellFormed p.n p.machines lines) {order starts ends : List ℕ}
    → Timed p lines order starts ends → Ended p.n ends
ended p g ok lines w {order} {starts} {ends} t =
    record {
      each = omega (arith, ap length t.placement.done, length-each (λ a. start_of p lines a + span_at p lines a) p.n 0);
      bounded = λ a h. omega (arith, ap (λ (l : List ℕ). get_or l a 0) t.placement.done, ends_most p g ok lines w (ap length (sym t.whole.is) ∙ t.whole.all) a h);
    }

pub rising : (p : Problem) (g : Genes) (ok : Accepted p g) (lines : Lines) (w : WellFormed p.n p.machines lines) {order starts ends : List ℕ}
    → Timed p lines order starts ends → Rising p ends
rising p g ok lines w t = record { rises = ends_rise p g ok lines w t }

pub held_on : {n : ℕ} {l l' : Lines} {k : Links} → l ≡ l' → LinesHeld n l k → LinesHeld n l' k
held_on {n} {l} {l'} {k} q h = subst (λ (x : Lines). LinesHeld n x k) q h
