-- What Improve answers is never above the fitness that it began with, and the genes that it writes are whole and have the fitness that it answers.
-- No reassignment of any step contradicts.
use Rattle.std.specs.Prelude.{Some}
use Prim.Native.Nat.{ℕ}
use mathlib.Core.Path.{◌≡◌, refl, sym, ap, ◌∙◌, subst}
use mathlib.Core.Bool.{Bool, true, false}
use mathlib.Core.List.{List}
use mathlib.Core.Logic.{inr}
use lib.Dec.{eqb}
use lib.Ieee.{Float}
use Rattle.plan.specs.Problem.{Problem, Genes}
use Rattle.plan.specs.Accepted.{Accepted}
use Rattle.genes.specs.Indexed.{indexed, assigned_to, misses, lines_of_genes}
use Rattle.genes.proofs.LinesLaws.{none_missed, genes-well_formed}
use Rattle.timing.specs.Timing.{timing_order, contradicts}
use Rattle.trial.specs.Trial.{line_fitness}
use Rattle.search.specs.Saving.{tasks_of}
use Rattle.search.specs.Search.{Saved, unsaved, saved, best_from, begun, searched_to, searched, Improved, no_steps, incomplete, contradictory, nothing_better, improved, answer, twelve_if, eleven_if, ten_if, improve}
use Rattle.improved_genes.specs.Reassigned.{NeverContradict}
use Rattle.improved_genes.specs.Written.{first_fitness, Better, Improves}
use Rattle.improved_genes.proofs.DealtLaws.{lines_many, dealt_machine, assigned_some, assigned_each}
use Rattle.improved_genes.proofs.SearchLaws.{Sound, Reached, Progress, Going, steps_going}
use Rattle.improved_genes.proofs.ReassignTheorem.{never_contradict}
use Rattle.improved_genes.proofs.SavedLaws.{saved_whole, saved_accepted, saved_complete, lines_again}

module _ (p : Problem) (g : Genes) (ok : Accepted p g) where
  -- ---- at first

  first_sound : misses p g ≡ false → contradicts p (lines_of_genes p g) ≡ false → Sound p g (lines_of_genes p g)
  first_sound whole e =
      let w = genes-well_formed ok whole in
      record {
        sixteen = lines_many (assigned_to g) (indexed p g);
        well = w;
        possible = e;
        able = λ a h.
            inr
            (assigned_some (g.assigned a) (assigned_each g p.n a (none_missed ok whole).0 h)
            ∙ ap Some (dealt_machine (assigned_to g) (indexed p g) w ok.machines.1 a h));
      }

  -- ---- what is saved

  reached_better : (best : Float) (tasks machines : List ℕ) → Reached p g (first_fitness p g) best tasks machines → Better p g best tasks machines
  reached_better best tasks machines r =
      let s = r.sound in
      subst (λ (l : List ℕ). Better p g best l machines) (sym r.ordered)
      (subst (λ (l : List ℕ). Better p g best (tasks_of p (timing_order p r.lines)) l) (sym r.seated)
      (record {
        lower = r.lower;
        whole = saved_whole p g ok s;
        accepted = saved_accepted p g ok s;
        complete = saved_complete p g ok s;
        possible = ap (contradicts p) (lines_again p g ok s) ∙ s.possible;
        exact = ap (line_fitness p) (lines_again p g ok s) ∙ sym r.value;
      }))

  -- ---- after any number of steps

  after_going : misses p g ≡ false → contradicts p (lines_of_genes p g) ≡ false → (k : ℕ) → Going p g (first_fitness p g) (searched_to p k (lines_of_genes p g))
  after_going whole e k =
      let lines = lines_of_genes p g in
      steps_going p g (first_fitness p g) ok k 0 (best_from p 0 (begun p lines)) (begun p lines) refl (record { sound = first_sound whole e; progress = refl })

  -- no reassignment of the next step contradicts
  pub reassignments_possible : misses p g ≡ false → contradicts p (lines_of_genes p g) ≡ false → (k : ℕ) → NeverContradict p (searched_to p k (lines_of_genes p g)).lines
  reassignments_possible whole e k =
      let s = (after_going whole e k).sound in
      never_contradict p g ok (searched_to p k (lines_of_genes p g)).lines s.sixteen s.well s.possible

  -- ---- at the end

  abbrev Answered : Improved → Type 0
  Answered no_steps = Unit {0}
  Answered incomplete = Unit {0}
  Answered contradictory = Unit {0}
  Answered (nothing_better f) = f ≡ first_fitness p g
  Answered (improved f tasks machines) = Better p g f tasks machines

  answer_is : (found : Saved) (best : Float) → Progress p g (first_fitness p g) best found → Answered (answer found best)
  answer_is unsaved best e = e
  answer_is (saved tasks machines) best r = reached_better best tasks machines r

  twelve_is : (t : Bool) → contradicts p (lines_of_genes p g) ≡ t → misses p g ≡ false → Answered (twelve_if t p (lines_of_genes p g))
  twelve_is true e whole = tt
  twelve_is false e whole = let st = searched p (lines_of_genes p g) in answer_is st.found st.best (after_going whole e p.limit).progress

  eleven_is : (t : Bool) → misses p g ≡ t → Answered (eleven_if t p g)
  eleven_is true e = tt
  eleven_is false e = twelve_is (contradicts p (lines_of_genes p g)) refl e

  ten_is : (t : Bool) → Answered (ten_if t p g)
  ten_is true = tt
  ten_is false = eleven_is (misses p g) refl

  pub improves : Improves p g
  improves =
      let said : Answered (improve p g) = ten_is (eqb p.limit 0) in
      record {
        thirteen = λ f e. subst Answered e said;
        fourteen = λ f tasks machines e. subst Answered e said;
      }
