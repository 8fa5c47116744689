-- What Improve finds names a task for each activity and a machine for each: moves that count do not contradict, so the order that is saved
-- leaves nobody out.
use Prim.Native.Nat.{ℕ, zero, suc, ◌+◌, ◌≤◌, ◌<◌}
use mathlib.Core.Path.{◌≡◌, refl, sym, ap, ◌∙◌}
use mathlib.Core.Bool.{Bool, true, false, not, ◌||◌}
use mathlib.Core.List.{List, [], ◌∷◌}
use native.Mathlib.Omega.{arith}
use borrow.Author.Tests.{ltb-false}
use lib.Dec.{ltb, eqb}
use lib.Ieee.{Float, lt}
use lib.ListN.{length}
use Rattle.graph.specs.Order.{State as Waiting, order_from, order_of, free_all}
use Rattle.plan.specs.Problem.{Problem, Genes}
use Rattle.intake.proofs.BareShop.{length-each}
use Rattle.lines.specs.Lines.{Lines}
use Rattle.moves.specs.Moves.{applied}
use Rattle.moves.specs.declared.Move.{Move}
use Rattle.genes.specs.Indexed.{misses, lines_of_genes}
use Rattle.timing.specs.Timing.{timing_order, contradicts}
use Rattle.trial.specs.Trial.{pick_best, better, weighed, tried, tried_all}
use Rattle.trial.specs.declared.Best.{Best}
use Rattle.trial.specs.declared.Best.TheVariants.{Nothing, Found}
use Rattle.search.specs.Saving.{tasks_of}
use Rattle.search.specs.Search.{Saved, unsaved, saved, State, best_from, genes_on, saved_if, made, steps_from, begun, searched, Improved, no_steps, incomplete, contradictory, nothing_better, improved, answer, twelve_if, eleven_if, ten_if, improve}

-- ---- an order has at most as many as there are

from_most : (succs : ℕ → List ℕ) (most : ℕ) (counts stack : List ℕ) → length (order_from succs most counts stack) ≤ most
unfolding order_from
from_most succs zero counts stack = omega arith
from_most succs (suc most) counts [] = omega arith
from_most succs (suc most) counts (a ∷ stack) =
    let s : Waiting = free_all (succs a) (record { counts = counts; stack = stack }) in
    let h = from_most succs most s.counts s.stack in
    omega (arith, h)

order_most : (succs : ℕ → List ℕ) (n : ℕ) (counts : List ℕ) → length (order_of succs n counts) ≤ n
unfolding order_of
order_most succs n counts = from_most succs n counts _

tasks-length : (p : Problem) (order : List ℕ) → length (tasks_of p order) ≡ length order
unfolding tasks_of
tasks-length p [] = refl
tasks-length p (a ∷ order) = ap suc (tasks-length p order)

-- ---- a move that counts does not contradict

module _ (p : Problem) (lines : Lines) where
  abbrev Possible : Best → Type 0
  Possible Nothing = Unit {0}
  Possible (Found f m) = contradicts p (applied m lines) ≡ false

  picked : (b : Bool) (x y : Best) → Possible x → Possible y → Possible (pick_best b x y)
  picked true x y h k = h
  picked false x y h k = k

  bettered : (b : Best) (f : Float) (m : Move) → contradicts p (applied m lines) ≡ false → Possible b → Possible (better b f m)
  bettered Nothing f m e h = e
  bettered (Found g k) f m e h = picked (lt f g) (Found f m) (Found g k) e h

  weighed_possible : (c forbidden : Bool) (best f : Float) (m : Move) (b : Best) → contradicts p (applied m lines) ≡ c → Possible b → Possible (weighed c forbidden best f m b)
  weighed_possible true forbidden best f m b e h = h
  weighed_possible false forbidden best f m b e h = picked (not forbidden || lt f best) (better b f m) b (bettered b f m e h) h

  tried_possible : (forbid : Move → Bool) (best : Float) (moves : List Move) (b : Best) → Possible b → Possible (tried_all p lines forbid best moves b)
  unfolding tried_all
  tried_possible forbid best [] b h = h
  tried_possible forbid best (m ∷ moves) b h =
      tried_possible forbid best moves (tried p lines (forbid m) best m b) (weighed_possible (contradicts p (applied m lines)) (forbid m) best _ m b refl h)

-- ---- what is saved

module _ (p : Problem) where
  abbrev Sized : Saved → Type 0
  Sized unsaved = Unit {0}
  Sized (saved tasks machines) = (length tasks ≡ p.n) × (length machines ≡ p.n)

  whole : (lines : Lines) → contradicts p lines ≡ false → length (timing_order p lines) ≡ p.n
  whole lines e =
      let most : length (timing_order p lines) ≤ p.n = order_most _ p.n _ in
      omega (arith, ltb-false (length (timing_order p lines)) p.n e, most)

  genes_sized : (lines : Lines) → contradicts p lines ≡ false → Sized (genes_on p lines)
  genes_sized lines e = (tasks-length p (timing_order p lines) ∙ whole lines e, length-each _ p.n 0)

  saved_sized : (b : Bool) (x y : Saved) → Sized x → Sized y → Sized (saved_if b x y)
  saved_sized true x y h k = h
  saved_sized false x y h k = k

  best_possible : (step : ℕ) (st : State) → Possible p st.lines (best_from p step st)
  best_possible step st = tried_possible p st.lines _ st.best _ Nothing tt

  steps_sized : (most step : ℕ) (b : Best) (st : State) → Possible p st.lines b → Sized st.found → Sized (steps_from p most step b st).found
  unfolding steps_from
  steps_sized zero step b st h k = k
  steps_sized (suc most) step Nothing st h k = k
  steps_sized (suc most) step (Found f m) st h k =
      let next = made p step st f m in
      steps_sized most (suc step) (best_from p (suc step) next) next (best_possible (suc step) next)
      (saved_sized (lt f st.best) (genes_on p (applied m st.lines)) st.found (genes_sized (applied m st.lines) h) k)

  -- ---- what Improve comes to

  abbrev pub Named : Improved → Type 0
  Named no_steps = Unit {0}
  Named incomplete = Unit {0}
  Named contradictory = Unit {0}
  Named (nothing_better f) = Unit {0}
  Named (improved f tasks machines) = (length tasks ≡ p.n) × (length machines ≡ p.n)

  answer-named : (x : Saved) (f : Float) → Sized x → Named (answer x f)
  answer-named unsaved f h = tt
  answer-named (saved tasks machines) f h = h

  twelve_named : (b : Bool) (lines : Lines) → Named (twelve_if b p lines)
  twelve_named true lines = tt
  twelve_named false lines = answer-named (searched p lines).found (searched p lines).best (steps_sized p.limit 0 (best_from p 0 (begun p lines)) (begun p lines) (best_possible 0 (begun p lines)) tt)

  eleven_named : (b : Bool) (g : Genes) → Named (eleven_if b p g)
  eleven_named true g = tt
  eleven_named false g = twelve_named (contradicts p (lines_of_genes p g)) (lines_of_genes p g)

  ten_named : (b : Bool) (g : Genes) → Named (ten_if b p g)
  ten_named true g = tt
  ten_named false g = eleven_named (misses p g) g

  pub improve-named : (g : Genes) → Named (improve p g)
  improve-named g = ten_named (eqb p.limit 0) g
