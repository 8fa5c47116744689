-- Outcome 11 as the code tells it, and the lines that the genes give: where nothing is missing they can be timed. Assumes nothing.
use Prim.Native.Nat.{ℕ, ◌≤◌, ◌<◌}
use mathlib.Core.Path.{◌≡◌, refl, ap, ◌∙◌}
use mathlib.Core.Bool.{Bool, true, false, not, ◌||◌}
use mathlib.Core.List.{List, [], ◌∷◌}
use native.Mathlib.Omega.{arith}
use borrow.Author.Tests.{ltb-false, lt-ltb, le-ltb}
use lib.Dec.{ltb}
use lib.ListN.{length, get_or, replicate}
use Rattle.graph.specs.Counting.{Below}
use Rattle.graph.proofs.CountingLaws.{below_more}
use Rattle.plan.specs.Problem.{Problem, Genes}
use Rattle.plan.specs.Accepted.{Accepted}
use Rattle.lines.specs.Lines.{Lines, lines_in, WellFormed}
use Rattle.lines.specs.Dealing.{at_end, dealt, lines_of, Dealable, Dealt}
use Rattle.lines.proofs.DealLaws.{dealt_well}
use Rattle.genes.specs.Indexed.{indexed, assigned_to, all_assigned, misses, lines_of_genes}
use Rattle.genes.proofs.IndexedLaws.{indexed_below, indexed_few, indexed-all}
use Rattle.genes.proofs.MachineLaws.{Manned, assigned_known}

-- ---- outcome 11, from the answers of `fill_machines` and `indexed`

module _ (p : Problem) (g : Genes) {all : Bool} {count : ℕ} (a : all ≡ all_assigned p g) (c : count ≡ length (indexed p g)) where
  misses_is : misses p g ≡ (not all || ltb count p.n)
  misses_is = rw (← a, ← c)

  pub misses_machine : all ≡ false → misses p g ≡ true
  misses_machine e = misses_is ∙ ap (λ (b : Bool). not b || ltb count p.n) e

  pub misses-naming : count < p.n → misses p g ≡ true
  misses-naming h = misses_is ∙ ap (λ (b : Bool). not all || b) (lt-ltb count p.n h) ∙ or_true (not all)
    where
      or_true : (b : Bool) → (b || true) ≡ true
      or_true true = refl
      or_true false = refl

  pub misses_nothing : all ≡ true → p.n ≤ count → misses p g ≡ false
  misses_nothing e h = misses_is ∙ ap (λ (b : Bool). not b || ltb count p.n) e ∙ le-ltb count p.n h

-- ---- nothing missing

not_missed : (all : Bool) (short : Bool) → (not all || short) ≡ false → (all ≡ true) × (short ≡ false)
not_missed true short e = (refl, e)
not_missed false short e = let z : ◌≡◌ {A = ℕ} 0 1 = cc in absurd (omega arith)

module _ {p : Problem} {g : Genes} (plan : Accepted p g) where
  pub none_missed : misses p g ≡ false → (all_assigned p g ≡ true) × (length (indexed p g) ≡ p.n)
  none_missed e =
      let w = not_missed (all_assigned p g) (ltb (length (indexed p g)) p.n) e in
      (w.0, omega (arith, ltb-false (length (indexed p g)) p.n w.1, indexed_few plan))

  pub genes-well_formed : misses p g ≡ false → WellFormed p.n p.machines (lines_of_genes p g)
  genes-well_formed e =
      let w = none_missed e in
      dealt_well p.n p.machines (assigned_to g) (indexed p g) plan.machines.1 (omega (arith, w.1, plan.activities.1)) (indexed-all plan w.1) (indexed_below plan)
      (λ a h. assigned_known plan a)

-- ---- as cells hold them

-- activities go to the same lines by any two tables that agree on them
dealt-same : (n : ℕ) (on other : ℕ → ℕ) → ((a : ℕ) → a < n → on a ≡ other a) → (activities : List ℕ) → Below n activities → (lines : Lines)
    → dealt on activities lines ≡ dealt other activities lines
unfolding dealt Below
dealt-same n on other h [] b lines = refl
dealt-same n on other h (a ∷ activities) b lines =
    dealt-same n on other h activities b.1 (at_end lines (on a) a) ∙ ap (λ (m : ℕ). dealt other activities (at_end lines m a)) (h a b.0)

pub lines_same : (n : ℕ) (on other : ℕ → ℕ) → ((a : ℕ) → a < n → on a ≡ other a) → (activities : List ℕ) → Below n activities
    → lines_of on activities ≡ lines_of other activities
unfolding lines_of
lines_same n on other h activities b = dealt-same n on other h activities b (replicate 16 [])

module _ {p : Problem} {g : Genes} (plan : Accepted p g) {activities machines : List ℕ} (listed : activities ≡ indexed p g) (manned : Manned p g machines) where
  -- what `lines::deal` asks
  pub genes_dealable : {cells : List ℕ} → length cells ≡ 2048 → Dealable activities machines cells
  genes_dealable e =
      record {
        few = rw listed (omega (arith, indexed_few plan, plan.activities.1));
        assigned = rw listed (below_more p.n (length machines) (indexed p g) manned.enough (indexed_below plan));
        known = manned.known;
        roomy = e;
      }

  -- and what it leaves
  pub genes-dealt : {cells lens : List ℕ} → Dealt activities machines cells lens → lines_in cells lens ≡ lines_of_genes p g
  genes-dealt d =
      d.held ∙ ap (lines_of (λ a. get_or machines a 0)) listed ∙ lines_same p.n (λ a. get_or machines a 0) (assigned_to g) manned.at (indexed p g) (indexed_below plan)

  pub dealt-well_formed : {cells lens : List ℕ} → Dealt activities machines cells lens → misses p g ≡ false → WellFormed p.n p.machines (lines_in cells lens)
  dealt-well_formed d e = rw (genes-dealt d) (genes-well_formed plan e)
