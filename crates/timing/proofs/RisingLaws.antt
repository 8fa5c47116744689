-- On timed lines no step ends before the one that it follows in its task.
use Rattle.std.specs.Prelude.{Some}
use Prim.Native.Nat.{ℕ, suc, ◌+◌, ◌≤◌, ◌<◌}
use mathlib.Core.Path.{◌≡◌, sym, ap, ◌∙◌}
use mathlib.Core.Bool.{Bool, false}
use mathlib.Core.List.{List}
use native.Mathlib.Omega.{arith}
use native.Mathlib.Numerals.{add-one}
use borrow.Author.Tests.{le-ltb, eq-eqb}
use lib.ListN.{length, get_or}
use Rattle.graph.specs.Links.{to_if}
use Rattle.plan.specs.Problem.{Problem, Genes}
use Rattle.plan.specs.Accepted.{Accepted}
use Rattle.tables.specs.Tabled.{task_pred}
use Rattle.lines.specs.Lines.{Lines, WellFormed}
use Rattle.intake.proofs.BareShop.{each_at}
use Rattle.timing.specs.Timing.{span_at, timing_order, contradicts, start_of, ends_of}
use Rattle.timing.specs.Placing.{Whole, Timed}
use Rattle.timing.proofs.Demand3.{timing_exact}

-- Lines whose order leaves none out do not contradict.
pub whole_agrees : (p : Problem) (lines : Lines) {order : List ℕ} → Whole p lines order → contradicts p lines ≡ false
whole_agrees p lines w = le-ltb (length (timing_order p lines)) p.n (omega (arith, ap length w.is, w.all))

step_before : (p : Problem) (a : ℕ) → p.task_of a ≡ p.task_of (a + 1) → task_pred p (a + 1) ≡ Some a
step_before p a e =
    let next : a + 1 ≡ suc a = add-one a in
    ap (task_pred p) next ∙ ap (λ (t : Bool). to_if t a) (eq-eqb (p.task_of a) (p.task_of (suc a)) (e ∙ ap p.task_of next))

pub end_at_lem : (p : Problem) (lines : Lines) (a : ℕ) → a < p.n → get_or (ends_of p lines) a 0 ≡ start_of p lines a + span_at p lines a
end_at_lem p lines a h =
    let z : 0 + a ≡ a = omega arith in
    each_at (λ b. start_of p lines b + span_at p lines b) p.n 0 a h ∙ ap (λ (b : ℕ). start_of p lines b + span_at p lines b) z

module _ (p : Problem) (g : Genes) (ok : Accepted p g) {R : ℕ} (lines : Lines) (w : WellFormed p.n R lines) {order starts ends : List ℕ} (t : Timed p lines order starts ends) where
  pub ends_rise : (a : ℕ) → a + 1 < p.n → p.task_of a ≡ p.task_of (a + 1) → get_or ends a 0 ≤ get_or ends (a + 1) 0
  ends_rise a h e =
      let meets = (timing_exact p g ok lines w).meets (whole_agrees p lines t.whole) in
      let is : (b : ℕ) → get_or ends b 0 ≡ get_or (ends_of p lines) b 0 = λ b. ap (λ (l : List ℕ). get_or l b 0) t.placement.done in
      omega (arith, is a, is (a + 1), end_at_lem p lines a (omega arith), end_at_lem p lines (a + 1) h, meets.tasked a (a + 1) h (step_before p a e))
