-- From timed lines to the sheet that is written.
use Prim.Native.Nat.{ℕ, ◌+◌, ◌≤◌, ◌<◌}
use mathlib.Core.Path.{◌≡◌, refl, sym, ap, ◌∙◌, subst}
use mathlib.Core.Bool.{Bool, true, false, not, ◌&&◌, false≢true}
use mathlib.Core.List.{List, []}
use native.Mathlib.Omega.{arith}
use lib.ListN.{length, get_or, replicate}
use lib.Seq.{ext_get_or}
use Rattle.std.specs.Prelude.{Ok, Err}
use Rattle.words.specs.Words.{words}
use Rattle.graph.specs.Counting.{Below}
use Rattle.graph.proofs.BoolLaws.{denied, granted}
use Rattle.graph.proofs.Theorem.{order_below}
use Rattle.graph.proofs.ShopTheorem.{graph}
use Rattle.plan.specs.Problem.{Problem, Genes}
use Rattle.plan.specs.Input.{problem_of, genes_of}
use Rattle.plan.specs.Accepted.{Accepted}
use Rattle.lines.specs.Lines.{Lines, WellFormed, machine_of}
use Rattle.intake.specs.Circle.{each}
use Rattle.intake.proofs.BareShop.{each_at, length-each}
use Rattle.timing.specs.Timing.{counts_for, contradicts, span_at, start_of, setups_of}
use Rattle.timing.specs.Placing.{Seated, Timed}
use Rattle.timing.proofs.LinesShop.{shop, counted}
use Rattle.timing.proofs.EndLaws.{ends_most}
use Rattle.timing.proofs.PlacingLaws.{starts_length}
use Rattle.rows.specs.Rows.{Columns, columns_of, Roomy, Written}
use Rattle.fitness.specs.Fitness.{fitness_of}
use Rattle.fitness.specs.Ended.{Ended}
use lib.Ieee.{to_bits, binary64}
use lib.Dec.{leb}
use borrow.Author.Tests.{leb-true}
use Rattle.reader.specs.Answer.{Reading}
use Rattle.reader.specs.Answer.{Answer}
use Rattle.reader.specs.Answer.{Accepted as Read, No}
use Rattle.reader.specs.Refusals.{refusal}
use Rattle.reader.specs.declared.refusal.Reason.{Reason}
use Rattle.reader.specs.declared.refusal.Reason.TheVariants.{Lines as Missed, Contradiction}
use Rattle.reader.specs.declared.refusal.Refusal.{Refusal}
use Rattle.plan.specs.Found.{layout_of}
use Rattle.plan.specs.declared.Layout.{Layout}
use Rattle.tables.specs.Tabled.{Tabled}
use Rattle.intake.specs.Intake.{problem_in, genes_in, taken_in, laid_out}
use Rattle.genes.specs.Indexed.{lines_of_genes}
use Rattle.intake.proofs.Soundness.{taken_in_means}
use Rattle.intake.proofs.TakingLaws.{took, refused_so}
use Rattle.calls.specs.Asked.{Taken}
use Rattle.calls.specs.Outcome.{Outcome, no, answer_of, Leaves}
use Rattle.calls.specs.Timing.{sheet_of, fitness_on, eight_if, seven_unless, timed_lines, timed_if, timed_plan, seven_if, timed_genes, ordered_if, ordered_plan, six_unless, roomy}

module _ (p : Problem) (g : Genes) (ok : Accepted p g) (lines : Lines) (w : WellFormed p.n p.machines lines) {before on order begun done : List ℕ}
    (s : Seated p.n lines before on) (t : Timed p lines order begun done) where
  -- The machines are those whose lines hold the activities.
  pub machines_are : on ≡ each (machine_of lines) p.n 0
  machines_are =
      ext_get_or 0 on (each (machine_of lines) p.n 0) (s.length-machines ∙ sym (length-each (machine_of lines) p.n 0))
      (λ a h.
      let z : 0 + a ≡ a = omega arith in
      let k : a < p.n = omega (arith, s.length-machines) in
      s.on a k ∙ sym (each_at (machine_of lines) p.n 0 a k ∙ ap (machine_of lines) z))

  pub order_known : Below p.n order
  order_known = rw t.whole.is (order_below (graph (shop p g ok lines w)) (counts_for p lines) (counted p g ok lines w))

  pub begun-length : length begun ≡ p.n
  begun-length = ap length t.placement.begun ∙ starts_length p lines

  pub done_length : length done ≡ p.n
  done_length = ap length t.placement.done ∙ length-each _ p.n 0

  -- What is gathered along the order is the sheet.
  pub sheet_is : {prepared : List ℕ} → prepared ≡ setups_of p lines → columns_of order on begun done prepared ≡ sheet_of p lines
  sheet_is e = rw (t.whole.is, machines_are, t.placement.begun, t.placement.done, e)

pub roomy_for : {n : ℕ} {a m s e u : List ℕ} → n ≤ 128 → Roomy 128 a m s e u → Roomy n a m s e u
roomy_for h r =
    record {
      activities = omega (arith, r.activities);
      machines = omega (arith, r.machines);
      starts = omega (arith, r.starts);
      ends = omega (arith, r.ends);
      setups = omega (arith, r.setups);
    }

pub written_as : {x y : Columns} {a₀ m₀ s₀ e₀ u₀ a m s e u : List ℕ} → x ≡ y → Written x a₀ m₀ s₀ e₀ u₀ a m s e u → Written y a₀ m₀ s₀ e₀ u₀ a m s e u
written_as {x} {y} {a₀} {m₀} {s₀} {e₀} {u₀} {a} {m} {s} {e} {u} q w = subst (λ (c : Columns). Written c a₀ m₀ s₀ e₀ u₀ a m s e u) q w

-- ---- number 8, and else a sheet

module _ (p : Problem) (lines : Lines) where
  pub eight_answer : (b : Bool) → b ≡ true → Err (refusal Contradiction 0) ≡ answer_of (eight_if b p lines)
  eight_answer true e = refl
  eight_answer false e = absurd (false≢true e)

  pub eight_leaves : (b : Bool) → b ≡ true → {a₀ m₀ s₀ e₀ u₀ : List ℕ} → Leaves (eight_if b p lines) a₀ m₀ s₀ e₀ u₀ a₀ m₀ s₀ e₀ u₀
  eight_leaves true e = record { activities = refl; machines = refl; starts = refl; ends = refl; setups = refl }
  eight_leaves false e = absurd (false≢true e)

  pub sheet_answer : (b : Bool) → b ≡ false → {n f : ℕ} → n ≡ p.n → f ≡ to_bits binary64 (fitness_on p lines) → Ok (record { rows = n; bits = f }) ≡ answer_of (eight_if b p lines)
  sheet_answer true e q r = absurd (false≢true (sym e))
  sheet_answer false e q r = rw (q, r) refl

  pub sheet_leaves : (b : Bool) → b ≡ false → {a₀ m₀ s₀ e₀ u₀ a m s e u : List ℕ} → Written (sheet_of p lines) a₀ m₀ s₀ e₀ u₀ a m s e u → Leaves (eight_if b p lines) a₀ m₀ s₀ e₀ u₀ a m s e u
  sheet_leaves true e w = absurd (false≢true (sym e))
  sheet_leaves false e w = record { activities = w.activities; machines = w.machines; starts = w.starts; ends = w.ends; setups = w.setups }

pub not_not : (b : Bool) {r : Bool} → r ≡ not b → r ≡ true → b ≡ false
not_not b e q = denied b (sym e ∙ q)

pub not_false : (b : Bool) {r : Bool} → r ≡ not b → r ≡ false → b ≡ true
not_false b e q = granted b (sym e ∙ q)

-- ---- fitness

pub ended : (p : Problem) (g : Genes) (ok : Accepted p g) (lines : Lines) (w : WellFormed p.n p.machines lines) {order begun done : List ℕ}
    → Timed p lines order begun done → Ended p.n done
ended p g ok lines w {order} {begun} {done} t =
    record {
      each = omega (arith, ap length t.placement.done, length-each (λ a. start_of p lines a + span_at p lines a) p.n 0);
      bounded = λ a h. omega (arith, ap (λ (l : List ℕ). get_or l a 0) t.placement.done, ends_most p g ok lines w (ap length (sym t.whole.is) ∙ t.whole.all) a h);
    }

pub fitness_is : (p : Problem) (lines : Lines) {order begun done : List ℕ} → Timed p lines order begun done → fitness_of p (λ a. get_or done a 0) ≡ fitness_on p lines
fitness_is p lines t = ap (λ (l : List ℕ). fitness_of p (λ a. get_or l a 0)) t.placement.done

-- ---- number 7

module _ (p : Problem) (lines : Lines) where
  pub seven_answer : (b : Bool) → b ≡ false → Err (refusal Missed 0) ≡ answer_of (seven_unless b p lines)
  seven_answer true e = absurd (false≢true (sym e))
  seven_answer false e = refl

  pub seven_leaves : (b : Bool) → b ≡ false → {a₀ m₀ s₀ e₀ u₀ : List ℕ} → Leaves (seven_unless b p lines) a₀ m₀ s₀ e₀ u₀ a₀ m₀ s₀ e₀ u₀
  seven_leaves true e = absurd (false≢true (sym e))
  seven_leaves false e = record { activities = refl; machines = refl; starts = refl; ends = refl; setups = refl }

  pub timed_on : (b : Bool) → b ≡ true → eight_if (contradicts p lines) p lines ≡ seven_unless b p lines
  timed_on true e = refl
  timed_on false e = absurd (false≢true e)

pub leaves_as : {x y : Outcome} {a₀ m₀ s₀ e₀ u₀ a m s e u : List ℕ} → x ≡ y → Leaves x a₀ m₀ s₀ e₀ u₀ a m s e u → Leaves y a₀ m₀ s₀ e₀ u₀ a m s e u
leaves_as {x} {y} {a₀} {m₀} {s₀} {e₀} {u₀} {a} {m} {s} {e} {u} q w = subst (λ (o : Outcome). Leaves o a₀ m₀ s₀ e₀ u₀ a m s e u) q w

-- ---- number 6

module _ (o : Outcome) where
  pub roomy_on : (b : Bool) → b ≡ true → o ≡ six_unless b o
  roomy_on true e = refl
  roomy_on false e = absurd (false≢true e)

both : (b c : Bool) → (b && c) ≡ true → (b ≡ true) × (c ≡ true)
both true c e = (refl, e)
both false c e = absurd (false≢true e)

pub roomy_means : (cells a m s e u : List ℕ) → (leb 2048 (length cells) && roomy a m s e u) ≡ true → (2048 ≤ length cells) × Roomy 128 a m s e u
roomy_means cells a m s e u q =
    let c = both (leb 2048 (length cells)) (roomy a m s e u) q in
    let ka = both (leb 128 (length a)) (leb 128 (length m) && (leb 128 (length s) && (leb 128 (length e) && leb 128 (length u)))) c.1 in
    let km = both (leb 128 (length m)) (leb 128 (length s) && (leb 128 (length e) && leb 128 (length u))) ka.1 in
    let ks = both (leb 128 (length s)) (leb 128 (length e) && leb 128 (length u)) km.1 in
    let ke = both (leb 128 (length e)) (leb 128 (length u)) ks.1 in (
      leb-true 2048 (length cells) c.0,
      record {
        activities = leb-true 128 (length a) ka.0;
        machines = leb-true 128 (length m) km.0;
        starts = leb-true 128 (length s) ks.0;
        ends = leb-true 128 (length e) ke.0;
        setups = leb-true 128 (length u) ke.1;
      },
    )

-- ---- numbers 1 to 5, and else the plan is taken in

module _ (s : List ℕ) (lines : Lines) {r : Reading} (e : r ≡ taken_in s) where
  pub not_taken : {reason : Reason} {place : ℕ} → r.answer ≡ No reason place → no reason place ≡ timed_plan s lines
  not_taken a = ap (λ (x : Answer). timed_if x s (taken_in s) lines) (sym a ∙ ap (λ (x : Reading). x.answer) e)

  pub taken : r.answer ≡ Read → timed_lines (problem_in s r) lines ≡ timed_plan s lines
  taken a = ap (λ (x : Reading). timed_lines (problem_in s x) lines) e ∙ ap (λ (x : Answer). timed_if x s (taken_in s) lines) (sym a ∙ ap (λ (x : Reading). x.answer) e)

  pub taken_asks : {z : Layout} {table : List ℕ} → z ≡ layout_of r → r.answer ≡ Read → Tabled (problem_in s r) table → Taken s z table
  taken_asks {z} {table} q a t =
      let sound = taken_in_means s r e a in
      subst (λ (x : Layout). Taken s x table) (sym q)
      (record { placed = sound.placed; accepted = sound.accepted; weighed = sound.weighed; tabled = t })

-- ---- the plan's own lines

module _ (p : Problem) (g : Genes) where
  pub missed_answer : (b : Bool) → b ≡ true → Err (refusal Missed 0) ≡ answer_of (seven_if b p g)
  missed_answer true e = refl
  missed_answer false e = absurd (false≢true e)

  pub missed_leaves : (b : Bool) → b ≡ true → {a₀ m₀ s₀ e₀ u₀ : List ℕ} → Leaves (seven_if b p g) a₀ m₀ s₀ e₀ u₀ a₀ m₀ s₀ e₀ u₀
  missed_leaves true e = record { activities = refl; machines = refl; starts = refl; ends = refl; setups = refl }
  missed_leaves false e = absurd (false≢true e)

  pub dealt_on : (b : Bool) → b ≡ false → {lines : Lines} → lines ≡ lines_of_genes p g → eight_if (contradicts p lines) p lines ≡ seven_if b p g
  dealt_on true e q = absurd (false≢true (sym e))
  dealt_on false e q = ap (λ (l : Lines). eight_if (contradicts p l) p l) q

module _ (s : List ℕ) {r : Reading} (e : r ≡ taken_in s) where
  pub not_ordered : {reason : Reason} {place : ℕ} → r.answer ≡ No reason place → no reason place ≡ ordered_plan s
  not_ordered a = ap (λ (x : Answer). ordered_if x s (taken_in s)) (sym a ∙ ap (λ (x : Reading). x.answer) e)

  pub ordered : r.answer ≡ Read → timed_genes (problem_in s r) (genes_in s r) ≡ ordered_plan s
  ordered a = ap (λ (x : Reading). timed_genes (problem_in s x) (genes_in s x)) e ∙ ap (λ (x : Answer). ordered_if x s (taken_in s)) (sym a ∙ ap (λ (x : Reading). x.answer) e)

-- ---- what taking in answered

module _ (s : List ℕ) {z : Layout} (e : Ok z ≡ laid_out (taken_in s)) where
  -- A layout with its tables is what the inner functions ask.
  pub laid_asks : {table : List ℕ} → Tabled (problem_of (words s) z) table → Taken s z table
  laid_asks {table} t =
      let k = took (taken_in s) e in taken_asks s [] refl k.1 k.0 (subst (λ (x : Layout). Tabled (problem_of (words s) x) table) k.1 t)

  pub laid_timed : (lines : Lines) → timed_lines (problem_of (words s) z) lines ≡ timed_plan s lines
  laid_timed lines =
      let k = took (taken_in s) e in ap (λ (x : Layout). timed_lines (problem_of (words s) x) lines) k.1 ∙ taken s lines refl k.0

  pub laid_ordered : timed_genes (problem_of (words s) z) (genes_of (words s) z) ≡ ordered_plan s
  laid_ordered =
      let k = took (taken_in s) e in ap (λ (x : Layout). timed_genes (problem_of (words s) x) (genes_of (words s) x)) k.1 ∙ ordered s refl k.0

-- A refusal is the answer.
module _ (s : List ℕ) {f : Refusal} (e : Err f ≡ laid_out (taken_in s)) where
  pub refused_timed : (lines : Lines) → no f.reason f.place ≡ timed_plan s lines
  refused_timed lines = not_taken s lines refl (refused_so (taken_in s) e)

pub rows_room : (a m s e u : List ℕ) → roomy a m s e u ≡ true → Roomy 128 a m s e u
rows_room a m s e u q = (roomy_means (replicate 2048 0) a m s e u q).1
