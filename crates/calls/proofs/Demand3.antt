-- Demand 3 for the public call: what an accepted plan's lines come to, told by arcs and bounds.
use Prim.Native.Nat.{ℕ, ◌+◌, ◌≤◌, ◌<◌}
use mathlib.Core.Path.{◌≡◌, refl, sym, ap, ap₂, ◌∙◌}
use mathlib.Core.Bool.{Bool, true, false, ◌&&◌, false≢true}
use mathlib.Core.List.{List, [], ◌∷◌, ◌++◌}
use native.Mathlib.Omega.{arith}
use lib.Dec.{leb}
use borrow.Author.Tests.{le-leb, ltb-false, eq-eqb, ne_eqb}
use lib.ListN.{length, get_or, take, drop, get_or-append}
use lib.Ieee.{to_bits, binary64}
use Rattle.std.specs.Prelude.{Result}
use Rattle.graph.specs.Counting.{count_of}
use Rattle.graph.proofs.CountingLaws.{below_of, either, hit-ne}
use Rattle.graph.proofs.Theorem.{at_most_n, all_named, order_once}
use Rattle.graph.proofs.ShopTheorem.{graph}
use Rattle.reader.specs.Answer.{Accepted as Read}
use Rattle.reader.specs.declared.refusal.Refusal.{Refusal}
use Rattle.plan.specs.Problem.{Problem, Genes}
use Rattle.plan.specs.Accepted.{Accepted}
use Rattle.lines.specs.Lines.{Lines, lines_in, machine_of, place_on, well_formed, WellFormed}
use Rattle.lines.proofs.LineLaws.{placed_on}
use Rattle.lines.proofs.LineLaws.{pred_below as line_pred_below}
use Rattle.lines.proofs.TestLaws.{test_complete}
use Rattle.intake.specs.Circle.{each}
use Rattle.intake.specs.Intake.{problem_in, genes_in, taken_in}
use Rattle.intake.proofs.BareShop.{pred_below, each_at}
use Rattle.intake.proofs.Soundness.{taken_in_means}
use Rattle.bounds.proofs.ArrivalLaws.{link_names}
use Rattle.timing.specs.Timing.{timing_order, counts_for, contradicts, span_at, starts_of, start_of, ends_of}
use Rattle.timing.specs.Exactly.{Meeting}
use Rattle.timing.proofs.LinesShop.{shop, counted}
use Rattle.timing.proofs.Demand3.{timing_exact}
use Rattle.rows.specs.Rows.{gathered, over, Roomy}
use Rattle.rows.proofs.RowLaws.{length-gathered, gathered_at}
use Rattle.calls.specs.declared.Sheet.{Sheet}
use Rattle.calls.specs.Outcome.{answer_of, Leaves}
use Rattle.calls.specs.Timing.{fitness_on, eight_if, timed_lines, timed, roomy}
use Rattle.calls.specs.Demand3.{in_row, Least, Demand3}
use Rattle.calls.proofs.PrefixLaws.{prefix_is}
use Rattle.calls.proofs.SheetLaws.{timed_on, roomy_on, taken, leaves_as}

-- What stands behind a list does not move what stands in it.
place_before : (l k : List ℕ) (a : ℕ) → 0 < count_of a l → place_on (l ++ k) a ≡ place_on l a
unfolding place_on count_of
place_before [] k a h = absurd (omega arith)
place_before (x ∷ l) k a h =
    either x a (λ e. rw (eq-eqb x a e) refl)
    (λ ne. rw (ne_eqb x a ne) (ap (λ (i : ℕ). i + 1) (place_before l k a (omega (arith, hit-ne x a ne)))))

module _ (p : Problem) (g : Genes) (ok : Accepted p g) (lines : Lines) (w : WellFormed p.n p.machines lines) where
  -- Of lines that do not contradict, each activity is in the order, once.
  module _ (e : contradicts p lines ≡ false) where
    full : length (timing_order p lines) ≡ p.n
    full = omega (arith, at_most_n (graph (shop p g ok lines w)) (counts_for p lines) (counted p g ok lines w), ltb-false (length (timing_order p lines)) p.n e)

    there : (a : ℕ) → a < p.n → 0 < count_of a (timing_order p lines)
    there = all_named (graph (shop p g ok lines w)) (counts_for p lines) (counted p g ok lines w) full

    each_of : (f : ℕ → ℕ) (a : ℕ) → a < p.n → get_or (each f p.n 0) a 0 ≡ f a
    each_of f a h = let z : 0 + a ≡ a = omega arith in each_at f p.n 0 a h ∙ ap f z

    -- A column that was gathered and written has in the activity's row what the activity has.
    in_row' : {activities column : List ℕ} (before cells values : List ℕ) → activities ≡ over (timing_order p lines) before
        → column ≡ over (gathered values (timing_order p lines)) cells → (a : ℕ) → a < p.n → in_row activities column a ≡ get_or values a 0
    in_row' before cells values ea ec a h =
        let o = timing_order p lines in
        let r = placed_on o a (there a h) in
        let i = place_on o a in
        ap₂ (λ (c l : List ℕ). get_or c (place_on l a) 0) ec ea
        ∙ ap (λ (j : ℕ). get_or (over (gathered values o) cells) j 0) (place_before o (drop (length o) before) a (there a h))
        ∙ get_or-append (gathered values o) (drop (length (gathered values o)) cells) 0 i (omega (arith, r.0, length-gathered values o))
        ∙ gathered_at values o i r.0
        ∙ ap (λ (j : ℕ). get_or values j 0) r.1

    module _ {a₀ m₀ s₀ e₀ u₀ activities machines starts ends setups : List ℕ} (l : Leaves (eight_if false p lines) a₀ m₀ s₀ e₀ u₀ activities machines starts ends setups) where
      started : (a : ℕ) → a < p.n → in_row activities starts a ≡ start_of p lines a
      started = in_row' a₀ s₀ (starts_of p lines) l.activities l.starts

      rows_meet : Meeting p lines (in_row activities starts)
      rows_meet =
          let m = (timing_exact p g ok lines w).meets e in
          record {
            released = λ a h. omega (arith, m.released a h, started a h);
            lined = λ q a h k. omega (arith, m.lined q a h k, started a h, started q (link_names p.n q k (line_pred_below w a)));
            tasked = λ q a h k. omega (arith, m.tasked q a h k, started a h, started q (link_names p.n q k (pred_below p g ok a h)));
            followed = λ q a h k. omega (arith, m.followed q a h k, started a h, started q (below_of p.n q (p.predecessors a) (ok.predecessors a) k));
          }

      pub rows-least : {answer : Result Sheet Refusal} → answer ≡ answer_of (eight_if false p lines) → Least p lines answer activities machines starts ends
      rows-least q =
          record {
            bits = to_bits binary64 (fitness_on p lines);
            is = q;
            once = λ a h.
                ap (λ (c : List ℕ). count_of a (take p.n c)) l.activities
                ∙ ap (count_of a) (prefix_is p.n (timing_order p lines) (drop (length (timing_order p lines)) a₀) full)
                ∙ omega (arith, there a h, order_once (graph (shop p g ok lines w)) (counts_for p lines) (counted p g ok lines w) a h);
            on = λ a h. in_row' a₀ m₀ (each (machine_of lines) p.n 0) l.activities l.machines a h ∙ each_of (machine_of lines) a h;
            meets = rows_meet;
            least = λ S m a h. omega (arith, started a h, (timing_exact p g ok lines w).least e S m a h);
            done = λ a h.
                omega (arith, in_row' a₀ e₀ (ends_of p lines) l.activities l.ends a h, each_of (λ b. start_of p lines b + span_at p lines b) a h, started a h);
          }

  module _ {answer : Result Sheet Refusal} {a₀ m₀ s₀ e₀ u₀ activities machines starts ends setups : List ℕ} where
    eight_circle : (b : Bool) → b ≡ contradicts p lines → answer ≡ answer_of (eight_if b p lines) → Leaves (eight_if b p lines) a₀ m₀ s₀ e₀ u₀ activities machines starts ends setups
        → Demand3 p lines answer activities machines starts ends
    eight_circle true q r l =
        let c = (timing_exact p g ok lines w).circle.0 (sym q) in
        record { contradicts = (λ k. c, λ k. r); shown = refl; otherwise = λ none. absurd (none c) }
    eight_circle false q r l =
        record {
          contradicts = (
            λ k. absurd (cc (r, k)),
            λ k. absurd (false≢true (q ∙ (timing_exact p g ok lines w).circle.1 k)),
          );
          shown = refl;
          otherwise = λ none. rows-least (sym q) l r;
        }

    pub lines_demand_3 : answer ≡ answer_of (timed_lines p lines) → Leaves (timed_lines p lines) a₀ m₀ s₀ e₀ u₀ activities machines starts ends setups
        → Demand3 p lines answer activities machines starts ends
    lines_demand_3 r l =
        let o = timed_on p lines (well_formed p.n p.machines lines) (test_complete p.n p.machines lines w) in
        eight_circle (contradicts p lines) refl (r ∙ ap answer_of (sym o)) (leaves_as (sym o) l)

-- Buffers of full size pass the test of them.
room_there : (cells a m s e u : List ℕ) → 2048 ≤ length cells → Roomy 128 a m s e u → (leb 2048 (length cells) && roomy a m s e u) ≡ true
room_there cells a m s e u h r =
    rw (
      le-leb 2048 (length cells) h,
      le-leb 128 (length a) r.activities,
      le-leb 128 (length m) r.machines,
      le-leb 128 (length s) r.starts,
      le-leb 128 (length e) r.ends,
      le-leb 128 (length u) r.setups,
    )

-- For any accepted plan, buffers of full size, and any lines on its machines that hold each activity exactly once: of every answer and every
-- content of the buffers that the contract of `time` permits.
pub demand_3 : (bytes cells lens : List ℕ) {a₀ m₀ s₀ e₀ u₀ a m s e u : List ℕ} {answer : Result Sheet Refusal} → (taken_in bytes).answer ≡ Read → 2048 ≤ length cells → Roomy 128 a₀ m₀ s₀ e₀ u₀
    → WellFormed (problem_in bytes (taken_in bytes)).n (problem_in bytes (taken_in bytes)).machines (lines_in (take 2048 cells) lens)
    → answer ≡ answer_of (timed bytes cells lens a₀ m₀ s₀ e₀ u₀) → Leaves (timed bytes cells lens a₀ m₀ s₀ e₀ u₀) a₀ m₀ s₀ e₀ u₀ a m s e u
    → Demand3 (problem_in bytes (taken_in bytes)) (lines_in (take 2048 cells) lens) answer a m s e
demand_3 bytes cells lens {a₀} {m₀} {s₀} {e₀} {u₀} read long room w q l =
    let lines = lines_in (take 2048 cells) lens in
    let sound = taken_in_means bytes (taken_in bytes) refl read in
    let o = taken bytes lines refl read ∙ roomy_on _ (leb 2048 (length cells) && roomy a₀ m₀ s₀ e₀ u₀) (room_there cells a₀ m₀ s₀ e₀ u₀ long room) in
    lines_demand_3 (problem_in bytes (taken_in bytes)) (genes_in bytes (taken_in bytes)) sound.accepted lines w (q ∙ ap answer_of (sym o)) (leaves_as (sym o) l)
