-- P7: lines that contradict, read from the bytes of the plan and timed, by computing; and starts of 0, which meet every bound all the same.
use Rattle.std.specs.Prelude.{None, Option, Some, ℕ}
use Prim.Native.Nat.{ℕ, zero, suc, ◌+◌, ◌≤◌, ◌<◌}
use mathlib.Core.Path.{◌≡◌, refl, sym, ap, ◌∙◌}
use mathlib.Core.List.{List, []}
use native.Mathlib.Omega.{arith}
use Rattle.words.specs.Words as stored
use Rattle.graph.specs.Counting.{count_of}
use Rattle.graph.specs.Counting as counting
use Rattle.graph.specs.Filing as filing
use Rattle.graph.specs.Order as order
use Rattle.grammar.specs.Rules as rules
use Rattle.reader.specs.Reading as reading
use Rattle.reader.specs.declared.refusal.Reason.TheVariants.{Contradiction}
use Rattle.plan.specs.Problem.{Problem}
use Rattle.plan.specs.Input as input
use Rattle.tables.specs.Tabled.{task_pred}
use Rattle.intake.specs.Circle as circle
use Rattle.intake.specs.Intake.{taken_in, problem_in}
use Rattle.lines.specs.Lines.{line_pred}
use Rattle.lines.specs.Lines as lines
use Rattle.timing.specs.Timing.{span_at, way_to}
use Rattle.timing.specs.Exactly.{Meeting}
use Rattle.calls.specs.Outcome.{no}
use Rattle.calls.specs.Timing.{timed_plan}
use Rattle.plans.specs.PlanS.{bytes_of_zeros}
use Rattle.plans.specs.Table.{crossed, P7}

refused : timed_plan bytes_of_zeros crossed ≡ no Contradiction 0
unfolding stored.words stored.bytes_of reading.read_all reading.read_sections reading.read_section reading.read_entries reading.read_fields reading.read_word rules.total_from rules.pair_before rules.precedes input.owner input.seconds input.firsts order.order_of order.order_from order.stack_free order.free_all circle.each counting.count_of counting.hit filing.naming lines.befores lines.afters lines.well_formed lines.all lines.all_known lines.standing lines.standings
refused = refl

-- ---- starts of 0

abbrev zeros : Problem
zeros = problem_in bytes_of_zeros (taken_in bytes_of_zeros)

-- whom a link names; 0 where it names nobody
abbrev the : Option ℕ → ℕ
the (Some q) = q
the None = 0

-- Of one of the four activities: it is released at 0 and names nobody, and those before it take no time, nor does the way from there.
record Idle (a : ℕ) : Type 0 where
  released : zeros.release a ≡ 0
  names : zeros.predecessors a ≡ []
  lined : span_at zeros crossed (the (line_pred crossed a)) ≡ 0
  tasked : span_at zeros crossed (the (task_pred zeros a)) ≡ 0
  way : way_to zeros crossed (the (task_pred zeros a)) a ≡ 0

idle : (a : ℕ) → a < zeros.n → Idle a
unfolding stored.words stored.bytes_of reading.read_all reading.read_sections reading.read_section reading.read_entries reading.read_fields reading.read_word rules.total_from rules.pair_before rules.precedes input.owner input.seconds input.firsts order.order_of order.order_from order.stack_free order.free_all circle.each counting.count_of counting.hit filing.naming lines.befores lines.holder input.change_from
idle zero h = record { released = refl; names = refl; lined = refl; tasked = refl; way = refl }
idle (suc zero) h = record { released = refl; names = refl; lined = refl; tasked = refl; way = refl }
idle (suc (suc zero)) h = record { released = refl; names = refl; lined = refl; tasked = refl; way = refl }
idle (suc (suc (suc zero))) h = record { released = refl; names = refl; lined = refl; tasked = refl; way = refl }
idle (suc (suc (suc (suc a)))) h = absurd (too_many a h)
  where
    too_many : (a : ℕ) → suc (suc (suc (suc a))) < 4 → ⊥
    too_many a h = omega arith

at_zero : (x : ℕ) → x ≡ 0 → x ≤ 0
at_zero x h = omega (arith, h)

one : (x : ℕ) → x ≡ 0 → 0 + x ≤ 0
one x h = omega (arith, h)

both : (x y : ℕ) → x ≡ 0 → y ≡ 0 → 0 + x + y ≤ 0
both x y h k = omega (arith, h, k)

none_named : (q : ℕ) (named : List ℕ) → named ≡ [] → 0 < count_of q named → ⊥
unfolding counting.count_of
none_named q named e h = let z : count_of q named ≡ 0 = rw e refl in omega (arith, z, h)

feasible : Meeting zeros crossed (λ a. 0)
feasible =
    record {
      released = λ a h. at_zero (zeros.release a) (idle a h).released;
      lined = λ q a h e. one (span_at zeros crossed q) (ap (span_at zeros crossed) (ap the (sym e)) ∙ (idle a h).lined);
      tasked = λ q a h e.
          both (span_at zeros crossed q) (way_to zeros crossed q a) (ap (span_at zeros crossed) (ap the (sym e)) ∙ (idle a h).tasked)
          (ap (λ x. way_to zeros crossed x a) (ap the (sym e)) ∙ (idle a h).way);
      followed = λ q a h b. absurd (none_named q (zeros.predecessors a) (idle a h).names b);
    }

pub contradicting : P7
contradicting = record { refused = refused; shown = refl; feasible = feasible }
