-- `timing::placing::span_on` meets its contract: without Setups entries an activity's own setup counts. Assumes nothing.
use Prim.Native.Nat.{ℕ}
use mathlib.Core.Path.{ap, ◌∙◌}
use native.Mathlib.Omega.{arith}
use Rattle.words.specs.Words.{words}
use Rattle.plan.specs.Input.{problem_of}
use Rattle.bounds.specs.Bounds.{span_of}
use Rattle.timing.proofs.SpanLaws.{own_counts}
use Rattle.timing.proofs.placing.span_on.Goals as goal

pub own_span-requires : goal.own_span-requires
own_span-requires c = (omega (arith, c.requires.a_lt_activities.0, c.requires.placed.1.activities.1), omega (arith, c.requires.a_lt_activities.1, c.requires.placed.1.machines.1), c.requires.placed.2.sized)

pub returns-then-own : goal.returns-then-own
returns-then-own c = c.own_span.ensures (problem_of (words c.args.s.now) c.args.z) c.requires.placed.2 c.requires.a_lt_activities.0 c.requires.a_lt_activities.1
    ∙ ap (λ (x : ℕ). span_of (problem_of (words c.args.s.now) c.args.z) c.args.a c.args.m x)
    (own_counts (words c.args.s.now) c.args.z c.args.a c.args.m c.args.line (c.requires.placed.3 c.if-own.true))
