-- `timing::placing::place` meets its contract. Assumes nothing.
use Rattle.std.specs.Prelude.{Option, ℕ}
use Prim.Native.Nat.{ℕ, ◌+◌, ◌<◌}
use mathlib.Core.Path.{ap, ap₂, ◌∙◌}
use native.Mathlib.Omega.{arith}
use lib.ListN.{get_or, set}
use Rattle.words.specs.Words.{words}
use Rattle.plan.specs.Input.{problem_of, genes_of}
use Rattle.intake.proofs.BareShop.{pred_below}
use Rattle.timing.specs.Placing.{machine_before}
use Rattle.timing.proofs.PlacingLaws.{way_is, way_small, start_now_lem, span_now_lem}
use Rattle.timing.proofs.placing.place.Goals as goal

pub before_of-step-requires : goal.before_of-step-requires
before_of-step-requires c = (omega (arith, c.requires.placeable.known, c.requires.placed.1.activities.1), c.requires.placed.2.sized)

pub machine_before-from-requires : goal.machine_before-from-requires
machine_before-from-requires c = let p = problem_of (words c.args.s.now) c.args.z in
    let g = genes_of (words c.args.s.now) c.args.z in
    let es = c.before_of-step.ensures p c.requires.placed.2 c.requires.placeable.known in
    rw (c.requires.placeable.length-machines, es) (pred_below p g c.requires.placed.1 c.args.a c.requires.placeable.known)

pub offset_bounds-ways-from : goal.offset_bounds-ways-from
offset_bounds-ways-from c = let p = problem_of (words c.args.s.now) c.args.z in
    let g = genes_of (words c.args.s.now) c.args.z in
    let es = c.before_of-step.ensures p c.requires.placed.2 c.requires.placeable.known in
    let from : c.machine_before-from.result < p.machines = omega (arith, c.machine_before-from.ensures ∙ ap (λ (s : Option ℕ). machine_before s (λ q. get_or c.args.machines.now q 0)) es, c.requires.placeable.from) in
    omega (arith, from, c.requires.placed.1.machines.1)

pub offset_bounds-ways-m : goal.offset_bounds-ways-m
offset_bounds-ways-m c = omega (arith, c.requires.placeable.on, c.requires.placed.1.machines.1)

pub bounds-ways-from : goal.bounds-ways-from
bounds-ways-from c = let p = problem_of (words c.args.s.now) c.args.z in
    let g = genes_of (words c.args.s.now) c.args.z in
    let es = c.before_of-step.ensures p c.requires.placed.2 c.requires.placeable.known in
    let from : c.machine_before-from.result < p.machines = omega (arith, c.machine_before-from.ensures ∙ ap (λ (s : Option ℕ). machine_before s (λ q. get_or c.args.machines.now q 0)) es, c.requires.placeable.from) in
    omega (arith, from, c.requires.placed.1.machines.1)

pub bounds-ways-m : goal.bounds-ways-m
bounds-ways-m c = omega (arith, c.requires.placeable.on, c.requires.placed.1.machines.1)

pub overflow_cast-way : goal.overflow_cast-way
overflow_cast-way c = let p = problem_of (words c.args.s.now) c.args.z in
    let g = genes_of (words c.args.s.now) c.args.z in
    let es = c.before_of-step.ensures p c.requires.placed.2 c.requires.placeable.known in
    let from : c.machine_before-from.result < p.machines = omega (arith, c.machine_before-from.ensures ∙ ap (λ (s : Option ℕ). machine_before s (λ q. get_or c.args.machines.now q 0)) es, c.requires.placeable.from) in
    omega (arith, way_small p g c.requires.placed.1 c.requires.placed.4 from c.requires.placeable.on)

pub start_after-start-requires : goal.start_after-start-requires
start_after-start-requires c = let p = problem_of (words c.args.s.now) c.args.z in
    let g = genes_of (words c.args.s.now) c.args.z in
    let es = c.before_of-step.ensures p c.requires.placed.2 c.requires.placeable.known in
    let from : c.machine_before-from.result < p.machines = omega (arith, c.machine_before-from.ensures ∙ ap (λ (s : Option ℕ). machine_before s (λ q. get_or c.args.machines.now q 0)) es, c.requires.placeable.from) in (
      record { held = record { problem = p; tabled = c.requires.placed.2; known = c.requires.placeable.known; few = c.requires.placed.1.activities.1 }; named = rw c.requires.placeable.length-ends (c.requires.placed.1.predecessors c.args.a) },
      rw c.link_of-line.ensures c.requires.placeable.line,
      rw es c.requires.placeable.step,
      way_small p g c.requires.placed.1 c.requires.placed.4 from c.requires.placeable.on,
    )

pub span_on-span-requires : goal.span_on-span-requires
span_on-span-requires c = record { placed = (c.requires.placed.0, c.requires.placed.1, c.requires.placed.2, c.requires.placed.3); a_lt_activities = (c.requires.placeable.known, c.requires.placeable.on, rw (c.link_of-line.ensures, ← c.requires.placeable.length-ends) c.requires.placeable.line.known) }

pub overflow_add-ends : goal.overflow_add-ends
overflow_add-ends c = let p = problem_of (words c.args.s.now) c.args.z in
    let g = genes_of (words c.args.s.now) c.args.z in
    let es = c.before_of-step.ensures p c.requires.placed.2 c.requires.placeable.known in
    let from : c.machine_before-from.result < p.machines = omega (arith, c.machine_before-from.ensures ∙ ap (λ (s : Option ℕ). machine_before s (λ q. get_or c.args.machines.now q 0)) es, c.requires.placeable.from) in
    let way = way_is p g c.requires.placed.1 c.requires.placed.4 from c.requires.placeable.on in
    let start = start_now_lem p c.args.before.now c.args.machines.now c.args.ends.now c.args.a c.link_of-line.ensures es c.machine_before-from.ensures way (c.start_after-start.ensures p c.requires.placed.2 c.requires.placeable.known c.requires.placed.1.activities.1) in
    let span = span_now_lem p c.args.before.now c.args.machines.now c.args.a c.link_of-line.ensures c.span_on-span.ensures in
    omega (arith, start, span, c.requires.placeable.small)

pub returns : goal.returns
returns c = let p = problem_of (words c.args.s.now) c.args.z in
    let g = genes_of (words c.args.s.now) c.args.z in
    let es = c.before_of-step.ensures p c.requires.placed.2 c.requires.placeable.known in
    let from : c.machine_before-from.result < p.machines = omega (arith, c.machine_before-from.ensures ∙ ap (λ (s : Option ℕ). machine_before s (λ q. get_or c.args.machines.now q 0)) es, c.requires.placeable.from) in
    let way = way_is p g c.requires.placed.1 c.requires.placed.4 from c.requires.placeable.on in
    let start = start_now_lem p c.args.before.now c.args.machines.now c.args.ends.now c.args.a c.link_of-line.ensures es c.machine_before-from.ensures way (c.start_after-start.ensures p c.requires.placed.2 c.requires.placeable.known c.requires.placed.1.activities.1) in
    let span = span_now_lem p c.args.before.now c.args.machines.now c.args.a c.link_of-line.ensures c.span_on-span.ensures in
    record { starts_after = ap (λ (x : ℕ). set c.args.starts.now c.args.a x) start; ends_after = ap (λ (x : ℕ). set c.args.ends.now c.args.a x) (ap₂ ◌+◌ start span) }
