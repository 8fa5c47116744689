-- `board::seat_after` meets its contract: the start by the bounds of timing, the setup and the span after it.
use native.Mathlib.Omega.{arith}
use lib.ListN.{get_or}
use Rattle.words.specs.Words.{words}
use Rattle.plan.specs.Input.{problem_of, genes_of}
use Rattle.timing.proofs.EndLaws.{setup_most, span_most}
use Rattle.board.proofs.SeatLaws.{ending, start_most}
use Rattle.board.proofs.seat_after.Goals as goal

pub start_after-start-requires : goal.start_after-start-requires
start_after-start-requires c = let p = problem_of (words c.args.s.now) c.args.z in
    let g = genes_of (words c.args.s.now) c.args.z in (
      record { held = record { problem = p; tabled = c.requires.placed.2; known = c.requires.a_lt_activities.0; few = c.requires.placed.1.activities.1 }; named = rw c.requires.ends_len.0 (c.requires.placed.1.predecessors c.args.a) },
      ending c.requires.ends_len.0 c.requires.a_lt_activities.2 c.requires.ends_len.1,
      ending c.requires.ends_len.0 c.requires.a_lt_activities.3 c.requires.ends_len.1,
      c.requires.a_lt_activities.4,
    )

pub span-span-requires : goal.span-span-requires
span-span-requires c = let p = problem_of (words c.args.s.now) c.args.z in
    let g = genes_of (words c.args.s.now) c.args.z in
    let most = setup_most p g c.requires.placed.1 c.args.a c.args.m c.args.line c.requires.a_lt_activities.0 c.requires.a_lt_activities.1 in
    (c.requires.placed.0, omega (arith, c.requires.a_lt_activities.0, c.requires.placed.1.activities.1), omega (arith, c.requires.a_lt_activities.1, c.requires.placed.1.machines.1), omega (arith, most, c.setup_of-setup.ensures))

pub overflow_add-result : goal.overflow_add-result
overflow_add-result c = let p = problem_of (words c.args.s.now) c.args.z in
    let g = genes_of (words c.args.s.now) c.args.z in
    let start = start_most p g c.requires.placed.1 c.args.a c.args.line c.args.step c.args.way (λ q. get_or c.args.ends.now q 0) 2305843009213693952 4294967296 (omega arith) (λ q. omega (arith, c.requires.ends_len.1 q)) (omega (arith, c.requires.a_lt_activities.4)) in
    let span = span_most p g c.requires.placed.1 c.args.a c.args.m c.args.line c.requires.a_lt_activities.0 c.requires.a_lt_activities.1 in
    omega (arith, start, span, c.start_after-start.ensures p c.requires.placed.2 c.requires.a_lt_activities.0 c.requires.placed.1.activities.1, c.setup_of-setup.ensures, c.span-span.ensures)

pub returns : goal.returns
returns c = let p = problem_of (words c.args.s.now) c.args.z in
    let g = genes_of (words c.args.s.now) c.args.z in
    rw (c.span-span.ensures, c.setup_of-setup.ensures, c.start_after-start.ensures p c.requires.placed.2 c.requires.a_lt_activities.0 c.requires.placed.1.activities.1)
