-- `timing::order_and_place` meets its contract: the tables and the links hold the arcs, so that what is taken is the timing order. Assumes nothing.
use Prim.Native.Nat.{ℕ, ◌+◌, ◌-◌}
use mathlib.Core.Path.{◌≡◌, refl, sym, ap, ◌∙◌}
use native.Mathlib.Omega.{arith}
use borrow.Author.Tests.{eqb-true}
use lib.ListN.{length, take, drop}
use Rattle.words.specs.Words.{words}
use Rattle.plan.specs.Input.{problem_of, genes_of}
use Rattle.lines.specs.Lines.{lines_in}
use Rattle.intake.proofs.CircleTables.{length-waits}
use Rattle.timing.proofs.OrderTables.{waits_small, order_asked, order_answered}
use Rattle.timing.proofs.order_and_place.Goals as goal

pub add_line_waits-requires : goal.add_line_waits-requires
add_line_waits-requires c = let p = problem_of (words c.args.s.now) c.args.z in
    let g = genes_of (words c.args.s.now) c.args.z in
    let j : 512 + c.args.z.activities - 512 ≡ c.args.z.activities = omega arith in
    let i : length (take (512 + c.args.z.activities - 512) (drop 512 c.args.table.now)) ≡ c.args.z.activities = ap (λ (x : ℕ). length (take x (drop 512 c.args.table.now))) j ∙ length-waits p g c.requires.placed.1 c.requires.placed.2 in
    (c.requires.well_formed.1.length_before ∙ sym i, c.requires.space.0.counted ∙ sym i, rw j (waits_small p g c.requires.placed.1 c.requires.placed.2))

pub stack_free-first-requires : goal.stack_free-first-requires
stack_free-first-requires c = omega (arith, c.add_line_waits.auto.counts, c.requires.space.0.counted, c.requires.space.0.roomy)

pub take_and_place-requires : goal.take_and_place-requires
take_and_place-requires c = let p = problem_of (words c.args.s.now) c.args.z in
    let g = genes_of (words c.args.s.now) c.args.z in
    let j : 512 + c.args.z.activities - 512 ≡ c.args.z.activities = omega arith in
    let i : length (take (512 + c.args.z.activities - 512) (drop 512 c.args.table.now)) ≡ c.args.z.activities = ap (λ (x : ℕ). length (take x (drop 512 c.args.table.now))) j ∙ length-waits p g c.requires.placed.1 c.requires.placed.2 in
    let k : 128 + c.args.z.activities - 128 ≡ c.args.z.activities = omega arith in
    let lines = lines_in c.args.cells.now c.args.lens.now in
    let counted = c.add_line_waits.auto.counts ∙ c.requires.space.0.counted in
    record {
      placed = (c.requires.placed.0, c.requires.placed.1, c.requires.placed.2, λ e. sym c.word-own.ensures ∙ eqb-true _ _ e, c.requires.placed.3);
      well_formed = (c.requires.well_formed.0, c.requires.well_formed.2);
      stacked = record {
        linked = order_asked p g c.requires.placed.1 c.requires.placed.2 lines c.requires.well_formed.0 c.requires.well_formed.1 refl k i j c.add_line_waits.ensures;
        ordered = order_answered p g c.requires.placed.1 c.requires.placed.2 lines c.requires.well_formed.0 c.requires.well_formed.1 refl k i j c.add_line_waits.ensures refl;
        free = c.stack_free-first.ensures.0;
        over = omega (arith, c.stack_free-first.ensures.1, counted);
        roomy = omega (arith, c.stack_free-first.auto.stack, c.requires.space.0.roomy);
        narrow = omega (arith, c.stack_free-first.auto.stack, c.requires.space.0.narrow);
      };
      order_len = (c.requires.space.0.ordered, c.requires.space.1, c.requires.space.2);
    }
