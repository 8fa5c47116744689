-- `tables::spans::fill_spans` meets its contract. The loop's invariant: the rows passed are filled.
use Prim.Native.Nat.{◌-◌, ◌+◌, ◌*◌}
use mathlib.Core.Path.{◌∙◌}
use native.Mathlib.Omega.{arith}
use Rattle.words.specs.Words.{words}
use Rattle.tables.proofs.RegionLaws.{region-length}
use Rattle.tables.proofs.SpanLaws.{row_small, row_next, spanned_none, spanned_more}
use Rattle.tables.proofs.spans.fill_spans.Goals as goal

pub loop-a-init : goal.loop-a-init
loop-a-init c = (omega arith, spanned_none)

pub fill_machines-requires : goal.fill_machines-requires
fill_machines-requires c = let size = region-length c.loop-a.spans (16 * c.loop-a.a) (16 * c.loop-a.a + c.args.z.machines - 16 * c.loop-a.a) (omega (arith, c.requires.0.activities, c.requires.0.machines)) in
    (omega (arith, row_small c.loop-a.a c.args.z.machines c.args.z.at.times c.loop-a.first (omega (arith, c.requires.0.activities)) c.requires.0.machines c.requires.0.times_at c.loop-a.invariant.0), omega (arith, c.requires.0.machines))

pub overflow_add-first-in-loop-a : goal.overflow_add-first-in-loop-a
overflow_add-first-in-loop-a c = let small = row_small c.loop-a.a c.args.z.machines c.args.z.at.times c.loop-a.first (omega (arith, c.requires.0.activities)) c.requires.0.machines c.requires.0.times_at c.loop-a.invariant.0 in
    omega (arith, c.requires.0.machines)

pub loop-a-preserved : goal.loop-a-preserved
loop-a-preserved c = (
  row_next c.loop-a.a c.args.z.machines c.args.z.at.times c.loop-a.first c.loop-a.invariant.0,
  spanned_more (words c.args.s.now) c.args.z c.loop-a.a (16 * c.loop-a.a + c.args.z.machines - 16 * c.loop-a.a) c.loop-a.first c.loop-a.spans c.fill_machines.new.spans c.loop-a.invariant.1 c.loop-a.invariant.0 (omega arith)
      c.requires.0.machines (omega (arith, c.requires.0.activities)) (c.loop-a.auto.spans ∙ c.requires.1) c.fill_machines.auto.spans c.fill_machines.ensures,
)
