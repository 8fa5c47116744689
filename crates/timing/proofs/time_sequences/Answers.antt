-- `timing::time_sequences` meets its contract: lines are linked, then timed. Assumes nothing.
use mathlib.Core.Path.{sym, ◌∙◌}
use native.Mathlib.Omega.{arith}
use lib.ListN.{replicate}
use lib.Seq.{length-take-le}
use Rattle.lines.proofs.LinkingLoops.{more_machines}
use Rattle.timing.proofs.TimedLaws.{neighbours, seated}
use Rattle.timing.proofs.time_sequences.Goals as goal

pub link_lines-requires : goal.link_lines-requires
link_lines-requires c = (c.requires.cells_len.0, more_machines 16 c.requires.placed.1.machines.1 c.requires.cells_len.1, record { before = omega (arith, c.requires.cells_len.2); after = omega (arith, c.requires.cells_len.2); machines = omega (arith, c.requires.cells_len.2); places = omega (arith, c.requires.cells_len.2) })

pub slice_bounds-time_linked-end : goal.slice_bounds-time_linked-end
slice_bounds-time_linked-end c = sym (length-take-le c.args.z.activities (replicate 128 0) c.requires.placed.1.activities.1)

pub time_linked-requires : goal.time_linked-requires
time_linked-requires c = let before = c.link_lines.auto.before ∙ c.requires.cells_len.2.length_before in
    let after = c.link_lines.auto.after ∙ c.requires.cells_len.2.length-after in
    let machines = c.link_lines.auto.machines ∙ c.requires.cells_len.2.length-machines in
    record {
      placed = c.requires.placed;
      well_formed = (c.requires.cells_len.1, neighbours c.link_lines.ensures before after, seated c.link_lines.ensures before machines);
      space = (
        record { counted = length-take-le c.args.z.activities (replicate 128 0) c.requires.placed.1.activities.1; roomy = c.requires.placed.1.activities.1; narrow = omega arith; ordered = c.requires.cells_len.2.length_order },
        c.requires.cells_len.2.length_starts,
        c.requires.cells_len.2.length-ends,
      );
    }

pub returns : goal.returns
returns c = record { answer = c.time_linked.ensures.answer; linked = c.link_lines.ensures; timed = c.time_linked.ensures.timed }
