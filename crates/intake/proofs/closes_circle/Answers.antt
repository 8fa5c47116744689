use mathlib.Core.Path.{refl, sym}
use lib.ListN.{replicate}
use lib.Seq.{length-take-le}
use Rattle.intake.proofs.closes_circle.Goals as goal

pub slice_bounds-leaves_out-end : goal.slice_bounds-leaves_out-end
slice_bounds-leaves_out-end c = sym (length-take-le c.args.z.activities (replicate 128 c.args.z.activities) c.requires.1.activities.1)

pub slice_bounds-leaves_out-end-2 : goal.slice_bounds-leaves_out-end-2
slice_bounds-leaves_out-end-2 c = sym (length-take-le c.args.z.activities (replicate 128 0) c.requires.1.activities.1)

pub slice_bounds-leaves_out-end-4 : goal.slice_bounds-leaves_out-end-4
slice_bounds-leaves_out-end-4 c = sym (length-take-le c.args.z.activities (replicate 128 0) c.requires.1.activities.1)

pub leaves_out-requires : goal.leaves_out-requires
leaves_out-requires c = record {
  tabled = c.requires;
  room = record {
    unlinked = refl;
    counted = length-take-le c.args.z.activities (replicate 128 0) c.requires.1.activities.1;
    roomy = c.requires.1.activities.1;
    ordered = length-take-le c.args.z.activities (replicate 128 0) c.requires.1.activities.1;
  };
}
