use Rattle.plan.proofs.WeightLaws.{no_nan}
use Rattle.reader.specs.Reading.{nothing_known}
use Rattle.grammar.specs.declared.Kind.TheVariants.{WeightHigh}
use Rattle.grammar.specs.Ranges.{in_range}
use Prim.Native.Nat.{◌^◌, ◌<◌}
use native.Mathlib.Omega.{arith}
use mathlib.Core.Bool.{true}
use mathlib.Core.Path.{◌≡◌}
use Rattle.plan.proofs.weight.Goals as goal

pub float_from_bits-result : goal.float_from_bits-result
float_from_bits-result c = let w : in_range WeightHigh nothing_known c.cell_at-low.result c.cell_at-high.result ≡ true = rw (c.cell_at-low.ensures, c.cell_at-high.ensures) c.requires.1 in
    let f : c.cell_at-low.result < 2 ^ 32 = omega arith in
    no_nan c.cell_at-low.result c.cell_at-high.result f w

pub returns : goal.returns
returns c = rw (c.cell_at-low.ensures, c.cell_at-high.ensures)
