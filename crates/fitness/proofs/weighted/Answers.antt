-- `fitness::weighted` meets its contract: the code's 1.0 is `one_f`, and both casts are of numbers that a float holds.
use native.Mathlib.Omega.{arith}
use mathlib.Core.Path.{refl}
use lib.Ieee.{of_bits}
use Rattle.fitness.proofs.WeightLaws.{in_float_lem}
use Rattle.fitness.proofs.weighted.Goals as goal

pub int_to_float-result : goal.int_to_float-result
int_to_float-result c = in_float_lem _ (omega arith)

pub int_to_float-result-2 : goal.int_to_float-result-2
int_to_float-result-2 c = in_float_lem _ (omega arith)

pub returns : goal.returns
unfolding of_bits
returns c = refl
