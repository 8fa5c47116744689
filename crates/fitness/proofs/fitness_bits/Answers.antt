-- `fitness::fitness_bits` meets its contract. That its fitness is no NaN wants every byte below 256, which a slice of bytes knows.
use native.Mathlib.Omega.{arith}
use mathlib.Core.Path.{ap}
use lib.Ieee.{to_bits, binary64}
use Rattle.words.proofs.WordLaws.{below_all}
use Rattle.fitness.proofs.NoNan.{fitness_no_nan}
use Rattle.fitness.proofs.fitness_bits.Goals as goal

pub float_to_bits-result : goal.float_to_bits-result
float_to_bits-result c = let bytes = below_all 256 c.args.s.now (λ k l. omega (arith, c.shared_slice_known-1.given k)) in
    rw c.fitness_of.ensures
    (fitness_no_nan c.args.s.now c.args.z c.requires.placed.1 bytes c.requires.placed.2 c.args.ends.now c.requires.ended)

pub returns : goal.returns
returns c = ap (to_bits binary64) c.fitness_of.ensures
