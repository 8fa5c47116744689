-- P1 to P8 of document 01, in one theorem.
use mathlib.Core.Path.{refl}
use Rattle.plans.specs.Table.{Table}
use Rattle.plans.proofs.Searched.{without_steps, one_step, more_steps}
use Rattle.plans.proofs.Moves.{no_position, block_of_three, forbidden_to_six}
use Rattle.plans.proofs.Crossed.{contradicting}

pub worked_plans : Table
worked_plans =
    record {
      p1 = without_steps;
      p2 = one_step;
      p3 = more_steps;
      p4 = no_position;
      p5 = block_of_three;
      p6 = forbidden_to_six;
      p7 = contradicting;
      p8 = refl;
    }
