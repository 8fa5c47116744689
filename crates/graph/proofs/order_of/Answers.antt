-- `graph::order_of` meets its contract: arrays that hold a graph make every run of the rules over them safe. Assumes nothing.
use mathlib.Core.Path.{◌∙◌}
use native.Mathlib.Omega.{arith}
use Rattle.graph.proofs.LinkedLaws.{shaped_now, safe_now, order_now}
use Rattle.graph.proofs.order_of.Goals as goal

pub take_all-requires : goal.take_all-requires
take_all-requires c = record { first_in_bounds = (omega (arith, c.stack_free-top.ensures.1, c.stack_free-top.auto.stack, c.requires.0.counted, c.requires.1), shaped_now c.requires.0); safe_run = safe_now c.requires.0 c.stack_free-top.ensures.0 _ (omega (arith, c.stack_free-top.auto.stack, c.requires.1)) }

pub returns : goal.returns
returns c = (c.take_all.ensures.0 ∙ order_now c.requires.0 c.stack_free-top.ensures.0, c.take_all.ensures.1)
