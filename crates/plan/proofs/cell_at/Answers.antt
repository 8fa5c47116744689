use Rattle.plan.proofs.NumberLaws.{product_most}
use native.Mathlib.Omega.{arith}
use Rattle.plan.proofs.cell_at.Goals as goal

pub overflow_mul-width : goal.overflow_mul-width
overflow_mul-width c = let h = product_most 16 4294967296 {x = c.args.width} {y = c.args.e} (omega arith) (omega arith) in omega arith

pub overflow_add-at-2 : goal.overflow_add-at-2
overflow_add-at-2 c = let h = product_most 16 4294967296 {x = c.args.width} {y = c.args.e} (omega arith) (omega arith) in omega arith

pub overflow_add-at-3 : goal.overflow_add-at-3
overflow_add-at-3 c = let h = product_most 16 4294967296 {x = c.args.width} {y = c.args.e} (omega arith) (omega arith) in omega arith
