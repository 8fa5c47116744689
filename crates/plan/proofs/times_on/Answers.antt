use Rattle.plan.proofs.NumberLaws.{product_most}
use native.Mathlib.Omega.{arith}
use Rattle.plan.proofs.times_on.Goals as goal

pub overflow_mul-e : goal.overflow_mul-e
overflow_mul-e c = let h = product_most 65536 16 {x = c.args.a} {y = c.args.z.machines} (omega arith) c.requires.0.machines in omega arith

pub overflow_add-e : goal.overflow_add-e
overflow_add-e c = let h = product_most 65536 16 {x = c.args.a} {y = c.args.z.machines} (omega arith) c.requires.0.machines in omega arith

pub cell_at-setup-requires : goal.cell_at-setup-requires
cell_at-setup-requires c = let h = product_most 65536 16 {x = c.args.a} {y = c.args.z.machines} (omega arith) c.requires.0.machines in (c.requires.0.times_at, omega arith, omega arith, omega arith)

pub cell_at-process-requires : goal.cell_at-process-requires
cell_at-process-requires c = let h = product_most 65536 16 {x = c.args.a} {y = c.args.z.machines} (omega arith) c.requires.0.machines in (c.requires.0.times_at, omega arith, omega arith, omega arith)

pub cell_at-teardown-requires : goal.cell_at-teardown-requires
cell_at-teardown-requires c = let h = product_most 65536 16 {x = c.args.a} {y = c.args.z.machines} (omega arith) c.requires.0.machines in (c.requires.0.times_at, omega arith, omega arith, omega arith)

pub returns : goal.returns
returns c = rw (c.cell_at-setup.ensures, c.cell_at-process.ensures, c.cell_at-teardown.ensures)
