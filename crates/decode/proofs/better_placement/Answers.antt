-- `decode::better_placement` meets its contract: each decoder leaves its sheet, and the better one is copied. A sheet has no more rows than the order has cells.
use mathlib.Core.Path.{ap}
use native.Mathlib.Omega.{arith}
use lib.ListN.{length}
use Rattle.words.specs.Words.{words}
use Rattle.plan.specs.Input.{problem_of, genes_of}
use Rattle.in_order.proofs.Theorem.{well_placed}
use Rattle.active.proofs.Theorem.{active-placed}
use Rattle.decode.proofs.EndLaws.{few_rows}
use Rattle.decode.proofs.better_placement.Goals as goal

pub put_rows-requires : goal.put_rows-requires
put_rows-requires c = let h = few_rows (active-placed (problem_of (words c.args.s.now) c.args.z) (genes_of (words c.args.s.now) c.args.z) c.requires.placed.1).sound in omega (arith, h, ap length c.active_sheet-tight.ensures.order.listed, c.requires.weighed.1.ordered)

pub put_rows-requires-2 : goal.put_rows-requires-2
put_rows-requires-2 c = let h = few_rows (well_placed (problem_of (words c.args.s.now) c.args.z) (genes_of (words c.args.s.now) c.args.z) c.requires.placed.1).sound in omega (arith, h, ap length c.in_order_sheet-usual.ensures.order.listed, c.requires.weighed.1.ordered)
