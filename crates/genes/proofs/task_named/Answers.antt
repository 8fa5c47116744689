-- `genes::task_named` meets its contract: the test is the rule's. Assumes nothing.
use native.Mathlib.Omega.{arith}
use Rattle.words.specs.Words.{words}
use Rattle.plan.specs.Input.{cell, problem_of}
use Rattle.genes.proofs.OrderLaws.{named_unknown, named_task}
use Rattle.genes.proofs.task_named.Goals as goal

pub returns-then-z-t : goal.returns-then-z-t
returns-then-z-t c = let ws = words c.args.s.now in
    named_unknown (problem_of ws c.args.z) (cell ws c.args.z.at.order 1 c.args.k 0) c.naming-t.result c.naming-t.ensures (omega (arith, c.if-z-t.true))

pub returns : goal.returns
returns c = let ws = words c.args.s.now in
    named_task (problem_of ws c.args.z) (cell ws c.args.z.at.order 1 c.args.k 0) c.naming-t.result c.naming-t.ensures (omega (arith, c.if-z-t.false))
