-- `active::scanning::waits` meets its contract: its seat is kept, or the activities that it names are asked for.
use mathlib.Core.Path.{sym, ap, ◌∙◌}
use native.Mathlib.Omega.{arith}
use lib.ListN.{length}
use Rattle.words.specs.Words.{words}
use Rattle.plan.specs.Input.{problem_of}
use Rattle.graph.proofs.CountingLaws.{below_more}
use Rattle.active.specs.Active.{any_unsettled}
use Rattle.active.proofs.scanning.waits.Goals as goal

pub returns-then-kept-t : goal.returns-then-kept-t
returns-then-kept-t c = sym (c.requires.a_value c.if-kept-t.true)

pub any_unsettled-requires : goal.any_unsettled-requires
any_unsettled-requires c = let p = problem_of (words c.args.s.now) c.args.z in
    rw (c.named_by.ensures p c.requires.accepted.1 c.requires.accepted.2 c.requires.accepted.0.activities.1) (below_more p.n (length c.args.settled.now) (p.predecessors c.args.a) (omega (arith, c.requires.settled_len.0)) (c.requires.accepted.0.predecessors c.args.a))

pub returns : goal.returns
returns c = let p = problem_of (words c.args.s.now) c.args.z in
    c.any_unsettled.ensures ∙ ap (any_unsettled c.args.settled.now) (c.named_by.ensures p c.requires.accepted.1 c.requires.accepted.2 c.requires.accepted.0.activities.1)
