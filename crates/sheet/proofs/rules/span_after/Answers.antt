use native.Mathlib.Omega.{arith}
use Rattle.words.specs.Words.{words}
use Rattle.plan.specs.Input.{problem_of, genes_of}
use Rattle.graph.specs.Counting.{Below}
use Rattle.graph.specs.Links.{linked}
use Rattle.sheet.proofs.SearchLaws.{linked_below}
use Rattle.sheet.proofs.RuleLaws.{setup_short}
use Rattle.sheet.proofs.rules.span_after.Goals as goal

pub setup_of-setup-requires : goal.setup_of-setup-requires
setup_of-setup-requires c = let e : Below c.args.z.activities (linked c.activity_of-link.result) = rw c.activity_of-link.ensures (linked_below c.args.z.activities c.args.z.machines c.args.rows.now c.args.before) in
    record { placed = c.requires.placed; a_lt_activities = (c.requires.a_lt_activities.0, c.requires.a_lt_activities.1, e) }

pub span-requires : goal.span-requires
span-requires c = let p = problem_of (words c.args.s.now) c.args.z in let g = genes_of (words c.args.s.now) c.args.z in
    let h = setup_short p g c.requires.placed.1 c.args.a c.args.m c.activity_of-link.result c.requires.a_lt_activities.0 c.requires.a_lt_activities.1 in
    (c.requires.placed.0, omega (arith, c.requires.a_lt_activities.0, c.requires.placed.0.activities), omega (arith, c.requires.a_lt_activities.1, c.requires.placed.0.machines), omega (arith, c.setup_of-setup.ensures, h))

pub returns : goal.returns
returns c = rw (← c.activity_of-link.ensures, ← c.setup_of-setup.ensures) c.span.ensures
