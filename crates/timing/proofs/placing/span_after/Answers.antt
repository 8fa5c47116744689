use native.Mathlib.Omega.{arith}
use Rattle.words.specs.Words.{words}
use Rattle.plan.specs.Input.{problem_of, genes_of}
use Rattle.timing.proofs.EndLaws.{setup_most}
use Rattle.timing.proofs.placing.span_after.Goals as goal

pub span-requires : goal.span-requires
span-requires c = let p = problem_of (words c.args.s.now) c.args.z in
    let g = genes_of (words c.args.s.now) c.args.z in
    let most = setup_most p g c.requires.placed.1 c.args.a c.args.m c.args.line c.requires.a_lt_activities.0 c.requires.a_lt_activities.1 in
    (c.requires.placed.0, omega (arith, c.requires.a_lt_activities.0, c.requires.placed.1.activities.1), omega (arith, c.requires.a_lt_activities.1, c.requires.placed.1.machines.1), omega (arith, most, c.setup_of-setup.ensures))
