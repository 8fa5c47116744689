use mathlib.Core.Path.{ap}
use native.Mathlib.Omega.{arith}
use Rattle.words.specs.Words.{words}
use Rattle.plan.specs.Input.{problem_of, genes_of}
use Rattle.plan.specs.declared.Times.{Times}
use Rattle.bounds.proofs.SetupLaws.{link_within, own_category, previous_category, own_used, entry_used}
use Rattle.bounds.proofs.setup_of.Goals as goal

pub category_before-previous-requires : goal.category_before-previous-requires
category_before-previous-requires c = let p = problem_of (words c.args.s.now) c.args.z in (link_within p.n 128 c.args.before c.requires.placed.1.activities.1 c.requires.a_lt_activities.2, c.requires.placed.2.sized)

pub change_of-change-requires : goal.change_of-change-requires
change_of-change-requires c = let p = problem_of (words c.args.s.now) c.args.z in let eo = c.category_of-own.ensures p c.requires.placed.2 c.requires.a_lt_activities.0 in
    let ep = c.category_before-previous.ensures p c.requires.placed.2 c.requires.a_lt_activities.2 in
    let o = own_category p (genes_of (words c.args.s.now) c.args.z) c.requires.placed.1 c.args.a c.requires.a_lt_activities.0 in
    let q = previous_category p (genes_of (words c.args.s.now) c.args.z) c.requires.placed.1 c.args.before c.requires.a_lt_activities.2 in
    (omega (arith, c.requires.a_lt_activities.1, c.requires.placed.1.machines.1), omega (arith, ep, q), omega (arith, eo, o), c.requires.placed.2.sized)

pub returns-in_default : goal.returns-in_default
returns-in_default c = let p = problem_of (words c.args.s.now) c.args.z in let eo = c.category_of-own.ensures p c.requires.placed.2 c.requires.a_lt_activities.0 in
    let ep = c.category_before-previous.ensures p c.requires.placed.2 c.requires.a_lt_activities.2 in
    own_used p c.args.a c.args.m c.args.before ep eo (c.change_of-change.ensures p c.requires.placed.2) c.in_default.is (ap (λ (x : Times). x.setup) c.times_on-t.ensures)

pub returns : goal.returns
returns c = let p = problem_of (words c.args.s.now) c.args.z in let eo = c.category_of-own.ensures p c.requires.placed.2 c.requires.a_lt_activities.0 in
    let ep = c.category_before-previous.ensures p c.requires.placed.2 c.requires.a_lt_activities.2 in
    entry_used p c.args.a c.args.m c.args.before ep eo (c.change_of-change.ensures p c.requires.placed.2) c.in-Some.is
