-- `in_order::placing::ready_activities` meets its contract: what the genes give, then in the order in which they are taken.
use mathlib.Core.Path.{sym, ap, ◌∙◌}
use native.Mathlib.Omega.{arith}
use lib.ListN.{length}
use Rattle.words.specs.Words.{words}
use Rattle.plan.specs.Input.{problem_of, genes_of}
use Rattle.genes.proofs.IndexedLaws.{indexed_below}
use Rattle.in_order.proofs.StepLaws.{indexed_stepwise}
use Rattle.in_order.proofs.OrderLaws.{naming_of}
use Rattle.in_order.proofs.placing.ready_activities.Goals as goal

pub slice_bounds-activities-end : goal.slice_bounds-activities-end
slice_bounds-activities-end c = omega (arith, c.indexed-given.ensures.upper_bound, c.requires.placed.0.activities)

pub slice_bounds-ready_order-end : goal.slice_bounds-ready_order-end
slice_bounds-ready_order-end c = c.indexed-given.ensures.listed.whole ∙ ap length (sym c.indexed-given.ensures.listed.listed)

pub ready_order-requires : goal.ready_order-requires
ready_order-requires c = let p = problem_of (words c.args.s.now) c.args.z in
    let g = genes_of (words c.args.s.now) c.args.z in
    (record { problem = p; naming = naming_of c.requires.placed.1 c.requires.placed.2; known = rw c.indexed-given.ensures.listed.listed (indexed_below c.requires.placed.1); stepwise = rw c.indexed-given.ensures.listed.listed (indexed_stepwise c.requires.placed.1) }, omega (arith, ap length c.indexed-given.ensures.listed.listed, c.indexed-given.ensures.listed.whole, c.indexed-given.ensures.upper_bound, c.requires.activities_in_bounds))

pub returns : goal.returns
returns c = let p = problem_of (words c.args.s.now) c.args.z in
    let g = genes_of (words c.args.s.now) c.args.z in (
      rw c.indexed-given.ensures.listed.listed at (c.ready_order.ensures.listed p (naming_of c.requires.placed.1 c.requires.placed.2) (rw c.indexed-given.ensures.listed.listed (indexed_below c.requires.placed.1)) (rw c.indexed-given.ensures.listed.listed (indexed_stepwise c.requires.placed.1))),
      omega (arith, c.ready_order.ensures.upper_bound, ap length c.indexed-given.ensures.listed.listed, c.indexed-given.ensures.listed.whole, c.indexed-given.ensures.upper_bound),
    )
