-- `in_order::ready::ready_order` meets its contract. The loop's invariant: what is written, then what is still to come, is the whole order;
-- and all before the front are taken.
use Rattle.std.specs.Prelude.{ℕ}
use mathlib.Core.Path.{◌≡◌, subst}
use native.Mathlib.Omega.{arith}
use lib.ListN.{length}
use Rattle.graph.proofs.CountingLaws.{below_more}
use Rattle.genes.specs.Held.{Listed}
use Rattle.in_order.specs.InOrder.{ready_order}
use Rattle.in_order.proofs.StepLaws.{told, rising_begin, rising_again}
use Rattle.in_order.proofs.TakingLaws.{a_comes, take_begin, coming_begin, take_again, a_known, come_again, come_none, come_end, take-listed, front_within}
use Rattle.in_order.proofs.ready.ready_order.Goals as goal

pub mark-requires : goal.mark-requires
mark-requires c = below_more c.requires.0.problem.n 128 c.args.activities.now c.requires.0.naming.few c.requires.0.known

pub loop-taken-init : goal.loop-taken-init
loop-taken-init c = (take_begin c.args.activities.now c.args.order.now _ c.mark.ensures, λ p n b s. (coming_begin p c.args.activities.now c.args.order.now _ c.mark.ensures, rising_begin p c.args.activities.now b n.few c.mark.ensures))

pub skip_taken-front-requires : goal.skip_taken-front-requires
skip_taken-front-requires c = (rw c.loop-taken.invariant.0.flags (below_more c.requires.0.problem.n 128 c.args.activities.now c.requires.0.naming.few c.requires.0.known), c.loop-taken.invariant.0.fronted)

pub first_ready-requires : goal.first_ready-requires
first_ready-requires c = (record { problem = c.requires.0.problem; naming = c.requires.0.naming; roomy = omega (arith, c.loop-taken.invariant.0.flags, c.requires.0.naming.few); known = c.requires.0.known; told = told c.requires.0.problem c.args.activities.now c.loop-taken.pending c.requires.0.stepwise (c.loop-taken.invariant.1 c.requires.0.problem c.requires.0.naming c.requires.0.known c.requires.0.stepwise).1 }, front_within _ c.args.activities.now c.loop-taken.invariant.0.fronted c.skip_taken-front.ensures)

pub returns-in_default-clause-listed : goal.returns-in_default-clause-listed
returns-in_default-clause-listed c p n b s = take-listed c.loop-taken.invariant.0 p c.requires.1 (come_none c.loop-taken.invariant.0 p (c.loop-taken.invariant.1 p n b s).0 c.loop-taken-test.true c.skip_taken-front.ensures (c.first_ready.ensures p n b (told p c.args.activities.now c.loop-taken.pending s (c.loop-taken.invariant.1 p n b s).1)) c.in_default.is)

pub offset_bounds-pending-a : goal.offset_bounds-pending-a
offset_bounds-pending-a c = let known = a_known c.loop-taken.invariant.0 c.requires.0.problem (c.loop-taken.invariant.1 c.requires.0.problem c.requires.0.naming c.requires.0.known c.requires.0.stepwise).0 c.loop-taken-test.true c.skip_taken-front.ensures (c.first_ready.ensures c.requires.0.problem c.requires.0.naming c.requires.0.known (told c.requires.0.problem c.args.activities.now c.loop-taken.pending c.requires.0.stepwise (c.loop-taken.invariant.1 c.requires.0.problem c.requires.0.naming c.requires.0.known c.requires.0.stepwise).1)) c.requires.0.known c.requires.0.naming.few c.in-Some.is in
    omega (arith, known)

pub bounds-pending-a : goal.bounds-pending-a
bounds-pending-a c = let known = a_known c.loop-taken.invariant.0 c.requires.0.problem (c.loop-taken.invariant.1 c.requires.0.problem c.requires.0.naming c.requires.0.known c.requires.0.stepwise).0 c.loop-taken-test.true c.skip_taken-front.ensures (c.first_ready.ensures c.requires.0.problem c.requires.0.naming c.requires.0.known (told c.requires.0.problem c.args.activities.now c.loop-taken.pending c.requires.0.stepwise (c.loop-taken.invariant.1 c.requires.0.problem c.requires.0.naming c.requires.0.known c.requires.0.stepwise).1)) c.requires.0.known c.requires.0.naming.few c.in-Some.is in
    omega (arith, known)

pub loop-taken-preserved : goal.loop-taken-preserved
loop-taken-preserved c = let known = a_known c.loop-taken.invariant.0 c.requires.0.problem (c.loop-taken.invariant.1 c.requires.0.problem c.requires.0.naming c.requires.0.known c.requires.0.stepwise).0 c.loop-taken-test.true c.skip_taken-front.ensures (c.first_ready.ensures c.requires.0.problem c.requires.0.naming c.requires.0.known (told c.requires.0.problem c.args.activities.now c.loop-taken.pending c.requires.0.stepwise (c.loop-taken.invariant.1 c.requires.0.problem c.requires.0.naming c.requires.0.known c.requires.0.stepwise).1)) c.requires.0.known c.requires.0.naming.few c.in-Some.is in (
  take_again c.loop-taken.invariant.0 c.in-Some.a c.loop-taken-test.true c.requires.1 c.skip_taken-front.ensures known,
  λ p n b s.
      let first = c.first_ready.ensures p n b (told p c.args.activities.now c.loop-taken.pending s (c.loop-taken.invariant.1 p n b s).1) in (
        come_again c.loop-taken.invariant.0 p (c.loop-taken.invariant.1 p n b s).0 c.loop-taken-test.true c.skip_taken-front.ensures first c.in-Some.is (omega (arith, c.loop-taken.invariant.0.sized, c.loop-taken-test.true, c.requires.1)),
        rising_again p c.args.activities.now c.loop-taken.pending c.in-Some.a c.loop-taken.invariant.0.flags known (a_comes c.loop-taken.invariant.0 p (c.loop-taken.invariant.1 p n b s).0 c.loop-taken-test.true c.skip_taken-front.ensures first c.in-Some.is) (c.loop-taken.invariant.1 p n b s).1,
      ),
)

pub returns-clause-listed : goal.returns-clause-listed
returns-clause-listed c p n b s = let e : c.loop-taken.taken ≡ length c.args.activities.now = omega (arith, c.loop-taken.invariant.0.within, c.loop-taken-test.false) in
    subst (λ (k : ℕ). Listed (ready_order p c.args.activities.now) c.args.order.now c.loop-taken.order k) e (take-listed c.loop-taken.invariant.0 p c.requires.1 (come_end c.loop-taken.invariant.0 p (c.loop-taken.invariant.1 p n b s).0 c.loop-taken-test.false))
