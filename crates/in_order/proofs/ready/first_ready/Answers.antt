-- `in_order::ready::first_ready` meets its contract. The loop's invariant: the first ready of the rest is the first of all.
use Prim.Native.Nat.{◌+◌}
use mathlib.Core.Path.{◌≡◌, refl, sym, ◌∙◌}
use native.Mathlib.Omega.{arith}
use Rattle.graph.proofs.CountingLaws.{below_at}
use Rattle.in_order.proofs.ReadyLaws.{rest_within, rest_at, rest_passed, in_list, none_ready, this_one, seek_again}
use Rattle.in_order.proofs.ready.first_ready.Goals as goal

pub loop-a-init : goal.loop-a-init
loop-a-init c p n b told = let e : c.args.from + 0 ≡ c.args.from = omega arith in
    rw e (record { left = refl })

pub can_come-requires : goal.can_come-requires
can_come-requires c = let h = rest_within c.args.activities.now c.args.from c.loop-a.a-index c.loop-a-test.true in
    rw (rest_at c.args.activities.now c.args.from c.loop-a.a-index c.loop-a-test.true) (record { problem = c.requires.0.problem; naming = c.requires.0.naming; roomy = c.requires.0.roomy; here = below_at c.requires.0.problem.n c.args.activities.now (c.args.from + c.loop-a.a-index) c.requires.0.known h; told = c.requires.0.told _ (in_list c.args.activities.now (c.args.from + c.loop-a.a-index) h) })

pub returns-then-can_come : goal.returns-then-can_come
returns-then-can_come c p n b told = let h = rest_within c.args.activities.now c.args.from c.loop-a.a-index c.loop-a-test.true in
    let said = rw (rest_at c.args.activities.now c.args.from c.loop-a.a-index c.loop-a-test.true) at (c.can_come.ensures p n) in
    rw (rest_at c.args.activities.now c.args.from c.loop-a.a-index c.loop-a-test.true) (this_one (c.loop-a.invariant p n b told) h (sym c.if-can_come.true ∙ said (below_at p.n c.args.activities.now (c.args.from + c.loop-a.a-index) b h) (told _ (in_list c.args.activities.now (c.args.from + c.loop-a.a-index) h))))

pub loop-a-preserved : goal.loop-a-preserved
loop-a-preserved c p n b told = let h = rest_within c.args.activities.now c.args.from c.loop-a.a-index c.loop-a-test.true in
    let said = rw (rest_at c.args.activities.now c.args.from c.loop-a.a-index c.loop-a-test.true) at (c.can_come.ensures p n) in
    let e : c.args.from + (c.loop-a.a-index + 1) ≡ c.args.from + c.loop-a.a-index + 1 = omega arith in
    rw e (seek_again (c.loop-a.invariant p n b told) h (sym c.if-can_come.false ∙ said (below_at p.n c.args.activities.now (c.args.from + c.loop-a.a-index) b h) (told _ (in_list c.args.activities.now (c.args.from + c.loop-a.a-index) h))))

pub returns : goal.returns
returns c p n b told = let e = rest_passed c.args.activities.now c.args.from c.requires.1 c.loop-a.auto.a-index-end c.loop-a-test.false in
    none_ready (c.loop-a.invariant p n b told) (omega (arith, e)) (omega (arith, e))
