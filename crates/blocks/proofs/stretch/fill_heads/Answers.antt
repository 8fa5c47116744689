-- `blocks::stretch::fill_heads` meets its contract. The loop's invariant: the heads of those passed are written, and `ready` is the last of them
-- plus its span; whatever the problem, it is not late.
use Prim.Native.Nat.{◌+◌, ◌-◌, ◌*◌, ◌^◌}
use mathlib.Core.List.{[]}
use native.Mathlib.Omega.{arith}
use Rattle.blocks.proofs.StretchLaws.{stands, span_all, headable, end_low, head_low, heads_begin, heads_all, heads_again}
use Rattle.blocks.proofs.stretch.fill_heads.Goals as goal

pub loop-k-init : goal.loop-k-init
loop-k-init c = (omega (arith, c.end_before-ready.ensures, end_low c.requires.0.weighed c.args.line.now c.args.first), λ p order v l. heads_begin c.end_before-ready.ensures)

pub head_of-head-requires : goal.head_of-head-requires
head_of-head-requires c = let h = stands c.requires.0.lined c.requires.1 c.loop-k.k (omega arith) in
    headable c.requires.0.weighed c.moved-x.result (omega (arith, c.moved-x.ensures))

pub offset_bounds-ends-x : goal.offset_bounds-ends-x
offset_bounds-ends-x c = let h = stands c.requires.0.lined c.requires.1 c.loop-k.k (omega arith) in
    omega (arith, c.moved-x.ensures, c.requires.0.weighed.started, c.requires.0.weighed.ended)

pub bounds-ends-x : goal.bounds-ends-x
bounds-ends-x c = let h = stands c.requires.0.lined c.requires.1 c.loop-k.k (omega arith) in
    omega (arith, c.moved-x.ensures, c.requires.0.weighed.started, c.requires.0.weighed.ended)

pub offset_bounds-starts-x : goal.offset_bounds-starts-x
offset_bounds-starts-x c = let h = stands c.requires.0.lined c.requires.1 c.loop-k.k (omega arith) in
    omega (arith, c.moved-x.ensures, c.requires.0.weighed.started, c.requires.0.weighed.ended)

pub bounds-starts-x : goal.bounds-starts-x
bounds-starts-x c = let h = stands c.requires.0.lined c.requires.1 c.loop-k.k (omega arith) in
    omega (arith, c.moved-x.ensures, c.requires.0.weighed.started, c.requires.0.weighed.ended)

pub overflow_sub-ready : goal.overflow_sub-ready
overflow_sub-ready c = let h = stands c.requires.0.lined c.requires.1 c.loop-k.k (omega arith) in
    omega (arith, c.requires.0.weighed.upright c.moved-x.result (omega (arith, c.moved-x.ensures)))

pub overflow_add-ready : goal.overflow_add-ready
overflow_add-ready c = let h = stands c.requires.0.lined c.requires.1 c.loop-k.k (omega arith) in
    omega (arith, c.head_of-head.ensures c.requires.0.problem c.requires.0.weighed.tabled (omega (arith, c.moved-x.ensures)), head_low c.requires.0.weighed [] c.loop-k.ready c.moved-x.result (2 ^ 42) (omega (arith, c.loop-k.invariant.0, c.requires.1.within, c.requires.0.lined.short)) (omega arith), span_all c.requires.0.weighed c.moved-x.result)

pub loop-k-preserved : goal.loop-k-preserved
loop-k-preserved c = let h = stands c.requires.0.lined c.requires.1 c.loop-k.k (omega arith) in
    (omega (arith, c.loop-k.auto.k, c.head_of-head.ensures c.requires.0.problem c.requires.0.weighed.tabled (omega (arith, c.moved-x.ensures)), head_low c.requires.0.weighed [] c.loop-k.ready c.moved-x.result (2 ^ 41 + (c.loop-k.k - c.args.first) * 2 ^ 34) c.loop-k.invariant.0 (omega arith), span_all c.requires.0.weighed c.moved-x.result), λ p order v l. heads_again (c.loop-k.invariant.1 p order v l) c.loop-k.auto.k (omega (arith, c.loop-k.auto.heads, c.requires.1.within, c.requires.2)) c.moved-x.result c.head_of-head.result c.moved-x.ensures (c.head_of-head.ensures p v.tabled (omega (arith, c.moved-x.ensures, stands l c.requires.1 c.loop-k.k (omega arith)))))

pub returns : goal.returns
returns c = λ p order v l. heads_all (c.loop-k.invariant.1 p order v l) c.args.last (omega arith)
