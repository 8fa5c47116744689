-- `blocks::stretch::longest` meets its contract. The loop's invariant: those passed, from the position on, were gone through; whatever the
-- problem, what is behind the position is not long.
use Prim.Native.Nat.{ℕ, ◌+◌, ◌-◌}
use mathlib.Core.Path.{◌≡◌, refl, ap}
use mathlib.Core.List.{[]}
use native.Mathlib.Omega.{arith}
use lib.ListN.{get_or}
use Rattle.blocks.proofs.StretchLaws.{stands, span_all, tailable, addable, after_at_low, rest_low, tails_begin, tails-all, tails_again}
use Rattle.blocks.proofs.stretch.longest.Goals as goal

pub after_at-next-requires : goal.after_at-next-requires
after_at-next-requires c = (rw c.requires.estimable.0.low.tailed c.requires.estimable.0.lined.standing, addable c.requires.estimable.0.weighed c.requires.estimable.0.low)

pub loop-at-init : goal.loop-at-init
loop-at-init c = (omega (arith, c.requires.estimable.1.rising), λ p order v l e held. tails_begin (c.after_at-next.ensures order), omega (arith, c.after_at-next.ensures [], after_at_low c.requires.estimable.0.weighed [] c.requires.estimable.0.low c.args.line.now (c.args.last + 1)))

pub offset_bounds-ends-x : goal.offset_bounds-ends-x
offset_bounds-ends-x c = let h = stands c.requires.estimable.0.lined c.requires.estimable.1 (c.loop-at.at - 1) (omega (arith, c.loop-at.auto.at)) in
    omega (arith, c.moved-x.ensures, c.requires.estimable.0.weighed.started, c.requires.estimable.0.weighed.ended)

pub bounds-ends-x : goal.bounds-ends-x
bounds-ends-x c = let h = stands c.requires.estimable.0.lined c.requires.estimable.1 (c.loop-at.at - 1) (omega (arith, c.loop-at.auto.at)) in
    omega (arith, c.moved-x.ensures, c.requires.estimable.0.weighed.started, c.requires.estimable.0.weighed.ended)

pub offset_bounds-starts-x : goal.offset_bounds-starts-x
offset_bounds-starts-x c = let h = stands c.requires.estimable.0.lined c.requires.estimable.1 (c.loop-at.at - 1) (omega (arith, c.loop-at.auto.at)) in
    omega (arith, c.moved-x.ensures, c.requires.estimable.0.weighed.started, c.requires.estimable.0.weighed.ended)

pub bounds-starts-x : goal.bounds-starts-x
bounds-starts-x c = let h = stands c.requires.estimable.0.lined c.requires.estimable.1 (c.loop-at.at - 1) (omega (arith, c.loop-at.auto.at)) in
    omega (arith, c.moved-x.ensures, c.requires.estimable.0.weighed.started, c.requires.estimable.0.weighed.ended)

pub overflow_sub-rest : goal.overflow_sub-rest
overflow_sub-rest c = let h = stands c.requires.estimable.0.lined c.requires.estimable.1 (c.loop-at.at - 1) (omega (arith, c.loop-at.auto.at)) in
    omega (arith, c.requires.estimable.0.weighed.upright c.moved-x.result (omega (arith, c.moved-x.ensures)))

pub tail_of-requires : goal.tail_of-requires
tail_of-requires c = let h = stands c.requires.estimable.0.lined c.requires.estimable.1 (c.loop-at.at - 1) (omega (arith, c.loop-at.auto.at)) in
    (tailable c.requires.estimable.0.weighed c.requires.estimable.0.low c.moved-x.result (omega (arith, c.moved-x.ensures)), addable c.requires.estimable.0.weighed c.requires.estimable.0.low)

pub overflow_add-rest : goal.overflow_add-rest
overflow_add-rest c = let h = stands c.requires.estimable.0.lined c.requires.estimable.1 (c.loop-at.at - 1) (omega (arith, c.loop-at.auto.at)) in
    omega (arith, c.tail_of.ensures c.requires.estimable.0.problem c.requires.estimable.0.weighed.tabled (omega (arith, c.moved-x.ensures)) c.requires.estimable.0.low.tailed, rest_low c.requires.estimable.0.weighed [] c.requires.estimable.0.low c.loop-at.next c.moved-x.result, span_all c.requires.estimable.0.weighed c.moved-x.result, c.loop-at.invariant.2, c.requires.estimable.1.within, c.requires.estimable.0.lined.short)

pub overflow_add-heads : goal.overflow_add-heads
overflow_add-heads c = let h = stands c.requires.estimable.0.lined c.requires.estimable.1 (c.loop-at.at - 1) (omega (arith, c.loop-at.auto.at)) in
    let k = c.loop-at.at - 1 in
    let e : c.args.first + (k - c.args.first) ≡ k = omega (arith, c.loop-at-test.true) in
    omega (arith, ap (λ i. get_or c.args.heads.now i 0) e, c.requires.by_index (k - c.args.first) (omega (arith, c.loop-at.auto.at)), c.tail_of.ensures c.requires.estimable.0.problem c.requires.estimable.0.weighed.tabled (omega (arith, c.moved-x.ensures)) c.requires.estimable.0.low.tailed, rest_low c.requires.estimable.0.weighed [] c.requires.estimable.0.low c.loop-at.next c.moved-x.result, span_all c.requires.estimable.0.weighed c.moved-x.result, c.loop-at.invariant.2, c.requires.estimable.1.within, c.requires.estimable.0.lined.short)

pub loop-at-preserved : goal.loop-at-preserved
loop-at-preserved c = let h = stands c.requires.estimable.0.lined c.requires.estimable.1 (c.loop-at.at - 1) (omega (arith, c.loop-at.auto.at)) in
    let k = c.loop-at.at - 1 in (
      omega (arith, c.loop-at-test.true),
      λ p order v l e held.
          let t = c.tail_of.ensures p v.tabled (omega (arith, c.moved-x.ensures, stands e c.requires.estimable.1 k (omega (arith, c.loop-at.auto.at)))) l.tailed in
          tails_again (c.loop-at.invariant.1 p order v l e held) held c.loop-at-test.true c.loop-at.auto.at c.moved-x.result (get_or c.args.heads.now k 0) (get_or c.args.ends.now c.moved-x.result 0 - get_or c.args.starts.now c.moved-x.result 0 + c.tail_of.result) c.max-most.result c.moved-x.ensures refl (ap (λ (z : ℕ). get_or c.args.ends.now c.moved-x.result 0 - get_or c.args.starts.now c.moved-x.result 0 + z) t) c.max-most.ensures,
      omega (arith, c.loop-at.auto.at, c.loop-at-test.true, c.tail_of.ensures c.requires.estimable.0.problem c.requires.estimable.0.weighed.tabled (omega (arith, c.moved-x.ensures)) c.requires.estimable.0.low.tailed, rest_low c.requires.estimable.0.weighed [] c.requires.estimable.0.low c.loop-at.next c.moved-x.result, span_all c.requires.estimable.0.weighed c.moved-x.result, c.loop-at.invariant.2),
    )

pub returns : goal.returns
returns c = λ p order v l e held. tails-all (c.loop-at.invariant.1 p order v l e held) (omega arith) c.loop-at.invariant.0
