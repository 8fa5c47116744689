-- `fitness::completion` meets its contract. The loop's invariant: `latest` is the latest of the ends passed.
use Prim.Native.Nat.{◌+◌, ◌-◌}
use mathlib.Core.Path.{refl, ap, ◌∙◌}
use lib.ListN.{get_or, drop, length-drop}
use lib.Seq.{length-take-le, get_or-take, get_or-drop}
use native.Mathlib.Omega.{arith}
use native.Mathlib.Numerals.{add-one}
use Rattle.fitness.specs.Fitness.{latest}
use Rattle.fitness.proofs.completion.Goals as goal

pub loop-end-init : goal.loop-end-init
unfolding latest
loop-end-init c = refl

pub loop-end-preserved : goal.loop-end-preserved
unfolding latest
loop-end-preserved c =
    let n = c.args.first + c.args.steps - c.args.first in
    let rest = drop c.args.first c.args.ends.now in
    let long = length-take-le n rest (omega (arith, length-drop c.args.first c.args.ends.now)) in
    let here = get_or-take n rest c.loop-end.end-index 0 (omega arith) ∙ get_or-drop c.args.first c.args.ends.now c.loop-end.end-index 0 in
    rw (add-one, c.max-latest.ensures, c.loop-end.invariant, here)

pub returns : goal.returns
returns c =
    let n = c.args.first + c.args.steps - c.args.first in
    let long = length-take-le n (drop c.args.first c.args.ends.now) (omega (arith, length-drop c.args.first c.args.ends.now)) in
    c.loop-end.invariant ∙ ap (latest (λ a. get_or c.args.ends.now a 0) c.args.first) (omega arith)
