-- `tables::owners::fill_releases` meets its contract. The loop's invariant: the cells passed are filled.
use Prim.Native.Nat.{ℕ}
use mathlib.Core.Path.{ap, ◌∙◌}
use native.Mathlib.Omega.{arith}
use Rattle.words.specs.Words.{words}
use Rattle.plan.specs.Input.{release_in, steps_of}
use Rattle.tables.proofs.TaskLaws.{owner_most}
use Rattle.tables.proofs.FillLaws.{filled_more}
use Rattle.tables.proofs.owners.fill_releases.Goals as goal

pub later_release-requires : goal.later_release-requires
later_release-requires c = let t = c.requires.3.at c.loop-a.a (omega arith) in
    let m = owner_most (steps_of (words c.args.s.now) c.args.z) c.args.z.tasks 0 c.loop-a.a in
    (c.requires.0, omega (arith, c.requires.0.tasks), omega (arith, c.requires.0.activities))

pub loop-a-preserved : goal.loop-a-preserved
loop-a-preserved c = filled_more c.loop-a.invariant (omega arith) (c.later_release.ensures ∙ ap (λ (t : ℕ). release_in (words c.args.s.now) c.args.z t c.loop-a.a) (c.requires.3.at c.loop-a.a (omega arith)))
