use Prim.Native.Nat.{◌+◌, ◌-◌}
use mathlib.Core.Path.{◌≡◌}
use native.Mathlib.Omega.{arith}
use Rattle.words.specs.Words.{words}
use Rattle.plan.specs.Input.{problem_of, genes_of}
use Rattle.intake.proofs.CircleTables.{circle_asked, circle_answered}
use borrow.Author.Rules.{rules}
use Rattle.intake.proofs.leaves_out.Goals as goal

pub order_of-taken-requires : goal.order_of-taken-requires
order_of-taken-requires c = let k : 128 + c.args.z.activities - 128 ≡ c.args.z.activities = omega arith in
    let j : 512 + c.args.z.activities - 512 ≡ c.args.z.activities = omega arith in (
      circle_asked (problem_of (words c.args.s.now) c.args.z) (genes_of (words c.args.s.now) c.args.z) c.requires.tabled.1 c.requires.tabled.0 c.requires.room.ordered c.requires.room.unlinked k j c.copy_from_slice.ensures.after,
      search rules,
    )

pub returns : goal.returns
returns c = let k : 128 + c.args.z.activities - 128 ≡ c.args.z.activities = omega arith in
    let j : 512 + c.args.z.activities - 512 ≡ c.args.z.activities = omega arith in
    circle_answered (problem_of (words c.args.s.now) c.args.z) (genes_of (words c.args.s.now) c.args.z) c.requires.tabled.1 c.requires.tabled.0 c.requires.room.ordered c.requires.room.unlinked k j c.copy_from_slice.ensures.after
    c.order_of-taken.result _ c.order_of-taken.ensures.0 (omega (arith, c.order_of-taken.ensures.1))
