-- `path::following::tails` meets its contract. The loop's invariant, for whatever problem and lines are followed: setting what is left
-- gives all tails.
use mathlib.Core.Path.{refl, sym, ◌∙◌}
use native.Mathlib.Omega.{arith}
use lib.ListN.{length, length-set}
use Rattle.path.proofs.SettingLaws.{begin, set_all, addable, known, freed, again}
use Rattle.path.proofs.following.tails.Goals as goal

pub loop-i-init : goal.loop-i-init
loop-i-init c = (omega arith, refl, λ p lines w k. begin w (length c.args.tail.now) (c.fill.ensures.after (λ y e. e)) (sym c.fill.ensures.len ∙ k))

pub tail_of-longest-requires : goal.tail_of-longest-requires
tail_of-longest-requires c = let k = c.loop-i.invariant.2 c.requires.problem c.requires.lines c.requires.followed (c.fill.ensures.len ∙ c.requires.sized) in
    (freed c.requires.followed k c.loop-i-test.true, addable c.requires.followed k)

pub offset_bounds-tail-a : goal.offset_bounds-tail-a
offset_bounds-tail-a c = let k = c.loop-i.invariant.2 c.requires.problem c.requires.lines c.requires.followed (c.fill.ensures.len ∙ c.requires.sized) in
    omega (arith, known c.requires.followed k c.loop-i-test.true, c.requires.followed.few)

pub bounds-tail-a : goal.bounds-tail-a
bounds-tail-a c = let k = c.loop-i.invariant.2 c.requires.problem c.requires.lines c.requires.followed (c.fill.ensures.len ∙ c.requires.sized) in
    omega (arith, known c.requires.followed k c.loop-i-test.true, k.sized)

pub loop-i-preserved : goal.loop-i-preserved
loop-i-preserved c = (
  omega (arith, c.loop-i.invariant.0),
  simp length-set c.loop-i.invariant.1,
  λ p lines w k.
      let held = c.loop-i.invariant.2 p lines w k in
      again w held c.loop-i-test.true (c.tail_of-longest.ensures p w.tabled (known w held c.loop-i-test.true) w.few w.linked),
)

pub returns : goal.returns
returns c = λ p lines w k.
    set_all w (c.loop-i.invariant.2 p lines w (c.fill.ensures.len ∙ k)) c.loop-i-test.false
