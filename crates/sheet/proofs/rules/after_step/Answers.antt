use native.Mathlib.Omega.{arith}
use mathlib.Core.Path.{sym, ◌∙◌}
use Prim.Native.Nat.{◌<◌}
use Rattle.sheet.specs.Sheet.{all}
use Rattle.sheet.proofs.RuleLaws.{and_true, step_lower}
use Rattle.sheet.proofs.rules.after_step.Goals as goal

pub before_of-requires : goal.before_of-requires
before_of-requires c = (omega (arith, c.requires.0.known, c.requires.0.few), c.requires.0.tabled.sized)

pub returns-in_default : goal.returns-in_default
unfolding all
returns-in_default c = λ p t h. rw (sym (c.before_of.ensures p t h) ∙ c.in_default.is)

pub offset_bounds-firsts-b : goal.offset_bounds-firsts-b
offset_bounds-firsts-b c = let bound : c.in-Some.b < 128 = let k = step_lower c.requires.0.problem c.args.a c.in-Some.b (sym (c.before_of.ensures c.requires.0.problem c.requires.0.tabled c.requires.0.known) ∙ c.in-Some.is) in
    omega (arith, k, c.requires.0.known, c.requires.0.few) in
    let l = bound in omega arith

pub bounds-firsts-b : goal.bounds-firsts-b
bounds-firsts-b c = let bound : c.in-Some.b < 128 = let k = step_lower c.requires.0.problem c.args.a c.in-Some.b (sym (c.before_of.ensures c.requires.0.problem c.requires.0.tabled c.requires.0.known) ∙ c.in-Some.is) in
    omega (arith, k, c.requires.0.known, c.requires.0.few) in
    let l = bound in omega arith

pub ends_by-requires : goal.ends_by-requires
ends_by-requires c = let bound : c.in-Some.b < 128 = let k = step_lower c.requires.0.problem c.args.a c.in-Some.b (sym (c.before_of.ensures c.requires.0.problem c.requires.0.tabled c.requires.0.known) ∙ c.in-Some.is) in
    omega (arith, k, c.requires.0.known, c.requires.0.few) in
    (c.requires.1, c.requires.3 c.in-Some.b bound)

pub returns : goal.returns
unfolding all
returns c = λ p t h. rw (sym (c.before_of.ensures p t h) ∙ c.in-Some.is) (c.ends_by.ensures ∙ and_true _)
