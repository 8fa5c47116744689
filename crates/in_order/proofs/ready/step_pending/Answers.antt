-- `in_order::ready::step_pending` meets its contract: the link to the step before, and its flag.
use mathlib.Core.Path.{sym, ◌∙◌}
use native.Mathlib.Omega.{arith}
use Rattle.in_order.proofs.ReadyLaws.{before_less, no_step, step_waits, step_taken}
use Rattle.in_order.proofs.ready.step_pending.Goals as goal

pub before_of-requires : goal.before_of-requires
before_of-requires c = (omega (arith, c.requires.here, c.requires.naming.few), c.requires.naming.tabled.sized)

pub returns-in_default : goal.returns-in_default
returns-in_default c p t h = no_step p c.args.pending.now c.args.a (sym (c.before_of.ensures p t h) ∙ c.in_default.is)

pub offset_bounds-pending-b : goal.offset_bounds-pending-b
offset_bounds-pending-b c = let less = before_less c.requires.problem c.args.a c.in-Some.b (sym (c.before_of.ensures c.requires.problem c.requires.naming.tabled c.requires.here) ∙ c.in-Some.is) in
    omega (arith, less, c.requires.here, c.requires.roomy)

pub bounds-pending-b : goal.bounds-pending-b
bounds-pending-b c = let less = before_less c.requires.problem c.args.a c.in-Some.b (sym (c.before_of.ensures c.requires.problem c.requires.naming.tabled c.requires.here) ∙ c.in-Some.is) in
    omega (arith, less, c.requires.here, c.requires.roomy)

pub returns-then-pending-b-eq1 : goal.returns-then-pending-b-eq1
returns-then-pending-b-eq1 c p t h = step_waits p c.args.pending.now c.args.a c.in-Some.b (sym (c.before_of.ensures p t h) ∙ c.in-Some.is) c.if-pending-b-eq1.true

pub returns : goal.returns
returns c p t h = step_taken p c.args.pending.now c.args.a c.in-Some.b (sym (c.before_of.ensures p t h) ∙ c.in-Some.is) c.if-pending-b-eq1.false
