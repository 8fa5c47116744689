use mathlib.Core.Path.{refl, sym, ◌∙◌}
use Rattle.reader.specs.Reading.{read_all}
use Rattle.intake.proofs.TakingLaws.{read_so, taken_asks, taken_accepted, circle_refused, circle_total, circle_none}
use Rattle.intake.proofs.take_in.Goals as goal

pub fill-requires : goal.fill-requires
fill-requires c = let r = read_so (read_all c.args.s.now) (sym c.in_ok-read.was ∙ c.read.ensures) c.layout_of-z.ensures in
    let w = taken_asks c.args.s.now refl r.0 r.1 in
    (w.0, w.1, c.requires)

pub closes_circle-requires : goal.closes_circle-requires
closes_circle-requires c = let r = read_so (read_all c.args.s.now) (sym c.in_ok-read.was ∙ c.read.ensures) c.layout_of-z.ensures in
    (c.fill.ensures, taken_accepted c.args.s.now refl r.0 r.1)

pub returns-then-closes_circle-clause-answer : goal.returns-then-closes_circle-clause-answer
returns-then-closes_circle-clause-answer c = let r = read_so (read_all c.args.s.now) (sym c.in_ok-read.was ∙ c.read.ensures) c.layout_of-z.ensures in
    circle_refused c.args.s.now refl r.0 r.1 c.closes_circle.ensures c.if-closes_circle.true

pub returns-clause-answer : goal.returns-clause-answer
returns-clause-answer c = let r = read_so (read_all c.args.s.now) (sym c.in_ok-read.was ∙ c.read.ensures) c.layout_of-z.ensures in
    circle_none c.args.s.now refl r.0 r.1 c.closes_circle.ensures c.if-closes_circle.false

pub returns-clause-total : goal.returns-clause-total
returns-clause-total c = let r = read_so (read_all c.args.s.now) (sym c.in_ok-read.was ∙ c.read.ensures) c.layout_of-z.ensures in
    circle_total c.args.s.now refl r.0 r.1 c.closes_circle.ensures c.if-closes_circle.false
