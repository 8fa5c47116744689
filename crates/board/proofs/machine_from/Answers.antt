use mathlib.Core.Path.{sym, ◌∙◌}
use native.Mathlib.Omega.{arith}
use Rattle.words.specs.Words.{words}
use Rattle.plan.specs.Input.{genes_of}
use Rattle.bounds.proofs.ArrivalLaws.{link_names}
use Rattle.board.proofs.SeatLaws.{from_none, from_without, from_on}
use Rattle.board.proofs.machine_from.Goals as goal

pub returns-in_default : goal.returns-in_default
returns-in_default c = from_none (genes_of (words c.args.s.now) c.args.z) c.in_default.is

pub assigned-requires : goal.assigned-requires
assigned-requires c = let h = link_names c.args.z.activities c.in-Some.q c.in-Some.is c.requires.1 in
    (c.requires.0, omega (arith, h, c.requires.0.activities))

pub returns-in_default-assigned : goal.returns-in_default-assigned
returns-in_default-assigned c = from_without (genes_of (words c.args.s.now) c.args.z) c.in-Some.q c.in-Some.is (sym c.in_default-assigned.is ∙ c.assigned.ensures)

pub returns : goal.returns
returns c = from_on (genes_of (words c.args.s.now) c.args.z) c.in-Some.q c.in-Some-assigned.m c.in-Some.is (sym c.in-Some-assigned.is ∙ c.assigned.ensures)
