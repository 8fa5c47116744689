-- `path::back_by_plan` meets its contract: the step before if it meets the start, else the first listed that does.
use Prim.Native.Nat.{ℕ, ◌+◌}
use mathlib.Core.Path.{sym, ap, ◌∙◌}
use mathlib.Core.Bool.{Bool}
use lib.Dec.{eqb}
use lib.ListN.{get_or}
use Rattle.path.specs.Path.{meeting, first_meeting}
use Rattle.path.proofs.MeetingLaws.{second, first_to}
use Rattle.path.proofs.back_by_plan.Goals as goal

pub first_meeting-requires : goal.first_meeting-requires
first_meeting-requires c = rw (c.named_by.ensures c.requires.0.held.problem c.requires.0.held.tabled c.requires.0.held.known c.requires.0.held.few, c.requires.0.ended) c.requires.0.named

pub returns-in_default : goal.returns-in_default
returns-in_default c = let late : ℕ → Bool = λ x. eqb (get_or c.args.ends.now x 0 + c.args.way) c.args.start in
    let there : ℕ → Bool = λ x. eqb (get_or c.args.ends.now x 0) c.args.start in
    λ p t h f.
    second (meeting late c.args.task) (sym c.meeting.ensures ∙ c.in_default.is)
    (c.first_meeting.ensures ∙ ap (first_meeting there) (c.named_by.ensures p t h f))

pub returns : goal.returns
returns c = let late : ℕ → Bool = λ x. eqb (get_or c.args.ends.now x 0 + c.args.way) c.args.start in
    let there : ℕ → Bool = λ x. eqb (get_or c.args.ends.now x 0) c.args.start in
    λ p t h f.
    first_to (meeting late c.args.task) (first_meeting there (p.predecessors c.args.a)) c.in-Some.b
    (sym c.meeting.ensures ∙ c.in-Some.is)
