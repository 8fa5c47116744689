-- `path::back_of` meets its contract: the line predecessor if it ends at this start, else what the plan gives.
use Rattle.std.specs.Prelude.{Option, ℕ}
use Prim.Native.Nat.{ℕ, ◌+◌}
use mathlib.Core.Path.{◌≡◌, sym, ap, ◌∙◌}
use mathlib.Core.Bool.{Bool}
use mathlib.Core.List.{List}
use native.Mathlib.Omega.{arith}
use borrow.Author.Rules.{rules}
use lib.Dec.{eqb}
use lib.ListN.{length, get_or}
use Rattle.graph.specs.Counting.{Below}
use Rattle.graph.specs.Links.{linked, link_of}
use Rattle.graph.proofs.LinkedLaws.{link_below}
use Rattle.path.specs.Path.{or_else, meeting, first_meeting}
use Rattle.path.proofs.MeetingLaws.{second, first_to}
use Rattle.path.proofs.BackLaws.{meeting-same}
use Rattle.path.proofs.back_of.Goals as goal

-- No way is added to the end of a line predecessor.
no_way : (ends : List ℕ) (start : ℕ) (l : Option ℕ) → meeting (λ b. eqb (get_or ends b 0) start) l ≡ meeting (λ b. eqb (get_or ends b 0 + 0) start) l
no_way ends start l =
    meeting-same (λ b. eqb (get_or ends b 0) start) (λ b. eqb (get_or ends b 0 + 0) start) l (λ b e. ap (λ (x : ℕ). eqb x start) (omega arith))

-- Both links name activities that have an end, whichever is asked first.
pub meeting-requires : goal.meeting-requires
meeting-requires c = let line : Below (length c.args.ends.now) (linked c.link_of-line.result) = rw (c.link_of-line.ensures, ← c.requires.a_in_bounds.1) (link_below c.args.before.now c.args.a) in
    search rules

pub back_by_plan-requires : goal.back_by_plan-requires
back_by_plan-requires c = let line : Below (length c.args.ends.now) (linked c.link_of-line.result) = rw (c.link_of-line.ensures, ← c.requires.a_in_bounds.1) (link_below c.args.before.now c.args.a) in
    search rules

pub returns-in_default : goal.returns-in_default
returns-in_default c = let start = get_or c.args.starts.now c.args.a 0 in
    let there : ℕ → Bool = λ b. eqb (get_or c.args.ends.now b 0) start in
    λ p t h f.
    second (meeting there (link_of c.args.before.now c.args.a))
    (ap (meeting there) (sym c.link_of-line.ensures) ∙ no_way c.args.ends.now start c.link_of-line.result ∙ sym c.meeting.ensures ∙ c.in_default.is)
    (c.back_by_plan.ensures p t h f)

pub returns : goal.returns
returns c = let start = get_or c.args.starts.now c.args.a 0 in
    let there : ℕ → Bool = λ b. eqb (get_or c.args.ends.now b 0) start in
    let late : ℕ → Bool = λ b. eqb (get_or c.args.ends.now b 0 + c.args.way) start in
    λ p t h f.
    first_to (meeting there (link_of c.args.before.now c.args.a)) (or_else (meeting late c.args.task) (first_meeting there (p.predecessors c.args.a))) c.in-Some.b
    (ap (meeting there) (sym c.link_of-line.ensures) ∙ no_way c.args.ends.now start c.link_of-line.result ∙ sym c.meeting.ensures ∙ c.in-Some.is)
