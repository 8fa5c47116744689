-- `path::first_meeting` meets its contract. The loop's invariant: the first of what is left is the first of all.
use lib.Dec.{eqb}
use lib.ListN.{get_or}
use Rattle.path.proofs.MeetingLaws.{Passing}
use Rattle.path.proofs.first_meeting.Given as goal

abbrev pub invariant-loop-b : goal.invariant-loop-b
invariant-loop-b l = Passing (λ b. eqb (get_or l.ends b 0) l.start) l.named l.b-index
