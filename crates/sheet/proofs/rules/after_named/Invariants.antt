-- `sheet::after_named` meets its contract. The loop's invariant: what is left of those named decides as all of them do.
use lib.ListN.{get_or}
use Rattle.sheet.specs.Sheet.{ends_by}
use Rattle.sheet.proofs.RuleLaws.{Asking}
use Rattle.sheet.proofs.rules.after_named.Given as goal

abbrev pub invariant-loop-b : goal.invariant-loop-b
invariant-loop-b l = Asking (λ b. ends_by l.rows l.i (get_or l.firsts b 0)) l.named l.b-index
