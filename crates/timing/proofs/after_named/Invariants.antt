-- `timing::after_named` meets its contract. The loop's invariant: what is left, with the latest so far, has the same greatest.
use lib.ListN.{get_or}
use Rattle.timing.proofs.NamedLaws.{Looking}
use Rattle.timing.proofs.after_named.Given as goal

abbrev pub invariant-loop-q : goal.invariant-loop-q
invariant-loop-q l = Looking (λ q. get_or l.ends q 0) l.named l.first l.latest l.q-index
