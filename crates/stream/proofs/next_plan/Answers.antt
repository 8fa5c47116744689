use Rattle.stream.proofs.Filling.{both_lost, on_err}
use Rattle.stream.proofs.next_plan.Goals as goal

pub returns-in_err-length-clause-err : goal.returns-in_err-length-clause-err
returns-in_err-length-clause-err g c = on_err _ (both_lost _ _ _ _ _ c.in_ok-got.ensures.taken c.in_err-length.ensures.err)
