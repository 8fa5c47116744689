-- `library::lavkkesto_time` meets its contract.
use mathlib.Core.Path.{ap, ◌∙◌}
use Rattle.library.specs.Code.{code_of}
use Rattle.library.proofs.timed.lavkkesto_time.Goals as goal

pub returns : goal.returns
returns c = record { answer = c.code_of.ensures ∙ ap code_of c.time-a.ensures.answer; rows = c.time-a.ensures.rows }
