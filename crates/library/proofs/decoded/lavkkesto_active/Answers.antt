-- `library::lavkkesto_active` meets its contract.
use mathlib.Core.Path.{ap, ◌∙◌}
use Rattle.library.specs.Code.{code_of}
use Rattle.library.proofs.decoded.lavkkesto_active.Goals as goal

pub returns : goal.returns
returns c = record { answer = c.code_of.ensures ∙ ap code_of c.active-a.ensures.answer; rows = c.active-a.ensures.rows }
