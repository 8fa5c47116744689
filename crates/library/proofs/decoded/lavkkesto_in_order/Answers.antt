-- `library::lavkkesto_in_order` meets its contract.
use mathlib.Core.Path.{ap, ◌∙◌}
use Rattle.library.specs.Code.{code_of}
use Rattle.library.proofs.decoded.lavkkesto_in_order.Goals as goal

pub returns : goal.returns
returns c = record { answer = c.code_of.ensures ∙ ap code_of c.in_order-a.ensures.answer; rows = c.in_order-a.ensures.rows }
