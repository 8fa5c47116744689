-- `library::lavkkesto_decode` meets its contract.
use mathlib.Core.Path.{ap, ◌∙◌}
use Rattle.library.specs.Code.{code_of}
use Rattle.library.proofs.decoded.lavkkesto_decode.Goals as goal

pub returns : goal.returns
returns c = record { answer = c.code_of.ensures ∙ ap code_of c.decode-a.ensures.answer; rows = c.decode-a.ensures.rows }
