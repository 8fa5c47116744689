-- `library::looked::lavkkesto_look` meets its contract.
use mathlib.Core.Path.{ap, ◌∙◌}
use Rattle.library.specs.Code.{look_code}
use Rattle.library.proofs.looked.lavkkesto_look.Goals as goal

pub returns : goal.returns
returns c = record { answer = c.look_code.ensures ∙ ap look_code c.look-a.ensures.answer; left = c.look-a.ensures.left }
