-- `library::lavkkesto_check` meets its contract.
use mathlib.Core.Path.{ap, ◌∙◌}
use Rattle.library.specs.Code.{check_code}
use Rattle.library.proofs.checked.lavkkesto_check.Goals as goal

pub returns : goal.returns
returns c = c.check_code.ensures ∙ ap check_code c.check-a.ensures
