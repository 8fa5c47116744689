use mathlib.Core.Path.{ap, ◌∙◌}
use Rattle.library.specs.Code.{improve_code}
use Rattle.library.proofs.improved.lavkkesto_improve.Goals as goal

pub returns : goal.returns
returns c = record { answer = c.improve_code.ensures ∙ ap improve_code c.improve-a.ensures.answer; tasks = c.improve-a.ensures.tasks; machines = c.improve-a.ensures.machines }
