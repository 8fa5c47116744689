-- `moves::line::take_out` meets its contract: a shift to the end. Assumes nothing.
use mathlib.Core.Path.{◌∙◌}
use Rattle.moves.proofs.LineLaws.{to_last}
use Rattle.moves.proofs.line.take_out.Goals as goal

pub returns : goal.returns
returns c = c.shift_up.ensures ∙ to_last c.args.line.now c.args.at c.requires
