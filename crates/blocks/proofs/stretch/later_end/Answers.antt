-- `blocks::stretch::later_end` meets its contract: the greatest over none or over one.
use mathlib.Core.Path.{◌∙◌}
use native.Mathlib.Omega.{arith}
use lib.ListN.{length, get_or}
use Rattle.bounds.proofs.ArrivalLaws.{link_names}
use Rattle.path.proofs.TailLaws.{no_link}
use Rattle.blocks.proofs.StretchLaws.{one_linked}
use Rattle.blocks.proofs.stretch.later_end.Goals as goal

pub returns-in_default : goal.returns-in_default
returns-in_default c = no_link (λ x. get_or c.args.ends.now x 0) c.args.first c.in_default.is

pub offset_bounds-ends-x : goal.offset_bounds-ends-x
offset_bounds-ends-x c = let h = link_names (length c.args.ends.now) c.in-Some.x c.in-Some.is c.requires in omega arith

pub bounds-ends-x : goal.bounds-ends-x
bounds-ends-x c = let h = link_names (length c.args.ends.now) c.in-Some.x c.in-Some.is c.requires in omega arith

pub returns : goal.returns
returns c = c.max.ensures ∙ one_linked (λ x. get_or c.args.ends.now x 0) c.in-Some.x c.args.first c.in-Some.is
