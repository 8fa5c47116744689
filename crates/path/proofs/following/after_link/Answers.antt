-- `path::following::after_link` meets its contract: the greatest over none or over one.
use Prim.Native.Nat.{◌+◌, ◌-◌, max}
use mathlib.Core.Path.{ap, ◌∙◌}
use lib.ListN.{length, get_or}
use Rattle.bounds.proofs.ArrivalLaws.{link_names}
use Rattle.path.proofs.TailLaws.{no_link, one_link}
use Rattle.path.proofs.following.after_link.Goals as goal

pub returns-in_default : goal.returns-in_default
returns-in_default c = no_link (λ x. get_or c.args.ends.now x 0 - get_or c.args.starts.now x 0 + get_or c.args.tail.now x 0) c.args.first c.in_default.is

pub span_and_tail-requires : goal.span_and_tail-requires
span_and_tail-requires c = (link_names (length c.args.tail.now) c.in-Some.x c.in-Some.is c.requires.0, c.requires.1)

pub returns : goal.returns
returns c = c.max.ensures ∙ ap (max c.args.first) c.span_and_tail.ensures ∙ one_link (λ x. get_or c.args.ends.now x 0 - get_or c.args.starts.now x 0 + get_or c.args.tail.now x 0) c.args.first c.in-Some.x c.in-Some.is
