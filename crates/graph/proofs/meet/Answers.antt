-- `graph::meet` meets its contract: freeing one link is freeing nothing, or the one that it names. Assumes nothing.
use lib.ListN.{length}
use mathlib.Core.Path.{sym, ◌∙◌}
use Rattle.graph.proofs.FreeingLaws.{meet_none, meet_asks, meet_one}
use Rattle.graph.specs.Run.{state_of}
use Rattle.graph.proofs.meet.Goals as goal

pub returns-in_default : goal.returns-in_default
returns-in_default c = meet_none (sym c.link_of.ensures ∙ c.in_default.is) (state_of c.args.counts.now c.args.stack.now c.args.top)

pub lower-requires : goal.lower-requires
lower-requires c = meet_asks (sym c.link_of.ensures ∙ c.in-Some.is) (state_of c.args.counts.now c.args.stack.now c.args.top) (length c.args.stack.now) c.requires.1

pub returns : goal.returns
returns c = c.lower.ensures ∙ meet_one (sym c.link_of.ensures ∙ c.in-Some.is) (state_of c.args.counts.now c.args.stack.now c.args.top)
