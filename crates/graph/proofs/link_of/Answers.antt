-- `graph::link_of` meets its contract: what the link names is an activity or not. Assumes nothing.
use Rattle.graph.proofs.FreeingLaws.{link_to, link_none}
use Rattle.graph.proofs.link_of.Goals as goal

pub returns-then-b-links : goal.returns-then-b-links
returns-then-b-links c = link_to c.args.links.now c.args.a c.if-b-links.true

pub returns : goal.returns
returns c = link_none c.args.links.now c.args.a c.if-b-links.false
