-- `lines::linking::link_line` meets its contract. Its two calls write two arrays each. Assumes nothing.
use Rattle.lines.proofs.LinkingLoops.{links_same}
use Rattle.lines.proofs.linking.link_line.Goals as goal

pub returns : goal.returns
returns c = links_same _ _ _ _ _ _ _ _ c.link_pairs.ensures.0 c.link_pairs.ensures.1 c.place_line.ensures.0 c.place_line.ensures.1
