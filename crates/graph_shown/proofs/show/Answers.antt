-- `graph_shown::show` meets what `order_of` asks: what it has filed and counted is all of it. Assumes nothing.
use native.Mathlib.Omega.{arith}
use Rattle.graph.proofs.Holding.{filed_shaped, filed_linked}
use Rattle.graph_shown.proofs.show.Goals as goal

pub order_of-named-requires : goal.order_of-named-requires
order_of-named-requires g c = (filed_linked 4 (filed_shaped 4 c.requires.lined c.requires.tasked (omega arith) c.file_naming.ensures) c.requires.even c.requires.known c.requires.named c.file_naming.ensures (omega arith) c.count_arcs.ensures, omega arith)
