-- `tables::lookups::own_span` meets its contract: the cell is one of its region.
use Rattle.tables.proofs.SpanLaws.{span_at_lem}
use Rattle.tables.proofs.lookups.own_span.Goals as goal

pub returns : goal.returns
returns c = λ p t ha hm. span_at_lem p c.args.table.now c.args.a c.args.m t c.requires.0 c.requires.1 ha hm
