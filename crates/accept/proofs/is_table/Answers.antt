-- The walk over the nodes goes by the form of their table.
use Rattle.accept.proofs.Judging.{table-ask, table_is}
use Rattle.accept.proofs.is_table.Goals as goal

pub check_table-requires : goal.check_table-requires
check_table-requires c = table-ask _ c.requires _ _ c.nodes_at.ensures.0 c.names.ensures.0

pub returns : goal.returns
returns c = table_is _ c.requires _ _ c.nodes_at.ensures.0 c.names.ensures.0 _ c.check_table.ensures
