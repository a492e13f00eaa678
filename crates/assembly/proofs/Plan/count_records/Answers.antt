-- `assembly::Plan::count_records` meets its contract: every form of table has as many records as there are nodes.
-- Assumes nothing.
use Rattle.kinds.specs.Known.{kind_by}
use Rattle.assembly.proofs.WholeBook.{nodes-counted}
use Rattle.assembly.proofs.Plan.count_records.Goals as goal

pub returns : goal.returns
returns c = nodes-counted (kind_by c.args.self.now.kind) _ _ _ c.count_nodes.ensures
