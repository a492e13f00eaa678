-- `assembly::Plan::write_records` meets its contract: every form of table has its arm. Assumes nothing.
use Rattle.kinds.specs.Known.{kind_by}
use Rattle.kinds.proofs.Telling.{rule_told}
use Rattle.assembly.proofs.WholeBook.{rows-put}
use Rattle.assembly.proofs.Plan.write_records.Goals as goal

pub returns-in-Rows : goal.returns-in-Rows
returns-in-Rows c =
    rows-put (kind_by c.args.self.now.kind) c.rule-rule.result (rule_told c.args.self.now.kind _ c.rule-rule.ensures) c.write_nodes.ensures
