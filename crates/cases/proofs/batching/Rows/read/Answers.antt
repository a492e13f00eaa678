-- `cases::batching::Rows::read`: a row is three parts more.
-- Assumes nothing.
use Rattle.cases.proofs.Taking.{case-case, none-placed, part-placed}
use Rattle.cases.proofs.batching.Rows.read.Goals as goal

pub loop-row-init : goal.loop-row-init
loop-row-init c = none-placed c.args.parts.now

pub loop-row-preserved : goal.loop-row-preserved
loop-row-preserved c =
    case-case c.loop-row.invariant
    (case-case (part-placed c.in_ok-kind.ensures)
    (case-case (part-placed c.in_ok-start.ensures) (part-placed c.in_ok-length.ensures)))
