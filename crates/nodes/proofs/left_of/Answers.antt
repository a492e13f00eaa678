-- What the search does not find for `nodes::left_of`: a name's share stands in the row of shares.
-- Assumes nothing.
use Rattle.std.proofs.Common.{arith}
use Rattle.records.proofs.Notes.{shares-at}
use Rattle.nodes.proofs.left_of.Goals as goal

pub returns-else-j-eq0 : goal.returns-else-j-eq0
returns-else-j-eq0 c = (λ z. absurd (c.if-j-eq0.false z), λ h. omega (arith, c.from-noted.ensures, shares-at _ _ (record { len = 0; count = 0; share = 0 }) c.requires))
