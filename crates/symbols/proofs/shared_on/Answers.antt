-- `symbols::shared_on`: by the plain rule, names that part at their first bytes share no symbol.
-- Assumes nothing.
use Rattle.symbols.proofs.Symbols.{parted-none}
use Rattle.symbols.proofs.shared_on.Goals as goal

pub returns-in-Plain : goal.returns-in-Plain
returns-in-Plain c = search (parted-none, c.in-Plain.is)
