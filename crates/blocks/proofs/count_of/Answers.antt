-- `blocks::count_of` meets its contract: the first name of a block stores no count. Assumes nothing.
use Rattle.std.proofs.Common.{sym, ◌∙◌}
use Rattle.records.proofs.Notes.{counts-at}
use Rattle.blocks.proofs.Writing.{stored_other}
use Rattle.blocks.proofs.count_of.Goals as goal

pub returns : goal.returns
returns c = stored_other _ _ _ _ c.if-i-lo.false (c.from.ensures ∙ sym (counts-at _ _ _ c.requires))
