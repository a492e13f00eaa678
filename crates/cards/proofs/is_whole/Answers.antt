-- What the search leaves of `cards::is_whole`: it says what the check of a block says.
-- Assumes nothing.
use Rattle.cards.proofs.Cards.{whole_says}
use Rattle.cards.proofs.is_whole.Goals as goal

pub returns : goal.returns
returns c = whole_says _ _ _ _ c.requires.order c.requires.inside c.block_by.result c.block_by.new.name c.block_by.ensures
