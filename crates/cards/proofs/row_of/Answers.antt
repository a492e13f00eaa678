-- What the search leaves of `cards::row_of`: the row says what was noted of the block.
-- Assumes nothing.
use Rattle.cards.proofs.Cards.{noted-says, row_kept, span-few}
use Rattle.cards.proofs.row_of.Goals as goal

pub has-requires : goal.has-requires
has-requires c = span-few c.requires.0

pub returns : goal.returns
returns c = row_kept c.requires.0 _ (noted-says c.requires.0 c.requires.1 _ c.has.ensures) c.if-not-has.false c.names_in-names.ensures
