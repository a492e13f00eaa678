-- What the search leaves of `salvage::put_block`: a broken block has no records, and of a whole one all are put.
-- Assumes nothing.
use native.Mathlib.Omega.{arith}
use Rattle.cards.proofs.Cards.{is-kept, noted-says, span-few}
use Rattle.salvage.proofs.Saving.{block-put, names-ask}
use Rattle.salvage.proofs.put_block.Goals as goal

pub has-requires : goal.has-requires
has-requires c = span-few c.requires.0

pub put_names-requires : goal.put_names-requires
put_names-requires c =
    let whole = is-kept c.requires.0 _ (noted-says c.requires.0 c.requires.1 _ c.has.ensures) c.if-not-has.false in
    (names-ask c.requires.0 c.span_of-span.ensures whole, c.span_of-span.ensures.few, omega (arith, c.requires.2, span-few c.requires.0))

pub returns : goal.returns
returns c =
    let whole = is-kept c.requires.0 _ (noted-says c.requires.0 c.requires.1 _ c.has.ensures) c.if-not-has.false in
    (block-put c.requires.0 c.span_of-span.ensures whole c.put_names.ensures, omega (arith, c.requires.2, c.put_names.ensures.bounded, c.span_of-span.ensures.few))
