-- What the search leaves of `cards::block_count`: as many as the names take.
-- Assumes nothing.
use native.Mathlib.Omega.{arith}
use mathlib.Core.Path.{◌∙◌, ap, ap₂, sym}
use Rattle.format.specs.Salvage.{block_count}
use Rattle.answers.proofs.Salvage.{blocks-many}
use Rattle.trailer.specs.declared.Trailer.{Trailer}
use Rattle.cards.proofs.Cards.{mapped-few, mapped-high, mapped-long, mapped-low}
use Rattle.cards.proofs.block_count.Goals as goal

pub read-t-requires : goal.read-t-requires
read-t-requires c = mapped-long _ c.requires

pub blocks_for-requires : goal.blocks_for-requires
blocks_for-requires c =
    let names = ap (λ (t : Trailer). t.names) c.read-t.ensures in
    let block = ap (λ (t : Trailer). t.block) c.read-t.ensures in
    let map = c.requires in (
      omega (arith, mapped-few _ map, names, c.from.ensures),
      omega (arith, mapped-low _ map, block, c.from-2.ensures),
      omega (arith, mapped-high _ map, block, c.from-2.ensures),
    )

pub returns : goal.returns
returns c = (
  c.blocks_for.ensures.0
      ∙ ap₂ block_count (c.from.ensures ∙ ap (λ (t : Trailer). t.names) c.read-t.ensures) (c.from-2.ensures ∙ ap (λ (t : Trailer). t.block) c.read-t.ensures)
      ∙ sym (blocks-many _),
  c.blocks_for.ensures.1,
)
