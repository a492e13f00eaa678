-- What the search leaves of `salvage::count_blocks`.
-- Assumes nothing.
use Prim.Native.Nat.{◌<◌}
use lib.ListN.{length}
use mathlib.Core.Path.{refl}
use native.Mathlib.Omega.{arith}
use Rattle.answers.specs.Salvage.{card_blocks}
use Rattle.cards.proofs.Cards.{is-dropped, is-kept, kept_by}
use Rattle.salvage.proofs.Saving.{counting-ask, counting-broken, counting-start, counting-whole, names-ask}
use Rattle.salvage.proofs.count_blocks.Goals.{else-is_whole, then-is_whole}
use Rattle.salvage.proofs.count_blocks.Goals as goal

pub loop-i-init : goal.loop-i-init
loop-i-init c = counting-start refl (omega (arith, c.block_count-i-end.ensures)) c.requires.1

pub records_size-size-requires : goal.records_size-size-requires
records_size-size-requires c =
    let ask = counting-ask c.loop-i.invariant c.requires.0 (omega (arith, c.loop-i-test.true, c.block_count-i-end.ensures.0)) in
    let kept = kept_by ask c.span_of-span.ensures _ c.is_whole.ensures in
    (names-ask ask c.span_of-span.ensures (is-kept ask _ kept c.if-is_whole.true), c.span_of-span.ensures.few)

pub loop-i-preserved : goal.loop-i-preserved
loop-i-preserved c =
    let before : c.loop-i.i < length (card_blocks c.args.card.now) = omega (arith, c.loop-i-test.true, c.block_count-i-end.ensures.0) in
    let ask = counting-ask c.loop-i.invariant c.requires.0 before in
    let kept = kept_by ask c.span_of-span.ensures _ c.is_whole.ensures in
    elim c.if-is_whole.branch [
      | then-is_whole w ↦ rw (w.notes-is, w.size-is) (counting-whole c.loop-i.invariant ask c.span_of-span.ensures before (is-kept ask _ kept w.if-is_whole.true) w.note.ensures w.records_size-size.ensures)
      | else-is_whole w ↦ rw (w.notes-is, w.size-is) (counting-broken c.loop-i.invariant ask c.span_of-span.ensures before (is-dropped ask _ kept w.if-is_whole.false))
    ]
