-- What the search leaves of `cards::is_mapped`: the trailer fails, the parts do not meet, or the starts decide.
-- Assumes nothing.
use borrow.Author.Rules.{rules}
use Rattle.cards.proofs.Cards.{is_plain, map-climbs, map_read, not-met, not-trailed, not_plain, trailed}
use Rattle.cards.proofs.is_mapped.Goals as goal

pub returns-then-not-is_trailer : goal.returns-then-not-is_trailer
returns-then-not-is_trailer c = not-trailed _ (search rules) _ c.is_trailer.ensures c.if-not-is_trailer.true

pub returns-then-not-is_plain : goal.returns-then-not-is_plain
returns-then-not-is_plain c = not_plain _ _ (search rules) c.read-t.ensures _ c.is_plain.ensures c.if-not-is_plain.true

pub returns-then-table-count : goal.returns-then-table-count
returns-then-table-count c =
    let trail = trailed _ _ c.is_trailer.ensures c.if-not-is_trailer.false in
    let plain = is_plain _ _ c.read-t.ensures _ c.is_plain.ensures c.if-not-is_plain.false in
    let read = map_read trail plain c.read-t.ensures c.from.ensures c.from-2.ensures c.from-table.ensures c.from-3.ensures c.blocks_for-count.ensures.0 in
    not-met read c.if-table-count.true

pub returns : goal.returns
returns c =
    let trail = trailed _ _ c.is_trailer.ensures c.if-not-is_trailer.false in
    let plain = is_plain _ _ c.read-t.ensures _ c.is_plain.ensures c.if-not-is_plain.false in
    let read = map_read trail plain c.read-t.ensures c.from.ensures c.from-2.ensures c.from-table.ensures c.from-3.ensures c.blocks_for-count.ensures.0 in
    map-climbs read c.if-table-count.false (search rules) c.starts_rise.ensures
