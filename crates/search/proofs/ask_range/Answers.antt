-- All of the group, or none. What the table answers is answered of the book that it was made of.
use native.Mathlib.Omega.{arith}
use Rattle.paths.proofs.Ways.{at_here, here-room}
use Rattle.spots.proofs.Spots.{spot-at}
use Rattle.search.proofs.Seats.{range_all, range-short, seat-node, told-askable}
use Rattle.search.proofs.ask_range.Goals as goal

pub seat-first-requires : goal.seat-first-requires
seat-first-requires c = spot-at (told-askable c.table_of-table.ensures.book_same c.table_of-table.ensures.map_told c.requires) c.locate-spot.ensures.spot_says

pub names-second-requires : goal.names-second-requires
names-second-requires c = here-room (at_here (seat-node (spot-at (told-askable c.table_of-table.ensures.book_same c.table_of-table.ensures.map_told c.requires) c.locate-spot.ensures.spot_says)))

pub returns-then-spot-question : goal.returns-then-spot-question
returns-then-spot-question c =
    let own = c.table_of-table.ensures.book_same in
    let askable = told-askable c.table_of-table.ensures.book_same c.table_of-table.ensures.map_told c.requires in
    rw c.of.ensures (record {
      result_value = rw own at (range-short _ askable.searchable c.locate-spot.ensures.spot_says c.if-spot-question.true c.seat-first.ensures);
      looked = rw own at c.locate-spot.ensures.looked;
    })

pub returns : goal.returns
returns c =
    let own = c.table_of-table.ensures.book_same in
    let askable = told-askable c.table_of-table.ensures.book_same c.table_of-table.ensures.map_told c.requires in
    rw c.of-2.ensures (record {
      result_value = rw own at (range_all _ askable.searchable c.locate-spot.ensures.spot_says (omega arith) c.seat-first.ensures c.names-second.ensures.0);
      looked = rw own at c.locate-spot.ensures.looked;
    })
