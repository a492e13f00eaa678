-- Of all of the group, or 0. What the table answers is answered of the book that it was made of.
use Rattle.paths.proofs.Ways.{at_here, here-room}
use Rattle.spots.proofs.Spots.{spot-at}
use Rattle.search.proofs.Seats.{seat-node, told-askable, width-all, width-short}
use Rattle.search.proofs.ask_width.Goals as goal

pub width-requires : goal.width-requires
width-requires c = here-room (at_here (seat-node (spot-at (told-askable c.table_of-table.ensures.book_same c.table_of-table.ensures.map_told c.requires) c.locate-spot.ensures.spot_says)))

pub returns-then-spot-question : goal.returns-then-spot-question
returns-then-spot-question c =
    let own = c.table_of-table.ensures.book_same in
    let askable = told-askable c.table_of-table.ensures.book_same c.table_of-table.ensures.map_told c.requires in
    rw c.of.ensures (record {
      result_value = rw own at (width-short _ askable.searchable c.locate-spot.ensures.spot_says c.if-spot-question.true);
      looked = rw own at c.locate-spot.ensures.looked;
    })

pub returns : goal.returns
returns c =
    let own = c.table_of-table.ensures.book_same in
    let askable = told-askable c.table_of-table.ensures.book_same c.table_of-table.ensures.map_told c.requires in
    rw c.of-2.ensures (record {
      result_value = rw own at (width-all _ askable.searchable c.locate-spot.ensures.spot_says c.if-spot-question.false c.width.ensures.0);
      looked = rw own at c.locate-spot.ensures.looked;
    })
