-- The name that is reached, and what it shares. What the table answers is answered of the book that it was made of.
use Rattle.search.proofs.Seats.{nearest-is}
use Rattle.search.proofs.ask_nearest.Goals as goal

pub returns : goal.returns
returns c =
    let own = c.table_of-table.ensures.book_same in
    rw c.of.ensures (record {
      result_value = nearest-is _ c.requires.searchable (rw own at c.meet-met.ensures.near_says);
      looked = rw own at c.meet-met.ensures.looked;
    })
