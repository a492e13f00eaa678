-- The name that is reached is the question, or none is. What the table answers is answered of the book that it was made of.
use Rattle.search.proofs.Seats.{exact-found, exact-longer, exact-short}
use Rattle.search.proofs.ask_exact.Goals as goal

pub returns-then-met-question : goal.returns-then-met-question
returns-then-met-question c =
    let own = c.table_of-table.ensures.book_same in
    rw c.of-missed.ensures (record {
      result_value = exact-short _ c.requires.searchable (rw own at c.meet-met.ensures.near_says) c.if-met-question.true;
      looked = rw own at c.meet-met.ensures.looked;
    })

pub returns-then-met : goal.returns-then-met
returns-then-met c =
    let own = c.table_of-table.ensures.book_same in
    rw c.of-missed.ensures (record {
      result_value = exact-longer _ c.requires.searchable (rw own at c.meet-met.ensures.near_says) c.if-met-question.false c.if-met.true;
      looked = rw own at c.meet-met.ensures.looked;
    })

pub returns : goal.returns
returns c =
    let own = c.table_of-table.ensures.book_same in
    rw c.of.ensures (record {
      result_value = exact-found _ c.requires.searchable (rw own at c.meet-met.ensures.near_says) c.if-met-question.false c.if-met.false;
      looked = rw own at c.meet-met.ensures.looked;
    })
