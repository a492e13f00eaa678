-- `assembly::Plan::write_book` meets its contract: one law puts the three parts together. Assumes nothing.
use Rattle.assembly.proofs.WholeBook.{book-lent}
use Rattle.assembly.proofs.Plan.write_book.Goals as goal

pub returns : goal.returns
returns c =
    book-lent c.requires.plan_ask c.requires.sized.0 _ _ c.requires.sized.1 c.write_blocks.ensures _ _ c.write_records.ensures c.put_trailer.ensures
