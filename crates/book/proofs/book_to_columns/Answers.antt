-- It is one way of the conversion.
use Rattle.convert.specs.Turns.{to-columns}
use Rattle.book.proofs.book_to_columns.Goals as goal

pub convert-requires : goal.convert-requires
convert-requires c = to-columns
