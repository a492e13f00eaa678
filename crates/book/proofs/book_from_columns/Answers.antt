-- It is one way of the conversion.
use Rattle.convert.specs.Turns.{to-rows}
use Rattle.book.proofs.book_from_columns.Goals as goal

pub convert-requires : goal.convert-requires
convert-requires c = to-rows
