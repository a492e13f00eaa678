-- Bytes of which all parts stand open to a book, and others to none.
use Rattle.accept.proofs.Judging.{numbers-checked, sound-checked, unsound}
use Rattle.accept.proofs.check_book.Goals as goal

pub returns-then-is_book : goal.returns-then-is_book
returns-then-is_book c =
    let is = sound-checked c.args.book.now c.type_inv.book _ c.read.ensures c.if-is_book.ensures in
    (numbers-checked _ _ is, is)

pub returns-else-is_book : goal.returns-else-is_book
returns-else-is_book c =
    let is = unsound c.args.book.now c.if-is_book.ensures in
    (numbers-checked _ _ is, is)
