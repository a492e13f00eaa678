-- Document 02, CR 10: a book turned into another kind, with the same names and block size. Refusals: 2, also for a book of another kind than the one
-- that is turned; then 4.
--     converted_of, converted     by what the bytes open as; the call, and the lent room afterwards
-- The laws are in proofs/Converting.antt. Assumes nothing: these are definitions.
use Rattle.words.specs.Words.{Bytes, pick, same}
use Rattle.format.specs.Kinds.{BookKind, mark_of}
use Rattle.format.specs.Book.{Book, NoBook, Opened, book, opened}
use Rattle.format.specs.Outcomes.{Written, refused, write}

-- from a kind, which the mark tells, to another
unfoldable pub converted_of : BookKind → BookKind → Bytes → Opened → Written
converted_of from to room NoBook = record { answer = refused 2; room = room }
converted_of from to room (Book κ k xs) = pick (same (mark_of κ) (mark_of from)) (write (book to k xs) room) (record { answer = refused 2; room = room })

unfoldable pub converted : BookKind → BookKind → Bytes → Bytes → Written
converted from to s room = converted_of from to room (opened s)
