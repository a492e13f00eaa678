-- What an accepted build counts stands in the room, by `build-within`.
-- Assumes nothing.
use Rattle.std.proofs.Common.{length-take-le, sym}
use Rattle.format.specs.Kinds.{PlainBook}
use Rattle.answers.proofs.Calls.{build-within}
use Rattle.make_book.proofs.make.Goals as goal

pub slice_bounds-room-end : goal.slice_bounds-room-end
slice_bounds-room-end g c = build-within PlainBook _ 16 _ _ c.book_build-answer.ensures c.if-answer-eq0.true

pub slice_bounds-write_all-end : goal.slice_bounds-write_all-end
slice_bounds-write_all-end g c =
    sym (length-take-le _ _ (build-within PlainBook _ 16 _ _ c.book_build-answer.ensures c.if-answer-eq0.true))
