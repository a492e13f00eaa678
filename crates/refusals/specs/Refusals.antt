-- Document 01, 'Numbers given back when a call says no', of the refusals that the code has.
--     code_of           the number of a refusal
--     beside            the number beside it, 0 where there is none
--     said              both, as a call's answer
-- Assumes nothing: these are definitions.
use Rattle.std.specs.Prelude.{ℕ}
use Rattle.format.specs.Outcomes.{Answer, numbered}
use Rattle.refusals.specs.declared.Refusal.{Refusal}
use Rattle.refusals.specs.declared.Refusal.TheVariants.{QuestionTooLong, NoBook, NoSuchPosition, RoomTooShort, BadRecord, NotAbove, TooManyNames, BadBlockSize, BookTooLong, NoNames, BadRow, BadBatch, NoMap, ThereAlready, NotThere, BadClipTable}

abbrev pub code_of : Refusal → ℕ
code_of QuestionTooLong = 1
code_of NoBook = 2
code_of (NoSuchPosition i) = 3
code_of RoomTooShort = 4
code_of (BadRecord i) = 5
code_of (NotAbove i) = 6
code_of (TooManyNames i) = 7
code_of BadBlockSize = 8
code_of BookTooLong = 9
code_of NoNames = 10
code_of BadRow = 11
code_of BadBatch = 12
code_of NoMap = 13
code_of ThereAlready = 14
code_of NotThere = 15
code_of BadClipTable = 16

abbrev pub beside : Refusal → ℕ
beside QuestionTooLong = 0
beside NoBook = 0
beside (NoSuchPosition i) = i
beside RoomTooShort = 0
beside (BadRecord i) = i
beside (NotAbove i) = i
beside (TooManyNames i) = i
beside BadBlockSize = 0
beside BookTooLong = 0
beside NoNames = 0
beside BadRow = 0
beside BadBatch = 0
beside NoMap = 0
beside ThereAlready = 0
beside NotThere = 0
beside BadClipTable = 0

abbrev pub said : Refusal → Answer
said r = numbered (code_of r) (beside r)
