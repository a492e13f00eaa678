-- The numbers of refusals.
--     refusal-some      no refusal has the number 0
-- Assumes nothing.
use Rattle.std.proofs.Common.{◌≤◌, lit≤}
use Rattle.refusals.specs.Refusals.{code_of}
use Rattle.refusals.specs.declared.Refusal.{Refusal}
use Rattle.refusals.specs.declared.Refusal.TheVariants.{QuestionTooLong, NoBook, NoSuchPosition, RoomTooShort, BadRecord, NotAbove, TooManyNames, BadBlockSize, BookTooLong, NoNames, BadRow, BadBatch, NoMap, ThereAlready, NotThere, BadClipTable}

pub refusal-some : (e : Refusal) → 1 ≤ code_of e
refusal-some QuestionTooLong = lit≤ tt
refusal-some NoBook = lit≤ tt
refusal-some (NoSuchPosition i) = lit≤ tt
refusal-some RoomTooShort = lit≤ tt
refusal-some (BadRecord i) = lit≤ tt
refusal-some (NotAbove i) = lit≤ tt
refusal-some (TooManyNames i) = lit≤ tt
refusal-some BadBlockSize = lit≤ tt
refusal-some BookTooLong = lit≤ tt
refusal-some NoNames = lit≤ tt
refusal-some BadRow = lit≤ tt
refusal-some BadBatch = lit≤ tt
refusal-some NoMap = lit≤ tt
refusal-some ThereAlready = lit≤ tt
refusal-some NotThere = lit≤ tt
refusal-some BadClipTable = lit≤ tt
