-- Document 01, 'Numbers given back when a call says no': what a call gives, and what it leaves in a lent room.
--     Answer            the code, and two numbers beside it; given, numbered, refused: with two, one and none of them
--     Written, over, write   an answer, and the lent room afterwards; its front is written
--     check_of           what opened bytes give: how many names in blocks of how many, or 2. Assumes nothing: these are definitions.
use Rattle.std.specs.Prelude.{ℕ, ◌++◌, leb, length, drop}
use Rattle.words.specs.Words.{Bytes, pick}
use Rattle.format.specs.Book.{Opened, Book, NoBook}

pub record Answer : Type 0 where
  pub code : ℕ
  pub first : ℕ
  pub second : ℕ

abbrev pub given : ℕ → ℕ → Answer
given a b = record { code = 0; first = a; second = b }

abbrev pub numbered : ℕ → ℕ → Answer
numbered code first = record { code = code; first = first; second = 0 }

abbrev pub refused : ℕ → Answer
refused c = record { code = c; first = 0; second = 0 }

pub record Written : Type 0 where
  pub answer : Answer
  pub room : Bytes

-- the front of the room is written, and the rest as it was
abbrev pub over : Bytes → Bytes → Bytes
over out room = out ++ drop (length out) room

-- 4 where the room is shorter than the output
abbrev pub write : Bytes → Bytes → Written
write out room = pick (leb (length out) (length room))
    (record { answer = given (length out) 0; room = over out room })
    (record { answer = refused 4; room = room })

unfoldable pub check_of : Opened → Answer
check_of NoBook = refused 2
check_of (Book κ k xs) = given (length xs) k
