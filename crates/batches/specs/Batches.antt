-- How a batch opens. An answer and a row as document 01's numbers are in the crate shapes.
--     takes_rows, opening_of     a batch's rows are taken or not; how it opens: 12, 2, or 0 and how many rows
-- Assumes nothing: these are definitions.
use Rattle.std.specs.Prelude.{ℕ, Bool, false, true, eqb, leb}
use Rattle.words.specs.Words.{both}
use Rattle.format.specs.Book.{Book, NoBook, Opened}
use Rattle.format.specs.Outcomes.{Answer, given, refused}

-- at most 64 rows, and a place for each answer
abbrev pub takes_rows : ℕ → ℕ → Bool
takes_rows rows places = both (leb rows 64) (eqb rows places)

-- by whether the rows are taken: 12, then 2
unfoldable pub opening_of : ℕ → Bool → Opened → Answer
opening_of rows false NoBook = refused 12
opening_of rows false (Book κ k xs) = refused 12
opening_of rows true NoBook = refused 2
opening_of rows true (Book κ k xs) = given rows 0
