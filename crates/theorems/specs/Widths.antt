-- Document 02, CR 1: what the theorems say of a width.
--     AsLong            a name of a range, from a position on so many, is so long
--     example_widths     questions to document 01's book, and their widths: those of Market Square, Marina and no name
-- Assumes nothing: these are definitions.
use Rattle.std.specs.Prelude.{ℕ, ◌+◌, ◌≤◌, ◌<◌, ◌≡◌, List, [], ◌∷◌, get_or, length}
use Prim.Native.String.{String}
use Rattle.words.specs.Words.{Bytes}

pub record AsLong (xs : List Bytes) (from count long : ℕ) : Type 0 where
  pub index : ℕ
  pub low : from ≤ index
  pub high : index < from + count
  pub is : length (get_or xs index []) ≡ long

abbrev pub example_widths : List (String × ℕ)
example_widths = ("", 13) ∷ ("Mar", 13) ∷ ("Mari", 6) ∷ ("Marina", 6) ∷ ("Market Square", 13) ∷ ("Mas", 0) ∷ ("Mar ", 0) ∷ []
