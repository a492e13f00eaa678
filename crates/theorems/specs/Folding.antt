-- Document 02, CR 7: what the theorems on folded books speak of.
--     folded_names, folded_by2, folded_rows     MAR and marina; their folded book in one block of two, byte for byte; questions to it and their answers
--     spelled_twice      lists in which one name stands in two spellings
--     NoCapitals        no byte of these names is 65 to 90. Assumes nothing: these are definitions.
use Rattle.std.specs.Prelude.{ℕ, ◌≡◌, false, List, [], ◌∷◌, ◌++◌, get_or}
use Prim.Native.String.{String}
use Rattle.words.specs.Words.{Bytes}
use Rattle.format.specs.Example.{text}
use Rattle.format.specs.Folded.{capital}
use Rattle.format.specs.Kinds.{BookKind, FoldedBook, PlainBook}

abbrev pub folded_names : List Bytes
folded_names = text "MAR" ∷ text "marina" ∷ []

-- no byte is shared, and so the count is 0; the three symbols that are shared are the root's depth
abbrev pub folded_by2 : Bytes
folded_by2 =
    0x00 ∷ 0x03 ∷ text "MAR" ++ (0x00 ∷ 0x06 ∷ text "marina" ++
    (0x00 ∷ 0x00
    ∷ 0 ∷ 0 ∷ 3 ∷ 0 ∷ 0 ∷ 0 ∷ 2 ∷ 0 ∷ 3 ∷ 0 ∷ 6 ∷ 0
    ∷ 0 ∷ 0 ∷ 4 ∷ 0 ∷ 0 ∷ 0 ∷ 1 ∷ 0 ∷ 1 ∷ 0 ∷ 3 ∷ 0
    ∷ 106 ∷ 0 ∷ 7 ∷ 0 ∷ 1 ∷ 0 ∷ 1 ∷ 0 ∷ 1 ∷ 0 ∷ 6 ∷ 0
    ∷ 0x02 ∷ 0x00 ∷ 0x02 ∷ 0x00 ∷ 0x0D ∷ 0x00 ∷ 0x0F ∷ 0x00 ∷ 0x03 ∷ 0x00 ∷ 0x43 ∷ 0x00 ∷ 0x4E ∷ 0x42 ∷ 0x46 ∷ 0x32 ∷ []))

abbrev pub folded_rows : List (ℕ × String × (ℕ × ℕ))
folded_rows =
    (1, "mar", (0, 1)) ∷ (1, "Marina", (1, 1)) ∷ (1, "MARIN", (0, 0)) ∷ (2, "mAri", (1, 0))
    ∷ (3, "MARI", (1, 1)) ∷ (3, "m", (0, 2)) ∷ (4, "maRx", (0, 3)) ∷ (5, "m", (6, 0)) ∷ []

abbrev pub spelled_twice : List (BookKind × List Bytes)
spelled_twice = (FoldedBook, text "Mar" ∷ text "mar" ∷ []) ∷ (FoldedBook, text "mar" ∷ text "Mar" ∷ []) ∷ (PlainBook, text "mar" ∷ text "Mar" ∷ []) ∷ []

abbrev pub NoCapitals : List Bytes → Type 0
NoCapitals xs = (i j : ℕ) → capital (get_or (get_or xs i []) j 0) ≡ false
