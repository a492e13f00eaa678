-- Document 01, 'A book in full' and 'Checked on that book': Mar, Marina and Market Square, in blocks of two and in one block.
--     text, example, example_by2, example_by4     a text of ASCII as bytes; the three names; the two books, byte for byte
--     marked            the twelve rows marked P: kind, question and what it is to give
-- That layout and questions yield them is computed: proofs/Example.antt here and in answers, Examples in theorems. Assumes nothing.
use Prim.Native.Char.{code}
use Rattle.std.specs.Prelude.{ℕ, List, [], ◌∷◌, ◌++◌}
use Prim.Native.String.{String}
use Rattle.words.specs.Words.{Bytes}

abbrev pub text : String → Bytes
text String.[] = []
text (String.◌∷◌ c s) = code c ∷ text s

abbrev pub example : List Bytes
example = text "Mar" ∷ text "Marina" ∷ text "Market Square" ∷ []

-- the four nodes, which the block size does not touch
abbrev example_nodes : Bytes
example_nodes =
    0 ∷ 0 ∷ 3 ∷ 0 ∷ 0 ∷ 0 ∷ 3 ∷ 0 ∷ 4 ∷ 0 ∷ 13 ∷ 0
    ∷ 0 ∷ 0 ∷ 4 ∷ 0 ∷ 0 ∷ 0 ∷ 1 ∷ 0 ∷ 1 ∷ 0 ∷ 3 ∷ 0
    ∷ 106 ∷ 0 ∷ 7 ∷ 0 ∷ 1 ∷ 0 ∷ 1 ∷ 0 ∷ 1 ∷ 0 ∷ 6 ∷ 0
    ∷ 108 ∷ 0 ∷ 14 ∷ 0 ∷ 2 ∷ 0 ∷ 1 ∷ 0 ∷ 1 ∷ 0 ∷ 13 ∷ 0 ∷ []

abbrev pub example_by2 : Bytes
example_by2 =
    0x00 ∷ 0x03 ∷ text "Mar" ++ (0x03 ∷ 0x03 ∷ text "ina" ++ (0x00 ∷ 0x0D ∷ text "Market Square" ++
    (0x00 ∷ 0x00 ∷ 0x0A ∷ 0x00 ∷ example_nodes ++
    (0x03 ∷ 0x00 ∷ 0x02 ∷ 0x00 ∷ 0x19 ∷ 0x00 ∷ 0x1D ∷ 0x00 ∷ 0x04 ∷ 0x00 ∷ 0x5D ∷ 0x00 ∷ 0x4E ∷ 0x42 ∷ 0x4B ∷ 0x32 ∷ []))))

abbrev pub example_by4 : Bytes
example_by4 =
    0x00 ∷ 0x03 ∷ text "Mar" ++ (0x03 ∷ 0x03 ∷ text "ina" ++ (0x03 ∷ 0x0A ∷ text "ket Square" ++
    (0x00 ∷ 0x00 ∷ example_nodes ++
    (0x03 ∷ 0x00 ∷ 0x04 ∷ 0x00 ∷ 0x16 ∷ 0x00 ∷ 0x18 ∷ 0x00 ∷ 0x04 ∷ 0x00 ∷ 0x58 ∷ 0x00 ∷ 0x4E ∷ 0x42 ∷ 0x4B ∷ 0x32 ∷ []))))

abbrev pub marked : List (ℕ × String × (ℕ × ℕ))
marked =
    (1, "Marina", (1, 1)) ∷ (1, "Marin", (0, 0))
    ∷ (2, "", (0, 0)) ∷ (2, "Mark", (2, 0)) ∷ (2, "Maxim", (3, 0))
    ∷ (3, "Mar", (0, 3)) ∷ (3, "Mark", (2, 1)) ∷ (3, "Mas", (3, 0))
    ∷ (4, "Mango", (0, 2)) ∷ (4, "Maxim", (1, 2)) ∷ (4, "Zoo", (0, 0)) ∷ (4, "M", (0, 1)) ∷ []
