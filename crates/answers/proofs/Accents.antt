-- What is lit of questions with accents in several forms, computed; the bytes that go on with a character, at their edges; and nearest asked of the bytes
-- of a book whose one name is Café.
--     character-edges, accents-lit, cafe-asked
-- Assumes nothing.
use Prim.Native.Nat.{ℕ}
use mathlib.Core.Path.{◌≡◌, refl}
use mathlib.Core.Bool.{false, true}
use mathlib.Core.List.{[], ◌∷◌, ◌++◌, map}
use Rattle.words.specs.Words.{Bytes, begins, less, same, shared}
use Rattle.format.specs.Book.{block_part, book_by, entry_part, fits_by, is_book_by, joined, names_of, number, numbers, opened, trailer}
use Rattle.format.specs.Entries.{blocks, blocks_from, decode, decode_from, entry, front, offsets}
use Rattle.format.specs.Example.{text}
use Rattle.format.specs.Nodes.{all_fields, depth, glue, groups, row_by, table, table_within}
use Rattle.format.specs.Outcomes.{given}
use Rattle.format.specs.Records.{rising, sound}
use Rattle.format.specs.Spans.{node_table}
use Rattle.format.specs.Widths.{widest}
use Rattle.answers.specs.Calls.{names_answer, question, question_of}
use Rattle.answers.specs.Lit.{accents, in_character, lit, may_end}
use Rattle.answers.specs.Questions.{answer, ask, child_of, nearest, reach_within, reached}

-- 128 to 191
pub character-edges : map in_character (0 ∷ 127 ∷ 128 ∷ 191 ∷ 192 ∷ 255 ∷ []) ≡ false ∷ false ∷ true ∷ true ∷ false ∷ false ∷ []
character-edges = refl

pub accents-lit : map (λ (a : Bytes × ℕ × ℕ). lit a.0 a.1) accents ≡ map (λ (a : Bytes × ℕ × ℕ). a.2) accents
unfolding may_end lit
accents-lit = refl

-- the plain book of Café (C3 A9) in blocks of two: an entry of 7 bytes, one block, one leaf of depth 6
abbrev pub cafe_book : Bytes
cafe_book =
    0 ∷ 5 ∷ text "Caf" ++ (0xC3 ∷ 0xA9 ∷ 0 ∷ 0 ∷ 0 ∷ 0 ∷ 6 ∷ 0 ∷ 0 ∷ 0 ∷ 1 ∷ 0 ∷ 1 ∷ 0 ∷ 5 ∷ 0
    ∷ 1 ∷ 0 ∷ 2 ∷ 0 ∷ 7 ∷ 0 ∷ 9 ∷ 0 ∷ 1 ∷ 0 ∷ 37 ∷ 0 ∷ 0x4E ∷ 0x42 ∷ 0x4B ∷ 0x32 ∷ [])

-- Cafè shares four bytes, of which three can be lit; Café all five; Caf and the first byte of é four, since there the question ends; Cab two
pub cafe-asked : map (question 4 cafe_book) ((text "Caf" ++ (0xC3 ∷ 0xA8 ∷ [])) ∷ (text "Caf" ++ (0xC3 ∷ 0xA9 ∷ [])) ∷ (text "Caf" ++ (0xC3 ∷ [])) ∷ text "Cab" ∷ [])
    ≡ given 0 3 ∷ given 0 5 ∷ given 0 4 ∷ given 0 2 ∷ []
unfolding shared less begins same depth glue groups widest row_by table_within node_table table numbers joined entry blocks_from front blocks offsets entry_part block_part all_fields trailer book_by decode_from decode number rising sound fits_by names_of is_book_by opened child_of reach_within reached nearest ask may_end lit answer names_answer question_of question
cafe-asked = refl
