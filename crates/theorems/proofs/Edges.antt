-- Lists of 2,000 and 2,001 names, and one that is too long for a book, computed through the public calls' own functions; and texts in UTF-8.
--     edges-build      the 2,001st record is asked 5, then 6, then 7; 7 before 9, 9 before 4; 2,000 names are taken
--     edges-judge      a list has no limit of its own
--     edges-merge      the second list's refusal before 7, 7 before 4; 2,000 names that two lists have together are taken
--     texts-formed      five texts that are well-formed and five that are not
-- Assumes nothing.
use Prim.Native.Nat.{ℕ, zero, suc, ◌/◌, ◌%◌}
use mathlib.Core.Path.{◌≡◌, refl}
use mathlib.Core.Bool.{false, true}
use mathlib.Core.List.{List, [], ◌∷◌, ◌++◌, map}
use lib.ListN.{replicate}
use Rattle.words.specs.Words.{Bytes, less, shared}
use Rattle.format.specs.Book.{block_part, book_by, entry_part, joined, numbers, trailer}
use Rattle.format.specs.Entries.{blocks, blocks_from, entry, front, offsets}
use Rattle.format.specs.Example.{text}
use Rattle.format.specs.Kinds.{PlainBook}
use Rattle.format.specs.Merging.{kept, merged}
use Rattle.format.specs.Nodes.{depth, glue, groups, row_by, table, table_within, all_fields}
use Rattle.format.specs.Outcomes.{given, numbered}
use Rattle.format.specs.Records.{encode, read_from, read_list}
use Rattle.format.specs.Spans.{node_table}
use Rattle.format.specs.Widths.{widest}
use Rattle.answers.specs.Calls.{build, build_by, built_from}
use Rattle.answers.specs.Merging.{judge_lists, merge_lists, of_readings}
use Rattle.answers.proofs.AllRefusals.{BuildRow, ListsRow, lent_room, mar, told3}
use Rattle.theorems.specs.Letters.{characters, well_formed}

-- ---- texts

-- Mar; Café with é as C3 A9; a letter of three bytes and one of four; no text. Then a text that ends inside é, one that begins inside it, é one byte too long, a byte that begins no character, and a letter
-- of three bytes cut after two.
pub texts-formed : map well_formed (text "Mar" ∷ (text "Caf" ++ (0xC3 ∷ 0xA9 ∷ [])) ∷ (0xE1 ∷ 0xBC ∷ 0x80 ∷ []) ∷ (0xF0 ∷ 0x9F ∷ 0x9A ∷ 0x8C ∷ text "!") ∷ []
    ∷ (text "Caf" ++ (0xC3 ∷ [])) ∷ (0xA9 ∷ text "e") ∷ (0xC3 ∷ 0xA9 ∷ 0x80 ∷ []) ∷ (0xF8 ∷ 0x80 ∷ 0x80 ∷ 0x80 ∷ 0x80 ∷ []) ∷ (0xE1 ∷ 0xBC ∷ text "a") ∷ [])
    ≡ replicate 5 true ++ replicate 5 false
unfolding characters
texts-formed = refl

-- ---- long lists

-- so many records from number i on, of two bytes that rise and so many more
unfoldable pub rows_of : ℕ → ℕ → ℕ → Bytes
rows_of more zero i = []
rows_of more (suc n) i = suc (suc more) ∷ i / 256 ∷ i % 256 ∷ replicate more 0 ++ rows_of more n (suc i)

-- names of two bytes
abbrev pub many : ℕ → Bytes
many n = rows_of 0 n 0

-- The 2,001st record of length 0, equal to the one before, and good but in a list that is too long for a book; 325 names of 200 bytes, too long for one; 2,000 names.
abbrev pub long_builds : List BuildRow
long_builds =
    (many 2000 ++ (0 ∷ []), 2, 99, (5, 2000)) ∷ (many 2000 ++ (2 ∷ 7 ∷ 207 ∷ []), 2, 99, (6, 2000)) ∷ (rows_of 30 2001 0, 2, 99, (7, 2000)) ∷ (rows_of 198 325 0, 2, 0, (9, 0)) ∷ (many 2000, 64, 99, (4, 0)) ∷ []

pub edges-build : map (λ (c : BuildRow). build PlainBook c.0 c.1 (lent_room c.2)) long_builds ≡ map (λ (c : BuildRow). record { answer = numbered c.3.0 c.3.1; room = lent_room c.2 }) long_builds
unfolding shared less depth glue groups widest row_by table_within node_table table numbers joined entry blocks_from front blocks offsets entry_part block_part all_fields trailer book_by encode read_from read_list built_from build_by rows_of
edges-build = refl

pub edges-judge : judge_lists (many 2001) mar ≡ given 0 0
unfolding shared less read_from read_list of_readings judge_lists rows_of
edges-judge = refl

-- 2,001 names and a bad second list; 2,001 in both together; 2,000 in both together, of which one is in both
abbrev pub long_lists : List ListsRow
long_lists = (many 2001, 0 ∷ [], 99, (5, 0, 2)) ∷ (many 2000, rows_of 0 2 1999, 0, (7, 2000, 0)) ∷ (many 1999, rows_of 0 2 1998, 99, (4, 0, 0)) ∷ []

pub edges-merge : map (λ (c : ListsRow). merge_lists c.0 c.1 (lent_room c.2)) long_lists ≡ map (λ (c : ListsRow). record { answer = told3 c.3; room = lent_room c.2 }) long_lists
unfolding shared less kept merged encode read_from read_list of_readings merge_lists rows_of
edges-merge = refl
