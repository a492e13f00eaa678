-- Document 01's examples, computed: the two books byte for byte, and the twelve rows marked P, asked of the book's 93 bytes.
--     example-books, example-lengths, example-rows, example-widths, example-looked
-- Assumes nothing.
use Prim.Native.Nat.{ℕ}
use Prim.Native.String.{String}
use mathlib.Core.Path.{◌≡◌, refl}
use mathlib.Core.List.{[], ◌∷◌, map}
use lib.ListN.{length}
use Rattle.words.specs.Words.{Bytes, begins, less, same, shared}
use Rattle.format.specs.Kinds.{PlainBook}
use Rattle.format.specs.Book.{block_part, book, book_by, entry_part, fits_by, is_book_by, joined, names_of, number, numbers, opened, trailer}
use Rattle.format.specs.Entries.{blocks, blocks_from, decode, decode_from, entry, front, offsets}
use Rattle.format.specs.Nodes.{depth, glue, groups, row_by, table, table_within, all_fields}
use Rattle.format.specs.Spans.{node_table}
use Rattle.format.specs.Widths.{widest}
use Rattle.format.specs.Records.{rising, sound}
use Rattle.format.specs.Example.{example, example_by2, example_by4, text, marked}
use Rattle.format.proofs.Example.{book-lengths, books}
use Rattle.format.specs.Outcomes.{Answer, given}
use Rattle.answers.specs.Calls.{names_answer, question, question_of}
use Rattle.answers.specs.Counts.{counted_of, counted_question, entries, names_counted, visits}
use Rattle.answers.specs.Lit.{lit, may_end}
use Rattle.answers.specs.Widths.{width}
use Rattle.theorems.specs.Widths.{example_widths}
use Rattle.answers.specs.Questions.{answer, ask, child_of, count, exact, exact_from, nearest, place, range, reach_within, reached}

pub example-books : map (λ k. book PlainBook k example) (2 ∷ 4 ∷ []) ≡ example_by2 ∷ example_by4 ∷ []
example-books = books

pub example-lengths : map (λ (s : Bytes). length s) (example_by2 ∷ example_by4 ∷ []) ≡ 93 ∷ 88 ∷ []
example-lengths = book-lengths

-- a row as the call gives it, and as the table has it
abbrev asked : ℕ × String × (ℕ × ℕ) → Answer
asked a = question a.0 example_by2 (text a.1)

abbrev listed : ℕ × String × (ℕ × ℕ) → Answer
listed a = given a.2.0 a.2.1

pub example-rows : map asked marked ≡ map listed marked
unfolding shared less begins same depth glue groups widest row_by table_within node_table table numbers joined entry blocks_from front blocks offsets entry_part block_part all_fields trailer book_by decode_from decode number rising sound fits_by names_of is_book_by opened child_of reach_within reached count exact_from exact place range nearest ask may_end lit answer names_answer question_of question
example-rows = refl

pub example-widths : map (λ (a : String × ℕ). question 5 example_by2 (text a.0)) example_widths ≡ map (λ (a : String × ℕ). given a.1 0) example_widths
unfolding shared less begins same depth glue groups widest row_by table_within node_table table numbers joined entry blocks_from front blocks offsets entry_part block_part all_fields trailer book_by decode_from decode number rising sound fits_by names_of is_book_by opened width ask may_end lit answer names_answer question_of question
example-widths = refl

-- the twelve rows again, with how far they look: the root has depth 3, and below it stand three leaves
pub example-looked : (map (λ (a : ℕ × String × (ℕ × ℕ)). (counted_question a.0 example_by2 (text a.1)).visits) marked ≡ 2 ∷ 2 ∷ 1 ∷ 2 ∷ 2 ∷ 2 ∷ 2 ∷ 2 ∷ 1 ∷ 2 ∷ 2 ∷ 1 ∷ [])
    × (map (λ (a : ℕ × String × (ℕ × ℕ)). (counted_question a.0 example_by2 (text a.1)).entries) marked ≡ 2 ∷ 2 ∷ 1 ∷ 1 ∷ 2 ∷ 1 ∷ 1 ∷ 1 ∷ 1 ∷ 2 ∷ 1 ∷ 1 ∷ [])
unfolding shared less begins same depth glue groups widest row_by table_within node_table table numbers joined entry blocks_from front blocks offsets entry_part block_part all_fields trailer book_by decode_from decode number rising sound fits_by names_of is_book_by opened child_of reach_within reached count exact_from exact place range nearest ask may_end lit answer names_answer visits entries names_counted counted_of counted_question
example-looked = (refl, refl)
