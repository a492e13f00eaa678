-- Document 01, 'A book in full', computed: the two books of Mar, Marina and Market Square, byte for byte.
--     books             the 93 bytes with k = 2 and the 88 with k = 4
-- Assumes nothing.
use mathlib.Core.Path.{◌≡◌, refl}
use mathlib.Core.List.{[], ◌∷◌, map}
use lib.ListN.{length}
use Rattle.words.specs.Words.{Bytes, shared}
use Rattle.format.specs.Kinds.{PlainBook}
use Rattle.format.specs.Example.{example, example_by2, example_by4}
use Rattle.format.specs.Book.{block_part, book, book_by, entry_part, joined, numbers, trailer}
use Rattle.format.specs.Entries.{blocks, blocks_from, entry, front, offsets}
use Rattle.format.specs.Nodes.{all_fields, depth, glue, groups, row_by, table, table_within}
use Rattle.format.specs.Spans.{node_table}
use Rattle.format.specs.Widths.{widest}

-- the books, and their lengths
pub books : map (λ k. book PlainBook k example) (2 ∷ 4 ∷ []) ≡ example_by2 ∷ example_by4 ∷ []
unfolding shared depth glue groups widest row_by table_within node_table table numbers joined entry blocks_from front blocks offsets entry_part block_part all_fields trailer book_by
books = refl

pub book-lengths : map (λ (s : Bytes). length s) (example_by2 ∷ example_by4 ∷ []) ≡ 93 ∷ 88 ∷ []
book-lengths = refl
