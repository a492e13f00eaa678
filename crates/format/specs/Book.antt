-- Document 01, 'Layout of a book': four parts without gaps, numbers in two bytes, low byte first; demand 3: what bytes are a book.
--     numbers, number   numbers as bytes; the number that stands at an offset
--     entry_part, block_part, trailer     the parts, but for the table, which Kinds has; the whole, for a block size and names:
--     book_by, book      by a rule, a form of table and a mark; by a kind of book, which has all three
--     fits_by, fits      a book can be built from these
--     told, names_of     what the trailer tells; the names that bytes would be the book of
--     is_book_by, is_book, opened     whether they are that book; the kind, the block size and the names of a book, or none
-- The laws are in proofs/Book.antt. Assumes nothing: these are definitions.
use Rattle.std.specs.Prelude.{ℕ, ◌+◌, ◌-◌, ◌*◌, ◌/◌, ◌%◌, Bool, List, [], ◌∷◌, ◌++◌, leb, length, get_or, take}
use Rattle.words.specs.Words.{Bytes, Rule, pick, both, same}
use Rattle.format.specs.Kinds.{BookKind, Form, count_in, form_of, kind_of, mark_of, rule_of, table_in}
use Rattle.format.specs.Records.{sound}
use Rattle.format.specs.Entries.{blocks, offsets, decode}

abbrev pub trailer_size : ℕ
trailer_size = 16

abbrev pub longest_book : ℕ
longest_book = 65535

unfoldable pub numbers : List ℕ → Bytes
numbers [] = []
numbers (n ∷ ns) = n % 256 ∷ n / 256 % 256 ∷ numbers ns

unfoldable pub number : Bytes → ℕ → ℕ
number s o = get_or s o 0 + 256 * get_or s (o + 1) 0

unfoldable pub joined : List Bytes → Bytes
joined [] = []
joined (x ∷ xs) = x ++ joined xs

unfoldable pub entry_part : ℕ → List Bytes → Bytes
entry_part k xs = joined (blocks k xs)

unfoldable pub block_part : ℕ → List Bytes → Bytes
block_part k xs = numbers (offsets 0 (blocks k xs))

-- names, block size, start of block table, start of node table, number of nodes, length of the whole book, the mark
unfoldable pub trailer : Bytes → ℕ → ℕ → ℕ → ℕ → ℕ → ℕ → Bytes
trailer mark n k blocks_at nodes_at m total = numbers (n ∷ k ∷ blocks_at ∷ nodes_at ∷ m ∷ total ∷ []) ++ mark

-- by a rule, a form of table and a mark
unfoldable pub book_by : Rule → Form → Bytes → ℕ → List Bytes → Bytes
book_by ρ f mark k xs =
    let es = entry_part k xs in
    let bs = block_part k xs in
    let ns = numbers (table_in f ρ xs) in
    let end = trailer mark (length xs) k (length es) (length es + length bs) (count_in f ρ xs) (length es + length bs + length ns + trailer_size) in
    es ++ (bs ++ (ns ++ end))

abbrev pub book : BookKind → ℕ → List Bytes → Bytes
book κ k xs = book_by (rule_of κ) (form_of κ) (mark_of κ) k xs

abbrev pub good_block : ℕ → Bool
good_block k = both (leb 1 k) (leb k 64)

unfoldable pub fits_by : Rule → Form → Bytes → ℕ → List Bytes → Bool
fits_by ρ f mark k xs = both (good_block k) (both (sound ρ xs) (leb (length (book_by ρ f mark k xs)) longest_book))

abbrev pub fits : BookKind → ℕ → List Bytes → Bool
fits κ k xs = fits_by (rule_of κ) (form_of κ) (mark_of κ) k xs

-- number j of the trailer
abbrev pub told : Bytes → ℕ → ℕ
told s j = number s (length s - trailer_size + 2 * j)

-- The trailer tells where the entries end. Their names are those that the bytes would have to be the book of.
unfoldable pub names_of : Bytes → List Bytes
names_of s = decode (take (told s 2) s)

-- bytes are the book of the block size and the names that they tell
unfoldable pub is_book_by : Rule → Form → Bytes → Bytes → Bool
is_book_by ρ f mark s = both (fits_by ρ f mark (told s 1) (names_of s)) (same (book_by ρ f mark (told s 1) (names_of s)) s)

abbrev pub is_book : BookKind → Bytes → Bool
is_book κ s = is_book_by (rule_of κ) (form_of κ) (mark_of κ) s

pub data Opened : Type 0 where
  Book : BookKind → ℕ → List Bytes → Opened
  NoBook : Opened

-- by their own mark
unfoldable pub opened : Bytes → Opened
opened s = pick (is_book (kind_of s) s) (Book (kind_of s) (told s 1) (names_of s)) NoBook
