-- All refusals of all calls, computed: each alone, and beside its neighbour in the order of refusals, which is then not the one that is given. What was lent
-- is left as it was. The books are document 01's by two, the same with one byte changed, the same with a shared count that is smaller than it could be, the
-- ones without names and with one name, and these as column books. Each line has what the documents say and not what a branch of a definition says, so a
-- wrong definition shows here by its numbers.
--     build-refusals    8, 5, 6, 4; lists too long for a book, 7 and 9, are computed in the theorems' Edges
--     mar-twice         a folded build of Mar and mar: 6
--     check-refusals, check-kinds, read-refusals, question-refusals, counted-refusals
--     batch-refusals, batch-taken, batch-rows-alone, batch-rows-none
--     judge-refusals, merge-refusals, put-2001, put-2000, merge-taken     5 and 6 of either list; 4; 7 of the names that a merge has put together
--     head-refusals, heads-computed
--     salvage-refusals, salvage-trailers, salvage-taken-just
--     clips-computed, bad-route-kept, routes-computed     the announcer's calls: refusals in their order, and what is spoken
--     convert-refusals, converts-computed     a book turned into columns, and back: refusals in their order, and the room afterwards
-- Assumes nothing.
use Prim.Native.Nat.{ℕ}
use mathlib.Core.Path.{◌≡◌, refl}
use mathlib.Core.List.{List, [], ◌∷◌, ◌++◌, map}
use lib.ListN.{drop, replicate, set, take}
use Rattle.words.specs.Words.{Bytes, begins, less, same, shared}
use Rattle.format.specs.Book.{block_part, book_by, entry_part, fits_by, is_book_by, joined, names_of, number, numbers, opened, trailer}
use Rattle.format.specs.Columns.{columns}
use Rattle.format.specs.Entries.{blocks, blocks_from, decode, decode_from, entry, front, offsets}
use Rattle.format.specs.Example.{example_by2, example_by4, text}
use Rattle.format.specs.Kinds.{ColumnBook, FoldedBook, PlainBook}
use Rattle.format.specs.Merging.{kept, merged}
use Rattle.format.specs.Nodes.{all_fields, depth, glue, groups, row_by, table, table_within}
use Rattle.format.specs.Outcomes.{Answer, check_of, given, numbered, refused}
use Rattle.format.specs.Records.{encode, read_from, read_list, rising, sound}
use Rattle.format.specs.Salvage.{bounds_from, climbs, judged_alone, mapped, spans_from}
use Rattle.format.specs.Spans.{node_table}
use Rattle.format.specs.Widths.{widest}
use Rattle.answers.specs.Announcing.{Clips, clip_of, refusal, spoken}
use Rattle.answers.specs.Calls.{Row, batch, batch_of, build, build_by, built_from, check, names_answer, question, question_of, read_back, read_back_of, row_answer}
use Rattle.answers.specs.Converting.{converted, converted_of}
use Rattle.answers.specs.Counts.{counted_of, counted_question, entries, names_counted, unlooked, visits}
use Rattle.answers.specs.Heads.{Head, head_of, lesser_head}
use Rattle.answers.specs.Lit.{lit, may_end}
use Rattle.answers.specs.Merging.{judge_lists, merge_lists, of_readings, put_names}
use Rattle.answers.specs.Questions.{answer, ask, child_of, count, exact, exact_from, nearest, place, range, reach_within, reached}
use Rattle.answers.specs.Routes.{first_bad, route_of}
use Rattle.answers.specs.Salvage.{salvage, salvage_from}
use Rattle.answers.specs.Widths.{width}

-- ---- what comes in

-- a room, or a part of one, that holds what another guest left there
abbrev pub lent_room : ℕ → Bytes
lent_room n = replicate n 7

abbrev pub mar : Bytes
mar = 3 ∷ text "Mar"

abbrev pub marina : Bytes
marina = 6 ∷ text "Marina"

abbrev pub market : Bytes
market = 13 ∷ text "Market Square"

-- Marina's entry says that it shares 2 bytes with Mar, so its name is Maina, which is not above Mar: no book
abbrev pub broken : Bytes
broken = set example_by2 5 2

-- Marina's entry shares 2 bytes with Mar and has a rest of four, though it could share 3: the names are the same, and it is no book
abbrev pub smaller_count : Bytes
smaller_count =
    0 ∷ 3 ∷ text "Mar" ++ (2 ∷ 4 ∷ text "rina" ++ (0 ∷ 13 ∷ text "Market Square" ++ (0 ∷ 0 ∷ 11 ∷ 0 ∷ take 48 (drop 29 example_by2) ++
    (3 ∷ 0 ∷ 2 ∷ 0 ∷ 26 ∷ 0 ∷ 30 ∷ 0 ∷ 4 ∷ 0 ∷ 94 ∷ 0 ∷ 0x4E ∷ 0x42 ∷ 0x4B ∷ 0x32 ∷ []))))

abbrev pub no_names : Bytes
no_names = 0 ∷ 0 ∷ 2 ∷ 0 ∷ 0 ∷ 0 ∷ 0 ∷ 0 ∷ 0 ∷ 0 ∷ 16 ∷ 0 ∷ 0x4E ∷ 0x42 ∷ 0x4B ∷ 0x32 ∷ []

-- A alone, in blocks of one
abbrev pub one_name : Bytes
one_name =
    0 ∷ 1 ∷ text "A" ++ (0 ∷ 0 ∷ 0 ∷ 0 ∷ 2 ∷ 0 ∷ 0 ∷ 0 ∷ 1 ∷ 0 ∷ 1 ∷ 0 ∷ 1 ∷ 0
    ∷ 1 ∷ 0 ∷ 1 ∷ 0 ∷ 3 ∷ 0 ∷ 5 ∷ 0 ∷ 1 ∷ 0 ∷ 33 ∷ 0 ∷ 0x4E ∷ 0x42 ∷ 0x4B ∷ 0x32 ∷ [])

-- document 01's four nodes as columns: symbols, depths, first names, numbers of names, numbers of nodes, widths
abbrev pub node_columns : Bytes
node_columns =
    0 ∷ 0 ∷ 0 ∷ 0 ∷ 106 ∷ 0 ∷ 108 ∷ 0
    ∷ 3 ∷ 0 ∷ 4 ∷ 0 ∷ 7 ∷ 0 ∷ 14 ∷ 0
    ∷ 0 ∷ 0 ∷ 0 ∷ 0 ∷ 1 ∷ 0 ∷ 2 ∷ 0
    ∷ 3 ∷ 0 ∷ 1 ∷ 0 ∷ 1 ∷ 0 ∷ 1 ∷ 0
    ∷ 4 ∷ 0 ∷ 1 ∷ 0 ∷ 1 ∷ 0 ∷ 1 ∷ 0
    ∷ 13 ∷ 0 ∷ 3 ∷ 0 ∷ 6 ∷ 0 ∷ 13 ∷ 0 ∷ []

-- column books: document 01's names by two and by four, no names, one name
abbrev pub columns_by2 : Bytes
columns_by2 =
    0 ∷ 3 ∷ text "Mar" ++ (3 ∷ 3 ∷ text "ina" ++ (0 ∷ 13 ∷ text "Market Square" ++ (0 ∷ 0 ∷ 10 ∷ 0 ∷ node_columns ++
    (3 ∷ 0 ∷ 2 ∷ 0 ∷ 25 ∷ 0 ∷ 29 ∷ 0 ∷ 4 ∷ 0 ∷ 93 ∷ 0 ∷ 0x4E ∷ 0x42 ∷ 0x43 ∷ 0x32 ∷ []))))

abbrev pub columns_by4 : Bytes
columns_by4 =
    0 ∷ 3 ∷ text "Mar" ++ (3 ∷ 3 ∷ text "ina" ++ (3 ∷ 10 ∷ text "ket Square" ++ (0 ∷ 0 ∷ node_columns ++
    (3 ∷ 0 ∷ 4 ∷ 0 ∷ 22 ∷ 0 ∷ 24 ∷ 0 ∷ 4 ∷ 0 ∷ 88 ∷ 0 ∷ 0x4E ∷ 0x42 ∷ 0x43 ∷ 0x32 ∷ []))))

abbrev pub columns_of_none : Bytes
columns_of_none = 0 ∷ 0 ∷ 2 ∷ 0 ∷ 0 ∷ 0 ∷ 0 ∷ 0 ∷ 0 ∷ 0 ∷ 16 ∷ 0 ∷ 0x4E ∷ 0x42 ∷ 0x43 ∷ 0x32 ∷ []

abbrev pub columns_of_one : Bytes
columns_of_one =
    0 ∷ 1 ∷ text "A" ++ (0 ∷ 0 ∷ 0 ∷ 0 ∷ 2 ∷ 0 ∷ 0 ∷ 0 ∷ 1 ∷ 0 ∷ 1 ∷ 0 ∷ 1 ∷ 0
    ∷ 1 ∷ 0 ∷ 1 ∷ 0 ∷ 3 ∷ 0 ∷ 5 ∷ 0 ∷ 1 ∷ 0 ∷ 33 ∷ 0 ∷ 0x4E ∷ 0x42 ∷ 0x43 ∷ 0x32 ∷ [])

-- no names, in a folded book
abbrev pub folded_none : Bytes
folded_none = 0 ∷ 0 ∷ 2 ∷ 0 ∷ 0 ∷ 0 ∷ 0 ∷ 0 ∷ 0 ∷ 0 ∷ 16 ∷ 0 ∷ 0x4E ∷ 0x42 ∷ 0x46 ∷ 0x32 ∷ []

-- a question too long by one byte
abbrev pub over200 : Bytes
over200 = replicate 201 77

-- ---- build: 8; then record by record 5, 6; then 4

-- a list, a block size, how long the room is; the code and the record's number
abbrev pub BuildRow : Type 0
BuildRow = Bytes × ℕ × ℕ × (ℕ × ℕ)

abbrev pub builds : List BuildRow
builds =
    (mar, 0, 99, (8, 0)) ∷ (mar, 65, 99, (8, 0)) ∷ (0 ∷ [], 0, 99, (8, 0))
    ∷ (0 ∷ [], 2, 99, (5, 0)) ∷ (201 ∷ over200, 2, 99, (5, 0)) ∷ (3 ∷ text "Ma", 2, 99, (5, 0)) ∷ (mar ++ (3 ∷ []), 2, 99, (5, 1)) ∷ (marina ++ (4 ∷ text "Mar"), 2, 99, (5, 1))
    ∷ (marina ++ mar, 2, 99, (6, 1)) ∷ (mar ++ mar, 2, 99, (6, 1)) ∷ (marina ++ (mar ++ (0 ∷ [])), 2, 99, (6, 1)) ∷ (mar ++ (0 ∷ mar), 2, 99, (5, 1))
    ∷ (mar ++ (marina ++ market), 2, 92, (4, 0)) ∷ []

pub build-refusals : map (λ (c : BuildRow). build PlainBook c.0 c.1 (lent_room c.2)) builds ≡ map (λ (c : BuildRow). record { answer = numbered c.3.0 c.3.1; room = lent_room c.2 }) builds
unfolding shared less depth glue groups widest row_by table_within node_table table numbers joined entry blocks_from front blocks offsets entry_part block_part all_fields trailer book_by encode read_from read_list built_from build_by
build-refusals = refl

-- two names of a plain list, which are one name once folded: 6 with the second record, and the room as it was
pub mar-twice : build FoldedBook (mar ++ (3 ∷ text "mar")) 2 (lent_room 99) ≡ record { answer = numbered 6 1; room = lent_room 99 }
unfolding shared less depth glue groups widest row_by table_within node_table table numbers joined entry blocks_from front blocks offsets entry_part block_part all_fields trailer book_by encode read_from read_list built_from build_by
mar-twice = refl

-- ---- check: 2

pub check-refusals : map (λ (s : Bytes). check s) (smaller_count ∷ broken ∷ [] ∷ take 92 example_by2 ∷ drop 1 example_by2 ∷ (example_by2 ++ (0 ∷ [])) ∷ set no_names 2 0 ∷ set no_names 2 65 ∷ no_names ∷ example_by2 ∷ example_by4 ∷ [])
    ≡ refused 2 ∷ refused 2 ∷ refused 2 ∷ refused 2 ∷ refused 2 ∷ refused 2 ∷ refused 2 ∷ refused 2 ∷ given 0 2 ∷ given 3 2 ∷ given 3 4 ∷ []
unfolding shared less begins same depth glue groups widest row_by table_within node_table table numbers joined entry blocks_from front blocks offsets entry_part block_part all_fields trailer book_by decode_from decode number rising sound fits_by names_of is_book_by opened check_of check
check-refusals = refl

-- column books and folded ones; then rows under the mark of columns, columns under the plain and the folded mark, and columns with one number changed: no books
pub check-kinds : map (λ (s : Bytes). check s) (columns_by2 ∷ columns_by4 ∷ columns_of_none ∷ columns_of_one ∷ folded_none ∷ set example_by2 91 0x46
    ∷ set example_by2 91 0x43 ∷ set columns_by2 91 0x4B ∷ set columns_by2 91 0x46 ∷ set columns_by2 37 4 ∷ [])
    ≡ given 3 2 ∷ given 3 4 ∷ given 0 2 ∷ given 1 1 ∷ given 0 2 ∷ given 3 2 ∷ refused 2 ∷ refused 2 ∷ refused 2 ∷ refused 2 ∷ []
unfolding shared less begins same depth glue groups widest row_by table_within node_table table numbers joined entry blocks_from front blocks offsets entry_part block_part all_fields columns trailer book_by decode_from decode number rising sound fits_by names_of is_book_by opened check_of check
check-kinds = refl

-- ---- read back: 2, 3, 4

-- a book, a position, how long the room is; the code
abbrev pub ReadRow : Type 0
ReadRow = Bytes × ℕ × ℕ × ℕ

abbrev pub reads : List ReadRow
reads =
    (broken, 0, 99, 2) ∷ (broken, 3, 99, 2) ∷ (broken, 0, 0, 2) ∷ (example_by2, 3, 99, 3) ∷ (example_by2, 70000, 99, 3) ∷ (example_by2, 3, 0, 3) ∷ (no_names, 0, 99, 3)
    ∷ (example_by2, 2, 12, 4) ∷ (example_by2, 0, 0, 4) ∷ []

pub read-refusals : map (λ (c : ReadRow). read_back c.0 c.1 (lent_room c.2)) reads ≡ map (λ (c : ReadRow). record { answer = refused c.3; room = lent_room c.2 }) reads
unfolding shared less begins same depth glue groups widest row_by table_within node_table table numbers joined entry blocks_from front blocks offsets entry_part block_part all_fields trailer book_by decode_from decode number rising sound fits_by names_of is_book_by opened read_back_of read_back
read-refusals = refl

-- ---- a question: 2, 1, 10

-- a kind, a book, a question
abbrev pub QuestionRow : Type 0
QuestionRow = ℕ × Bytes × Bytes

-- 2, then 1 of every kind, then 10 of nearest alone; a question of 200 bytes is answered
abbrev pub asks : List (QuestionRow × Answer)
asks =
    ((1, broken, text "Mar"), refused 2) ∷ ((4, broken, over200), refused 2) ∷ ((4, set no_names 2 0, []), refused 2)
    ∷ ((1, example_by2, over200), refused 1) ∷ ((2, example_by2, over200), refused 1) ∷ ((3, example_by2, over200), refused 1) ∷ ((4, example_by2, over200), refused 1) ∷ ((5, example_by2, over200), refused 1)
    ∷ ((4, no_names, over200), refused 1) ∷ ((4, no_names, text "Mar"), refused 10) ∷ ((4, no_names, []), refused 10)
    ∷ ((1, no_names, text "Mar"), given 0 0) ∷ ((2, no_names, text "Mar"), given 0 0) ∷ ((3, no_names, text "Mar"), given 0 0) ∷ ((5, no_names, text "Mar"), given 0 0)
    ∷ ((2, example_by2, replicate 200 77), given 0 0) ∷ []

pub question-refusals : map (λ (c : QuestionRow × Answer). question c.0.0 c.0.1 c.0.2) asks ≡ map (λ (c : QuestionRow × Answer). c.1) asks
unfolding shared less begins same depth glue groups widest row_by table_within node_table table numbers joined entry blocks_from front blocks offsets entry_part block_part all_fields trailer book_by decode_from decode number rising sound fits_by names_of is_book_by opened child_of reach_within reached count exact_from exact place range width nearest ask may_end lit answer names_answer question_of question
question-refusals = refl

-- nothing is looked at but for the last one, which goes no further than the root
pub counted-refusals : map (λ (c : QuestionRow × Answer). counted_question c.0.0 c.0.1 c.0.2) asks ≡ map (λ (c : QuestionRow × Answer). unlooked c.1.code) (take 15 asks) ++ (record { answer = given 0 0; visits = 1; entries = 1 } ∷ [])
unfolding shared less begins same depth glue groups widest row_by table_within node_table table numbers joined entry blocks_from front blocks offsets entry_part block_part all_fields trailer book_by decode_from decode number rising sound fits_by names_of is_book_by opened child_of reach_within reached count exact_from exact place range width nearest ask may_end lit answer names_answer visits entries names_counted counted_of counted_question
counted-refusals = refl

-- ---- batch: 12, 2; then for each row 11, 1, 10

abbrev pub row : ℕ → ℕ → ℕ → Row
row kind start size = record { kind = kind; start = start; size = size }

-- what another guest left in the answer rows
abbrev pub left_rows : ℕ → List Answer
left_rows n = replicate n (record { code = 7; first = 7; second = 7 })

-- 214 bytes: Marina, 201 letters, Maxim and MM
abbrev pub buffer : Bytes
buffer = text "Marina" ++ (over200 ++ text "Maxim" ++ text "MM")

-- a book, how many rows and how many answer rows; the code
abbrev pub BatchRow : Type 0
BatchRow = Bytes × ℕ × ℕ × ℕ

abbrev pub batches : List BatchRow
batches = (example_by2, 65, 65, 12) ∷ (example_by2, 2, 1, 12) ∷ (example_by2, 1, 2, 12) ∷ (example_by2, 0, 1, 12) ∷ (broken, 65, 65, 12) ∷ (broken, 2, 1, 12) ∷ (broken, 1, 1, 2) ∷ (broken, 0, 0, 2) ∷ (broken, 64, 64, 2) ∷ []

pub batch-refusals : map (λ (c : BatchRow). batch c.0 buffer (replicate c.1 (row 1 0 6)) (left_rows c.2)) batches ≡ map (λ (c : BatchRow). record { answer = refused c.3; rows = left_rows c.2 }) batches
unfolding shared less begins same depth glue groups widest row_by table_within node_table table numbers joined entry blocks_from front blocks offsets entry_part block_part all_fields trailer book_by decode_from decode number rising sound fits_by names_of is_book_by opened batch_of batch
batch-refusals = refl

-- 64 rows are taken, and no rows
pub batch-taken : map (λ (n : ℕ). batch example_by2 buffer (replicate n (row 1 0 6)) (left_rows n)) (0 ∷ 64 ∷ []) ≡ map (λ (n : ℕ). record { answer = given n 0; rows = replicate n (given 1 1) }) (0 ∷ 64 ∷ [])
unfolding shared less begins same depth glue groups widest row_by table_within node_table table numbers joined entry blocks_from front blocks offsets entry_part block_part all_fields trailer book_by decode_from decode number rising sound fits_by names_of is_book_by opened exact_from exact ask may_end lit answer names_answer question_of row_answer batch_of batch
batch-taken = refl

-- each row, and what it gets: kinds 0 to 7; spans that end at the buffer's end, past it, or begin past it; 11 before 1
abbrev pub rows_asked : List (Row × Answer)
rows_asked =
    (row 0 0 6, refused 11) ∷ (row 1 0 6, given 1 1) ∷ (row 2 0 6, given 1 0) ∷ (row 3 0 6, given 1 1) ∷ (row 4 207 5, given 1 2) ∷ (row 5 0 4, given 6 0) ∷ (row 6 0 6, refused 11) ∷ (row 7 0 6, refused 11)
    ∷ (row 3 213 1, given 0 3) ∷ (row 3 213 2, refused 11) ∷ (row 3 214 0, given 0 3) ∷ (row 3 214 1, refused 11) ∷ (row 3 215 0, refused 11)
    ∷ (row 3 6 201, refused 1) ∷ (row 0 6 201, refused 11) ∷ (row 6 6 201, refused 11) ∷ (row 3 14 201, refused 11) ∷ (row 3 6 200, given 0 0) ∷ []

pub batch-rows-alone : batch example_by2 buffer (map (λ (c : Row × Answer). c.0) rows_asked) (left_rows 18) ≡ record { answer = given 18 0; rows = map (λ (c : Row × Answer). c.1) rows_asked }
unfolding shared less begins same depth glue groups widest row_by table_within node_table table numbers joined entry blocks_from front blocks offsets entry_part block_part all_fields trailer book_by decode_from decode number rising sound fits_by names_of is_book_by opened child_of reach_within reached count exact_from exact place range width nearest ask may_end lit answer names_answer question_of row_answer batch_of batch
batch-rows-alone = refl

-- of the book without names: 11 before 1, 1 before 10, 10 for nearest alone
pub batch-rows-none : batch no_names buffer (row 6 0 6 ∷ row 4 6 201 ∷ row 4 0 6 ∷ row 1 0 6 ∷ row 2 0 6 ∷ row 3 0 6 ∷ row 5 0 6 ∷ []) (left_rows 7)
    ≡ record { answer = given 7 0; rows = refused 11 ∷ refused 1 ∷ refused 10 ∷ given 0 0 ∷ given 0 0 ∷ given 0 0 ∷ given 0 0 ∷ [] }
unfolding shared less begins same depth glue groups widest row_by table_within node_table table numbers joined entry blocks_from front blocks offsets entry_part block_part all_fields trailer book_by decode_from decode number rising sound fits_by names_of is_book_by opened count exact_from exact place range width nearest ask may_end lit answer names_answer question_of row_answer batch_of batch
batch-rows-none = refl

-- ---- two lists: 5 and 6 of the first, then of the second; a merge then 7, then 4

-- the first list, the second, how long the room is; the code, the record's number and the list's
abbrev pub ListsRow : Type 0
ListsRow = Bytes × Bytes × ℕ × (ℕ × ℕ × ℕ)

-- for the judging, the merging and the step alike
abbrev pub bad_lists : List ListsRow
bad_lists =
    (0 ∷ [], mar, 99, (5, 0, 1)) ∷ (mar ++ (3 ∷ []), mar, 99, (5, 1, 1)) ∷ (marina ++ mar, mar, 99, (6, 1, 1)) ∷ (mar ++ mar, mar, 99, (6, 1, 1)) ∷ (marina ++ (mar ++ (0 ∷ [])), mar, 99, (6, 1, 1))
    ∷ (mar, 0 ∷ [], 99, (5, 0, 2)) ∷ (mar, mar ++ (marina ++ (201 ∷ over200)), 99, (5, 2, 2)) ∷ (mar, marina ++ mar, 99, (6, 1, 2)) ∷ (mar, marina ++ (4 ∷ text "Mar"), 99, (5, 1, 2))
    ∷ (marina ++ mar, 0 ∷ [], 99, (6, 1, 1)) ∷ (0 ∷ [], marina ++ mar, 99, (5, 0, 1)) ∷ (mar, 0 ∷ [], 0, (5, 0, 2)) ∷ []

-- a room that is short by one byte
abbrev pub short_room : ListsRow
short_room = (mar, marina, 10, (4, 0, 0))

abbrev pub told3 : ℕ × ℕ × ℕ → Answer
told3 n = record { code = n.0; first = n.1; second = n.2 }

pub judge-refusals : map (λ (c : ListsRow). judge_lists c.0 c.1) (bad_lists ++ (short_room ∷ [])) ≡ map (λ (c : ListsRow). told3 c.3) bad_lists ++ (given 0 0 ∷ [])
unfolding shared less read_from read_list of_readings judge_lists
judge-refusals = refl

pub merge-refusals : map (λ (c : ListsRow). merge_lists c.0 c.1 (lent_room c.2)) (bad_lists ++ (short_room ∷ [])) ≡ map (λ (c : ListsRow). record { answer = told3 c.3; room = lent_room c.2 }) (bad_lists ++ (short_room ∷ []))
unfolding shared less kept merged encode read_from read_list of_readings merge_lists
merge-refusals = refl

-- what is put of a union of 2,001 names; of 2,000, in a room that is too short
pub put-2001 : put_names (lent_room 5) (replicate 2001 (text "a")) ≡ record { answer = told3 (7, 2000, 0); room = lent_room 5 }
put-2001 = refl

pub put-2000 : put_names (lent_room 5) (replicate 2000 (text "a")) ≡ record { answer = told3 (4, 0, 0); room = lent_room 5 }
unfolding encode
put-2000 = refl

pub merge-taken : merge_lists mar marina (lent_room 11) ≡ record { answer = given 11 0; room = mar ++ marina }
unfolding shared less kept merged encode read_from read_list of_readings merge_lists
merge-taken = refl

-- a refused step shows the empty part of the first list, whatever is counted
pub head-refusals : map (λ (c : ListsRow). head_of c.0 c.1 0 0) bad_lists ≡ replicate 12 (1, 0, 0)
unfolding shared less encode read_from read_list of_readings lesser_head head_of
head-refusals = refl

-- two lists, and how many records of each are passed; the head's list, where it begins there, its length
abbrev pub HeadRow : Type 0
HeadRow = Bytes × Bytes × (ℕ × ℕ) × Head

abbrev pub heads : List HeadRow
heads =
    (mar ++ marina, marina ++ market, (0, 0), (1, 1, 3)) ∷ (mar ++ marina, marina ++ market, (1, 0), (1, 5, 6)) ∷ (mar ++ marina, marina ++ market, (0, 1), (1, 1, 3)) ∷ (mar ++ marina, marina ++ market, (2, 0), (2, 1, 6))
    ∷ (mar ++ marina, marina ++ market, (2, 1), (2, 8, 13)) ∷ (mar ++ marina, marina ++ market, (1, 2), (1, 5, 6)) ∷ (mar ++ marina, marina ++ market, (2, 2), (1, 0, 0)) ∷ (mar ++ marina, marina ++ market, (70000, 70000), (1, 0, 0))
    ∷ (marina ++ market, mar, (0, 0), (2, 1, 3)) ∷ (mar, mar, (0, 0), (1, 1, 3)) ∷ ([], [], (0, 0), (1, 0, 0)) ∷ ([], mar, (0, 0), (2, 1, 3)) ∷ (mar, [], (0, 0), (1, 1, 3)) ∷ []

pub heads-computed : map (λ (c : HeadRow). head_of c.0 c.1 c.2.0 c.2.1) heads ≡ map (λ (c : HeadRow). c.3) heads
unfolding shared less encode read_from read_list of_readings lesser_head head_of
heads-computed = refl

-- ---- salvage: 13, 12, 4

-- what another guest left in the report rows
abbrev pub left_report : ℕ → List (ℕ × ℕ)
left_report n = replicate n (5, 5)

-- a card, how long the room is, how many rows; the code
abbrev pub CardRow : Type 0
CardRow = Bytes × ℕ × ℕ × ℕ

-- a trailer whose number of nodes is another makes no map, nor does a column book; a book in which Marina's entry is worn has one
abbrev pub cards : List CardRow
cards =
    (set example_by2 85 5, 99, 2, 13) ∷ (set example_by2 85 5, 99, 1, 13) ∷ (set example_by2 85 5, 0, 2, 13) ∷ ([], 0, 0, 13)
    ∷ (example_by2, 99, 1, 12) ∷ (example_by2, 99, 3, 12) ∷ (example_by2, 0, 1, 12) ∷ (example_by2, 24, 2, 4) ∷ (example_by2, 0, 2, 4) ∷ (broken, 13, 2, 4) ∷ (no_names, 0, 1, 12) ∷ (columns_by2, 99, 2, 13) ∷ (columns_by2, 99, 1, 13) ∷ (columns_by2, 0, 2, 13)
    ∷ (columns_of_none, 0, 0, 13) ∷ []

pub salvage-refusals : map (λ (c : CardRow). salvage c.0 (lent_room c.1) (left_report c.2)) cards ≡ map (λ (c : CardRow). record { answer = refused c.3; room = lent_room c.1; rows = left_report c.2 }) cards
unfolding shared less joined encode decode decode_from entry front rising bounds_from climbs spans_from mapped judged_alone salvage salvage_from number same begins
salvage-refusals = refl

-- each number of the trailer off by one, but for a fourth name, which has its place in the second block: 13
pub salvage-trailers : map (λ (s : Bytes). salvage s (lent_room 25) (left_report 2))
    (set example_by2 77 2 ∷ set example_by2 79 1 ∷ set example_by2 79 3 ∷ set example_by2 81 24 ∷ set example_by2 81 26 ∷ set example_by2 83 28 ∷ set example_by2 83 30
    ∷ set example_by2 85 3 ∷ set example_by2 85 5 ∷ set example_by2 87 92 ∷ set example_by2 87 94 ∷ [])
    ≡ replicate 11 (record { answer = refused 13; room = lent_room 25; rows = left_report 2 })
unfolding shared less joined encode decode decode_from entry front rising bounds_from climbs spans_from mapped judged_alone salvage salvage_from number same begins
salvage-trailers = refl

-- a room of just the length; and n = 0: no rows and no bytes
pub salvage-taken-just : salvage example_by2 (lent_room 25) (left_report 2) ∷ salvage broken (lent_room 14) (left_report 2) ∷ salvage no_names [] [] ∷ []
    ≡ record { answer = given 25 0; room = mar ++ (marina ++ market); rows = (1, 2) ∷ (1, 1) ∷ [] } ∷ record { answer = given 14 0; room = market; rows = (0, 0) ∷ (1, 1) ∷ [] }
    ∷ record { answer = given 0 0; room = []; rows = [] } ∷ []
unfolding shared less joined encode decode decode_from entry front rising bounds_from climbs spans_from mapped judged_alone salvage salvage_from number same begins
salvage-taken-just = refl

-- ---- the announcer: a text 2, 16, 1; a route 2, 16, 12, 3, 4

abbrev pub clips3 : Clips
clips3 = 511 ∷ 300 ∷ 65535 ∷ []

-- MAR alone, in a folded book in blocks of two
abbrev pub folded_mar : Bytes
folded_mar =
    0 ∷ 3 ∷ text "MAR" ++ (0 ∷ 0 ∷ 0 ∷ 0 ∷ 4 ∷ 0 ∷ 0 ∷ 0 ∷ 1 ∷ 0 ∷ 1 ∷ 0 ∷ 3 ∷ 0
    ∷ 1 ∷ 0 ∷ 2 ∷ 0 ∷ 5 ∷ 0 ∷ 7 ∷ 0 ∷ 1 ∷ 0 ∷ 35 ∷ 0 ∷ 0x4E ∷ 0x42 ∷ 0x46 ∷ 0x32 ∷ [])

-- a book, a table, a text
abbrev pub ClipRow : Type 0
ClipRow = Bytes × Clips × Bytes

-- 2 before 16 before 1; Mar has its own clip, though three names begin so; one name begins with Mari; three with Ma, none with Mas; a column book gets 2
abbrev pub clips_asked : List (ClipRow × Answer)
clips_asked =
    ((broken, clips3, text "Mar"), refused 2) ∷ ((broken, [], text "Mar"), refused 2) ∷ ((broken, clips3, over200), refused 2)
    ∷ ((example_by2, take 2 clips3, text "Mar"), refused 16) ∷ ((example_by2, 1 ∷ clips3, text "Mar"), refused 16) ∷ ((example_by2, [], over200), refused 16) ∷ ((no_names, 1 ∷ [], []), refused 16)
    ∷ ((example_by2, clips3, over200), refused 1) ∷ ((no_names, [], over200), refused 1)
    ∷ ((example_by2, clips3, text "Mar"), given 1 511) ∷ ((example_by2, clips3, text "Marina"), given 1 300) ∷ ((example_by2, clips3, text "Mari"), given 1 300) ∷ ((example_by2, clips3, text "Mark"), given 1 65535)
    ∷ ((example_by2, clips3, text "Ma"), given 0 3) ∷ ((example_by2, clips3, []), given 0 3) ∷ ((example_by2, clips3, text "Mas"), given 0 0) ∷ ((example_by2, clips3, text "Marinas"), given 0 0)
    ∷ ((example_by2, clips3, replicate 200 77), given 0 0) ∷ ((no_names, [], []), given 0 0) ∷ ((no_names, [], text "Mar"), given 0 0)
    ∷ ((folded_mar, 9 ∷ [], text "mar"), given 1 9) ∷ ((folded_mar, 9 ∷ [], text "mA"), given 1 9) ∷ ((folded_mar, 9 ∷ [], []), given 1 9) ∷ ((folded_mar, 9 ∷ [], text "mas"), given 0 0)
    ∷ ((columns_by2, clips3, text "Mar"), refused 2) ∷ ((columns_by2, [], text "Mar"), refused 2) ∷ ((columns_by2, clips3, over200), refused 2) ∷ ((columns_of_none, [], []), refused 2) ∷ []

pub clips-computed : map (λ (c : ClipRow × Answer). clip_of c.0.0 c.0.1 c.0.2) clips_asked ≡ map (λ (c : ClipRow × Answer). c.1) clips_asked
unfolding shared less begins same depth glue groups widest row_by table_within node_table table numbers joined entry blocks_from front blocks offsets entry_part block_part all_fields columns trailer book_by decode_from decode number rising sound fits_by names_of is_book_by opened check_of check count exact_from exact place range ask may_end lit answer names_answer question_of question refusal spoken clip_of
clips-computed = refl

-- a book, a table, a route, how long the room is
abbrev pub RouteRow : Type 0
RouteRow = Bytes × Clips × List ℕ × ℕ

-- the answer, and the room afterwards: 2 before 16 before 12 before 3 before 4; the first bad position is told, whatever stands behind it; a column book gets 2
abbrev pub routes_asked : List (RouteRow × (Answer × Clips))
routes_asked =
    ((example_by2, clips3, 3 ∷ [], 2), (numbered 3 0, lent_room 2)) ∷ ((example_by2, clips3, 0 ∷ 2 ∷ 3 ∷ 1 ∷ [], 4), (numbered 3 2, lent_room 4)) ∷ ((example_by2, clips3, 0 ∷ 70000 ∷ 1 ∷ 3 ∷ [], 4), (numbered 3 1, lent_room 4)) ∷ ((example_by2, clips3, 0 ∷ 3 ∷ [], 0), (numbered 3 1, []))
    ∷ ((no_names, [], 0 ∷ [], 2), (numbered 3 0, lent_room 2))
    ∷ ((example_by2, clips3, 0 ∷ 1 ∷ [], 1), (refused 4, lent_room 1))
    ∷ ((example_by2, clips3, 2 ∷ 0 ∷ 2 ∷ 1 ∷ [], 4), (given 8 0, 65535 ∷ 511 ∷ 65535 ∷ 300 ∷ [])) ∷ ((example_by2, clips3, 1 ∷ [], 3), (given 2 0, 300 ∷ 7 ∷ 7 ∷ []))
    ∷ ((example_by2, clips3, [], 2), (given 0 0, lent_room 2)) ∷ ((no_names, [], [], 0), (given 0 0, [])) ∷ ((folded_mar, 9 ∷ [], 0 ∷ 0 ∷ [], 3), (given 4 0, 9 ∷ 9 ∷ 7 ∷ []))
    ∷ ((broken, clips3, 0 ∷ [], 2), (refused 2, lent_room 2)) ∷ ((broken, [], 0 ∷ [], 2), (refused 2, lent_room 2)) ∷ ((example_by2, take 2 clips3, 0 ∷ [], 2), (refused 16, lent_room 2))
    ∷ ((example_by2, 1 ∷ clips3, replicate 121 0, 121), (refused 16, lent_room 121)) ∷ ((example_by2, clips3, replicate 121 0, 121), (refused 12, lent_room 121)) ∷ ((example_by2, clips3, replicate 121 3, 121), (refused 12, lent_room 121))
    ∷ ((example_by2, clips3, replicate 120 2, 119), (refused 4, lent_room 119)) ∷ ((example_by2, clips3, replicate 120 1, 121), (given 240 0, replicate 120 300 ++ (7 ∷ [])))
    ∷ ((columns_by2, clips3, 0 ∷ [], 2), (refused 2, lent_room 2)) ∷ ((columns_by2, [], 0 ∷ [], 2), (refused 2, lent_room 2)) ∷ ((columns_of_none, [], [], 0), (refused 2, [])) ∷ []

-- a bad position behind two good ones: the room is as it was
pub bad-route-kept : (route_of example_by2 clips3 (0 ∷ 2 ∷ 3 ∷ 1 ∷ []) (lent_room 4)).room ≡ lent_room 4
unfolding shared less begins same depth glue groups widest row_by table_within node_table table numbers joined entry blocks_from front blocks offsets entry_part block_part all_fields trailer book_by decode_from decode number rising sound fits_by names_of is_book_by opened check_of check refusal first_bad route_of
bad-route-kept = refl

pub routes-computed : map (λ (c : RouteRow × (Answer × Clips)). route_of c.0.0 c.0.1 c.0.2 (lent_room c.0.3)) routes_asked
    ≡ map (λ (c : RouteRow × (Answer × Clips)). record { answer = c.1.0; room = c.1.1 }) routes_asked
unfolding shared less begins same depth glue groups widest row_by table_within node_table table numbers joined entry blocks_from front blocks offsets entry_part block_part all_fields columns trailer book_by decode_from decode number rising sound fits_by names_of is_book_by opened check_of check refusal first_bad route_of
routes-computed = refl

-- ---- a conversion: 2, 4

-- a book, how long the room is; the answer, and the room afterwards
abbrev pub ConvertRow : Type 0
ConvertRow = Bytes × ℕ × (Answer × Bytes)

-- no names: a room of just the length, a longer one, one that is a byte short, none; then bytes that are no book, a folded book and a column book: 2, also where the room is short
abbrev pub to_columns : List ConvertRow
to_columns =
    (no_names, 16, (given 16 0, columns_of_none)) ∷ (no_names, 17, (given 16 0, columns_of_none ++ lent_room 1)) ∷ (no_names, 15, (refused 4, lent_room 15)) ∷ (no_names, 0, (refused 4, []))
    ∷ (set no_names 2 0, 16, (refused 2, lent_room 16)) ∷ (set no_names 2 0, 15, (refused 2, lent_room 15)) ∷ ([], 3, (refused 2, lent_room 3)) ∷ ([], 0, (refused 2, []))
    ∷ (folded_none, 16, (refused 2, lent_room 16)) ∷ (folded_none, 15, (refused 2, lent_room 15)) ∷ (columns_of_none, 16, (refused 2, lent_room 16)) ∷ (columns_of_none, 15, (refused 2, lent_room 15)) ∷ []

-- the same of column books, and 2 for a plain one
abbrev pub from_columns : List ConvertRow
from_columns =
    (columns_of_none, 16, (given 16 0, no_names)) ∷ (columns_of_none, 17, (given 16 0, no_names ++ lent_room 1)) ∷ (columns_of_none, 15, (refused 4, lent_room 15)) ∷ (columns_of_none, 0, (refused 4, []))
    ∷ (set columns_of_none 2 0, 16, (refused 2, lent_room 16)) ∷ (set columns_of_none 2 0, 15, (refused 2, lent_room 15)) ∷ ([], 3, (refused 2, lent_room 3)) ∷ ([], 0, (refused 2, []))
    ∷ (folded_none, 16, (refused 2, lent_room 16)) ∷ (folded_none, 15, (refused 2, lent_room 15)) ∷ (no_names, 16, (refused 2, lent_room 16)) ∷ (no_names, 15, (refused 2, lent_room 15)) ∷ []

pub convert-refusals : (map (λ (c : ConvertRow). converted PlainBook ColumnBook c.0 (lent_room c.1)) to_columns ≡ map (λ (c : ConvertRow). record { answer = c.2.0; room = c.2.1 }) to_columns)
    × (map (λ (c : ConvertRow). converted ColumnBook PlainBook c.0 (lent_room c.1)) from_columns ≡ map (λ (c : ConvertRow). record { answer = c.2.0; room = c.2.1 }) from_columns)
unfolding shared less begins same depth glue groups widest row_by table_within node_table table numbers joined entry blocks_from front blocks offsets entry_part block_part all_fields columns trailer book_by decode_from decode number rising sound fits_by names_of is_book_by opened converted_of converted
convert-refusals = (refl, refl)

-- One name, three names by two and by four: rooms of just the length, longer ones, and those that are a byte short. Then 2 again: for a damaged book, folded books and column
-- books, in a room that would hold them and in a short one.
abbrev pub to_columns_more : List ConvertRow
to_columns_more =
    (one_name, 33, (given 33 0, columns_of_one)) ∷ (one_name, 35, (given 33 0, columns_of_one ++ lent_room 2)) ∷ (one_name, 32, (refused 4, lent_room 32))
    ∷ (example_by2, 93, (given 93 0, columns_by2)) ∷ (example_by2, 96, (given 93 0, columns_by2 ++ lent_room 3)) ∷ (example_by2, 92, (refused 4, lent_room 92))
    ∷ (example_by4, 88, (given 88 0, columns_by4)) ∷ (example_by4, 93, (given 88 0, columns_by4 ++ lent_room 5)) ∷ (example_by4, 87, (refused 4, lent_room 87))
    ∷ (broken, 93, (refused 2, lent_room 93)) ∷ (broken, 92, (refused 2, lent_room 92)) ∷ (folded_mar, 35, (refused 2, lent_room 35)) ∷ (folded_mar, 34, (refused 2, lent_room 34))
    ∷ (set example_by2 91 0x46, 93, (refused 2, lent_room 93)) ∷ (set example_by2 91 0x46, 92, (refused 2, lent_room 92)) ∷ (columns_of_one, 33, (refused 2, lent_room 33)) ∷ (columns_of_one, 32, (refused 2, lent_room 32))
    ∷ (columns_by2, 93, (refused 2, lent_room 93)) ∷ (columns_by2, 92, (refused 2, lent_room 92)) ∷ []

abbrev pub from_columns_more : List ConvertRow
from_columns_more =
    (columns_of_one, 33, (given 33 0, one_name)) ∷ (columns_of_one, 35, (given 33 0, one_name ++ lent_room 2)) ∷ (columns_of_one, 32, (refused 4, lent_room 32))
    ∷ (columns_by2, 93, (given 93 0, example_by2)) ∷ (columns_by2, 96, (given 93 0, example_by2 ++ lent_room 3)) ∷ (columns_by2, 92, (refused 4, lent_room 92))
    ∷ (columns_by4, 88, (given 88 0, example_by4)) ∷ (columns_by4, 93, (given 88 0, example_by4 ++ lent_room 5)) ∷ (columns_by4, 87, (refused 4, lent_room 87))
    ∷ (set columns_by2 5 2, 93, (refused 2, lent_room 93)) ∷ (set columns_by2 5 2, 92, (refused 2, lent_room 92)) ∷ (folded_mar, 35, (refused 2, lent_room 35)) ∷ (folded_mar, 34, (refused 2, lent_room 34))
    ∷ (set example_by2 91 0x46, 93, (refused 2, lent_room 93)) ∷ (set example_by2 91 0x46, 92, (refused 2, lent_room 92)) ∷ (one_name, 33, (refused 2, lent_room 33)) ∷ (one_name, 32, (refused 2, lent_room 32))
    ∷ (example_by2, 93, (refused 2, lent_room 93)) ∷ (example_by2, 92, (refused 2, lent_room 92)) ∷ []

pub converts-computed : (map (λ (c : ConvertRow). converted PlainBook ColumnBook c.0 (lent_room c.1)) to_columns_more ≡ map (λ (c : ConvertRow). record { answer = c.2.0; room = c.2.1 }) to_columns_more)
    × (map (λ (c : ConvertRow). converted ColumnBook PlainBook c.0 (lent_room c.1)) from_columns_more ≡ map (λ (c : ConvertRow). record { answer = c.2.0; room = c.2.1 }) from_columns_more)
unfolding shared less begins same depth glue groups widest row_by table_within node_table table numbers joined entry blocks_from front blocks offsets entry_part block_part all_fields columns trailer book_by decode_from decode number rising sound fits_by names_of is_book_by opened converted_of converted
converts-computed = (refl, refl)
