-- Document 01, 'Numbers given back when a call says no': each public call as one function of what came in. It gives the three numbers
-- and every lent byte and row afterwards; refusals in the document's order, and a refused call changes nothing. Contracts cite these.
--     build_by, build, check, read_back, names_answer, question, batch     a call over a book goes by the book's own mark
-- The laws are in proofs/Calls.antt. Assumes nothing: these are definitions.
use Rattle.std.specs.Prelude.{ℕ, ◌+◌, Bool, List, [], map, leb, ltb, eqb, length, get_or, take, drop}
use Rattle.words.specs.Words.{Bytes, Rule, pick, both}
use Rattle.format.specs.Kinds.{BookKind, Form, form_of, mark_of, rule_of}
use Rattle.format.specs.Records.{Names, Reading, Refused, longest, most_names, read_list}
use Rattle.format.specs.Book.{Opened, Book, NoBook, longest_book, good_block, book_by, opened}
use Rattle.format.specs.Outcomes.{Answer, Written, check_of, given, numbered, refused, write}
use Rattle.answers.specs.Widths.{last_kind}
use Rattle.answers.specs.Questions.{answer}

-- an answer, and the lent answer rows afterwards
pub record Batched : Type 0 where
  pub answer : Answer
  pub rows : List Answer

-- ---- build: 8; then record by record 5, 6, 7; then 9; then 4
unfoldable pub built_from : Rule → Form → Bytes → ℕ → Bytes → Reading → Written
built_from ρ f mark k room (Refused c i) = record { answer = numbered c i; room = room }
built_from ρ f mark k room (Names xs) =
    pick (leb (length (book_by ρ f mark k xs)) longest_book) (write (book_by ρ f mark k xs) room) (record { answer = refused 9; room = room })

-- by a rule, a form of table and a mark; by a kind of book
unfoldable pub build_by : Rule → Form → Bytes → Bytes → ℕ → Bytes → Written
build_by ρ f mark list k room = pick (good_block k) (built_from ρ f mark k room (read_list ρ most_names list)) (record { answer = refused 8; room = room })

abbrev pub build : BookKind → Bytes → ℕ → Bytes → Written
build κ list k room = build_by (rule_of κ) (form_of κ) (mark_of κ) list k room

-- ---- check: 2
unfoldable pub check : Bytes → Answer
check s = check_of (opened s)

-- ---- read back: 2, 3, 4
unfoldable pub read_back_of : ℕ → Bytes → Opened → Written
read_back_of i room NoBook = record { answer = refused 2; room = room }
read_back_of i room (Book κ k xs) = pick (ltb i (length xs)) (write (get_or xs i []) room) (record { answer = refused 3; room = room })

unfoldable pub read_back : Bytes → ℕ → Bytes → Written
read_back s i room = read_back_of i room (opened s)

-- ---- a question of kind 1 to 5: 2, 1, 10
-- of names, by a rule
unfoldable pub names_answer : Rule → ℕ → Bytes → List Bytes → Answer
names_answer ρ kind q xs =
    let a = answer ρ kind q xs in
    pick (leb (length q) longest)
    (pick (both (eqb kind 4) (eqb (length xs) 0)) (refused 10) (given a.0 a.1))
    (refused 1)

unfoldable pub question_of : ℕ → Bytes → Opened → Answer
question_of kind q NoBook = refused 2
question_of kind q (Book κ k xs) = names_answer (rule_of κ) kind q xs

unfoldable pub question : ℕ → Bytes → Bytes → Answer
question kind s q = question_of kind q (opened s)

-- ---- batch: 12, 2; then for each row 11, 1, 10
pub record Row : Type 0 where
  pub kind : ℕ
  pub start : ℕ
  pub size : ℕ

-- the kind is 1 to 5, and start plus length is not past the buffer
abbrev pub good_row : Bytes → Row → Bool
good_row buffer r = both (both (leb 1 r.kind) (leb r.kind last_kind)) (leb (r.start + r.size) (length buffer))

unfoldable pub row_answer : Opened → Bytes → Row → Answer
row_answer o buffer r = pick (good_row buffer r) (question_of r.kind (take r.size (drop r.start buffer)) o) (refused 11)

unfoldable pub batch_of : Bytes → List Row → List Answer → Opened → Batched
batch_of buffer rows answers NoBook = record { answer = refused 2; rows = answers }
batch_of buffer rows answers (Book κ k xs) =
    record { answer = given (length rows) 0; rows = map (row_answer (Book κ k xs) buffer) rows }

unfoldable pub batch : Bytes → Bytes → List Row → List Answer → Batched
batch s buffer rows answers =
    pick (both (leb (length rows) 64) (eqb (length rows) (length answers)))
    (batch_of buffer rows answers (opened s)) (record { answer = refused 12; rows = answers })
