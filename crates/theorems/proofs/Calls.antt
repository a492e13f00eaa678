-- Document 01, 'What the statements have to settle': whatever came in, two results that a call's statement allows coincide, in the
-- answer and in every lent byte and row. A statement is the equation of a result with the call's function.
--     build-settles, check-settles, read-settles, question-settles, batch-settles
--     answer-settles, rows-settle     and settled numbers are a settled answer, and settled rows, of the code
--     read-regardless   what a read leaves at the front of a room does not depend on what the room held
--     batch-alone       every row of an accepted batch gets what its question alone would get, or 11
--     batch-regardless  a row's answer does not depend on other rows, or on bytes outside its own span; of these only their number counts
-- Assumes nothing.
use Prim.Native.Nat.{ℕ, ◌+◌}
use mathlib.Core.Path.{◌≡◌, refl, sym, ap, ap₂, ◌∙◌, subst}
use mathlib.Core.Bool.{Bool, true, false}
use mathlib.Core.List.{List, [], map}
use lib.Dec.{leb, ltb}
use lib.ListN.{get_or-map, length, get_or, drop}
use lib.Seq.{take-append_seam}
use Rattle.words.specs.Words.{Bytes, both, pick}
use Rattle.format.specs.Kinds.{BookKind}
use Rattle.format.specs.Book.{Book, NoBook, Opened, opened}
use Rattle.format.specs.Outcomes.{Answer, Written, given, over, refused, write}
use Rattle.answers.specs.Widths.{last_kind}
use Rattle.answers.specs.Calls.{Batched, Row, batch, build, check, good_row, question, question_of, read_back, read_back_of, row_answer}
use Rattle.theorems.specs.Demands.{Alike, answer_at, row_at, span_of}
use Rattle.answers.proofs.Calls.{batch-rows}
use Rattle.shapes.specs.Shapes.{answered}
use Rattle.shapes.specs.declared.Answer.{Answer as Given}
use Rattle.shapes.proofs.Shapes.{answered-injective, answers-injective}

pub written-settles : (o a b : Written) → a ≡ o → b ≡ o → (a.answer ≡ b.answer) × (a.room ≡ b.room)
written-settles o a b e f =
    let g : a ≡ b = e ∙ sym f in
    (ap (λ (w : Written). w.answer) g, ap (λ (w : Written). w.room) g)

pub build-settles : (κ : BookKind) (list : Bytes) (k : ℕ) (room : Bytes) (a b : Written) → a ≡ build κ list k room → b ≡ build κ list k room
    → (a.answer ≡ b.answer) × (a.room ≡ b.room)
build-settles κ list k room a b e f = written-settles (build κ list k room) a b e f

pub check-settles : (s : Bytes) (a b : Answer) → a ≡ check s → b ≡ check s → a ≡ b
check-settles s a b e f = e ∙ sym f

pub read-settles : (s : Bytes) (position : ℕ) (room : Bytes) (a b : Written) → a ≡ read_back s position room → b ≡ read_back s position room
    → (a.answer ≡ b.answer) × (a.room ≡ b.room)
read-settles s position room a b e f = written-settles (read_back s position room) a b e f

-- exact, place, range, nearest and width are kinds 1 to 5
pub question-settles : (kind : ℕ) (s q : Bytes) (a b : Answer) → a ≡ question kind s q → b ≡ question kind s q → a ≡ b
question-settles kind s q a b e f = e ∙ sym f

pub batch-settles : (s questions : Bytes) (rows : List Row) (answers : List Answer) (a b : Batched)
    → a ≡ batch s questions rows answers → b ≡ batch s questions rows answers → (a.answer ≡ b.answer) × (a.rows ≡ b.rows)
batch-settles s questions rows answers a b e f =
    let g : a ≡ b = e ∙ sym f in
    (ap (λ (w : Batched). w.answer) g, ap (λ (w : Batched). w.rows) g)

pub answer-settles : (x : Answer) (a b : Given) → answered a ≡ x → answered b ≡ x → a ≡ b
answer-settles x a b e f = answered-injective a b (e ∙ sym f)

pub rows-settle : (xs : List Answer) (rs ts : List Given) → map answered rs ≡ xs → map answered ts ≡ xs → rs ≡ ts
rows-settle xs rs ts e f = answers-injective rs ts (e ∙ sym f)

-- ---- what another guest left in the room

module _ (room other : Bytes) (e : length room ≡ length other) where
  write-alike : (x : Bytes) → Alike (write x room) (write x other)
  write-alike x = subst (λ (n : ℕ). Alike (write x room) (up_to n)) e (go (leb (length x) (length room)))
    where
      -- what is written into the other room, which holds n bytes
      up_to : ℕ → Written
      up_to n = pick (leb (length x) n) (record { answer = given (length x) 0; room = over x other }) (record { answer = refused 4; room = other })

      go : (t : Bool)
          → Alike (pick t (record { answer = given (length x) 0; room = over x room }) (record { answer = refused 4; room = room }))
          (pick t (record { answer = given (length x) 0; room = over x other }) (record { answer = refused 4; room = other }))
      go true = record { answer = refl; front = take-append_seam x (drop (length x) room) ∙ sym (take-append_seam x (drop (length x) other)) }
      go false = record { answer = refl; front = refl }

  pub read-regardless : (s : Bytes) (position : ℕ) → Alike (read_back s position room) (read_back s position other)
  unfolding read_back read_back_of
  read-regardless s position = go (opened s)
    where
      go : (o : Opened) → Alike (read_back_of position room o) (read_back_of position other o)
      go NoBook = record { answer = refl; front = refl }
      go (Book κ k xs) = here (ltb position (length xs))
        where
          here : (t : Bool)
              → Alike (pick t (write (get_or xs position []) room) (record { answer = refused 3; room = room }))
              (pick t (write (get_or xs position []) other) (record { answer = refused 3; room = other }))
          here true = write-alike (get_or xs position [])
          here false = record { answer = refl; front = refl }

-- ---- the rows of a batch

-- a row, and the answer row in its place; past the last one, a row of kind 0, and its answer
module _ (s : Bytes) where
  module _ (buffer : Bytes) (rows : List Row) (answers : List Answer) (ok : (batch s buffer rows answers).answer.code ≡ 0) (i : ℕ) where
    row_is : answer_at (batch s buffer rows answers) i ≡ row_answer (opened s) buffer (row_at rows i)
    unfolding row_answer
    row_is =
        ap (λ (l : List Answer). get_or l i (refused 11)) (batch-rows s buffer rows answers ok)
        ∙ get_or-map (row_answer (opened s) buffer) rows i (record { kind = 0; start = 0; size = 0 })

    pub batch-alone : answer_at (batch s buffer rows answers) i
        ≡ pick (good_row buffer (row_at rows i)) (question (row_at rows i).kind s (span_of buffer (row_at rows i))) (refused 11)
    unfolding question row_answer
    batch-alone = row_is

  -- another call on the same book, with a buffer of the same length, in which row j is row i, with the same bytes
  pub batch-regardless : (buffer other : Bytes) (rows others : List Row) (answers places : List Answer) → (batch s buffer rows answers).answer.code ≡ 0 → (batch s other others places).answer.code ≡ 0
      → (i j : ℕ) → row_at rows i ≡ row_at others j → length buffer ≡ length other → span_of buffer (row_at rows i) ≡ span_of other (row_at rows i)
      → answer_at (batch s buffer rows answers) i ≡ answer_at (batch s other others places) j
  unfolding row_answer
  batch-regardless buffer other rows others answers places ok fine i j same size bytes =
      let r = row_at rows i in
      row_is buffer rows answers ok i
      ∙ ap₂ (λ (n : ℕ) (q : Bytes). pick (both (both (leb 1 r.kind) (leb r.kind last_kind)) (leb (r.start + r.size) n)) (question_of r.kind q (opened s)) (refused 11)) size bytes
      ∙ ap (row_answer (opened s) other) same ∙ sym (row_is other others places fine j)
