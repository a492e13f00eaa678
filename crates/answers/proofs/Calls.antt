-- Laws of the public calls, for those who call them.
--     build-within      the bytes that an accepted build counts stand in the room
--     read-within       the bytes that a read counts stand in the room; a refused one counts none
--     build-kept, read_kept, batch-kept     a refused call changes nothing; another one nothing behind the bytes that it counts
--     question-long, question-none, question-given      1 before 10; 10; what the list answers
--     GoodRow, row-good, row-bad     a batch row that can be asked: what it gets, and what another gets
--     batch-rows        every row of an accepted batch gets its own answer
-- Assumes nothing.
use Prim.Native.Nat.{ℕ, ◌+◌, ◌≤◌, ◌<◌}
use native.Mathlib.Omega.{arith}
use mathlib.Core.Path.{◌≡◌, refl, sym, ap, ◌∙◌}
use mathlib.Core.Bool.{Bool, true, false}
use mathlib.Core.List.{List, [], map}
use lib.Dec.{eqb, leb, ltb}
use lib.ListN.{length, drop, get_or, length-append, take}
use borrow.Author.Tests.{eq-eqb, eqb-true, le-leb, leb-true, lt-leb}
use Rattle.words.specs.Words.{Bytes, Rule, both, pick}
use Rattle.words.proofs.Words.{both_true}
use Rattle.format.specs.Kinds.{BookKind, Form, form_of, mark_of, rule_of}
use Rattle.format.specs.Records.{Names, Reading, Refused, longest, most_names, read_list}
use Rattle.format.specs.Book.{Book, NoBook, Opened, book_by, good_block, longest_book, opened}
use Rattle.format.proofs.Outcomes.{Kept, picked, same_kept, write_kept}
use Rattle.format.proofs.Records.{read-refused}
use Rattle.format.specs.Outcomes.{Answer, Written, given, refused, write}
use Rattle.answers.specs.Calls.{Batched, Row, batch, batch_of, build, build_by, built_from, good_row, names_answer, question_of, read_back, read_back_of, row_answer}
use Rattle.answers.specs.Widths.{last_kind}
use Rattle.answers.specs.Questions.{Pair, answer}

-- ---- what the numbers count

-- where the code is 0, the number counts bytes that stand in the room
abbrev pub FirstWithin : Written → Type 0
FirstWithin w = w.answer.code ≡ 0 → w.answer.first ≤ length w.room

-- the number counts bytes that stand in the room
abbrev CountWithin : Written → Type 0
CountWithin w = w.answer.first ≤ length w.room

pub write-within : (room out : Bytes) → CountWithin (write out room)
write-within room out = picked CountWithin (leb (length out) (length room)) (simp length-append (omega arith)) (omega arith)

module _ (ρ : Rule) (f : Form) (mark list : Bytes) (k : ℕ) (room : Bytes) where
  from-within : (r : Reading) → read_list ρ most_names list ≡ r → FirstWithin (built_from ρ f mark k room r)
  unfolding built_from
  from-within (Refused code i) p = λ e. absurd (omega (arith, read-refused ρ most_names list code i p))
  from-within (Names xs) p = picked FirstWithin (leb (length (book_by ρ f mark k xs)) longest_book) (λ e. write-within room (book_by ρ f mark k xs)) (λ e. absurd (omega arith))

  by-within : (w : Written) → w ≡ build_by ρ f mark list k room → FirstWithin w
  unfolding build_by
  by-within w p = rw p (picked FirstWithin (good_block k) (from-within (read_list ρ most_names list) refl) (λ e. absurd (omega arith)))

pub build-within : (κ : BookKind) (list : Bytes) (k : ℕ) (room : Bytes) (w : Written) → w ≡ build κ list k room → FirstWithin w
build-within κ list k room w p = by-within (rule_of κ) (form_of κ) (mark_of κ) list k room w p

module _ (s : Bytes) (i : ℕ) (room : Bytes) where
  read-of-within : (o : Opened) → CountWithin (read_back_of i room o)
  unfolding read_back_of
  read-of-within NoBook = omega arith
  read-of-within (Book κ k xs) = picked CountWithin (ltb i (length xs)) (write-within room (get_or xs i [])) (omega arith)

  pub read-within : (w : Written) → w ≡ read_back s i room → CountWithin w
  unfolding read_back
  read-within w p = rw p (read-of-within (opened s))

-- ---- what is left as it was

module _ (room : Bytes) where
  module _ (ρ : Rule) (f : Form) (mark : Bytes) where
    from-kept : (k : ℕ) (r : Reading) → Kept room (built_from ρ f mark k room r)
    unfolding built_from
    from-kept k (Refused code i) = same_kept room (record { code = code; first = i; second = 0 })
    from-kept k (Names xs) = picked (Kept room) (leb (length (book_by ρ f mark k xs)) longest_book) (write_kept room (book_by ρ f mark k xs)) (same_kept room (refused 9))

    by-kept : (list : Bytes) (k : ℕ) → Kept room (build_by ρ f mark list k room)
    unfolding build_by
    by-kept list k = picked (Kept room) (good_block k) (from-kept k (read_list ρ most_names list)) (same_kept room (refused 8))

  pub build-kept : (κ : BookKind) (list : Bytes) (k : ℕ) → Kept room (build κ list k room)
  build-kept κ list k = by-kept (rule_of κ) (form_of κ) (mark_of κ) list k

  read-of-kept : (i : ℕ) (o : Opened) → Kept room (read_back_of i room o)
  unfolding read_back_of
  read-of-kept i NoBook = same_kept room (refused 2)
  read-of-kept i (Book κ k xs) = picked (Kept room) (ltb i (length xs)) (write_kept room (get_or xs i [])) (same_kept room (refused 3))

  pub read_kept : (s : Bytes) (i : ℕ) → Kept room (read_back s i room)
  unfolding read_back
  read_kept s i = read-of-kept i (opened s)

-- ---- a question to a book of some names

module _ (ρ : Rule) (kind : ℕ) (q : Bytes) (xs : List Bytes) where
  -- whatever the kind, and also where there are no names
  pub question-long : longest < length q → names_answer ρ kind q xs ≡ refused 1
  unfolding names_answer
  question-long h = rw (lt-leb (length q) longest h) refl

  module _ (h : length q ≤ longest) where
    pub question-none : kind ≡ 4 → length xs ≡ 0 → names_answer ρ kind q xs ≡ refused 10
    unfolding names_answer
    question-none e z = rw (le-leb (length q) longest h, eq-eqb kind 4 e, eq-eqb (length xs) 0 z) refl

    pub question-given : (kind ≡ 4 → length xs ≡ 0 → ⊥) → (a : Pair) → a ≡ answer ρ kind q xs → given a.0 a.1 ≡ names_answer ρ kind q xs
    unfolding names_answer
    question-given n a e =
        ap (λ (p : Pair). given p.0 p.1) e ∙ sym (rw (le-leb (length q) longest h) (go (both (eqb kind 4) (eqb (length xs) 0)) refl))
      where
        go : (t : Bool) → both (eqb kind 4) (eqb (length xs) 0) ≡ t
            → pick t (refused 10) (given (answer ρ kind q xs).0 (answer ρ kind q xs).1) ≡ given (answer ρ kind q xs).0 (answer ρ kind q xs).1
        go false f = refl
        go true f =
            let b = both_true (eqb kind 4) (eqb (length xs) 0) f in
            absurd (n (eqb-true kind 4 b.0) (eqb-true (length xs) 0 b.1))

-- ---- a batch

pub record GoodRow (buffer : Bytes) (r : Row) : Type 0 where
  pub low : 1 ≤ r.kind
  pub high : r.kind ≤ last_kind
  pub within : r.start + r.size ≤ length buffer

module _ (o : Opened) (buffer : Bytes) (r : Row) where
  pub row-good : GoodRow buffer r → row_answer o buffer r ≡ question_of r.kind (take r.size (drop r.start buffer)) o
  unfolding row_answer
  row-good h = rw (le-leb 1 r.kind h.low, le-leb r.kind last_kind h.high, le-leb (r.start + r.size) (length buffer) h.within) refl

  pub row-bad : (GoodRow buffer r → ⊥) → row_answer o buffer r ≡ refused 11
  unfolding row_answer
  row-bad h = go (good_row buffer r) refl
    where
      go : (t : Bool) → good_row buffer r ≡ t → pick t (question_of r.kind (take r.size (drop r.start buffer)) o) (refused 11) ≡ refused 11
      go false p = refl
      go true p =
          let f = both_true (both (leb 1 r.kind) (leb r.kind last_kind)) (leb (r.start + r.size) (length buffer)) p in
          let g = both_true (leb 1 r.kind) (leb r.kind last_kind) f.0 in
          absurd (h (record { low = leb-true 1 r.kind g.0; high = leb-true r.kind last_kind g.1; within = leb-true (r.start + r.size) (length buffer) f.1 }))

module _ (s buffer : Bytes) (rows : List Row) (answers : List Answer) where
  abbrev OwnAnswers : Opened → Batched → Type 0
  OwnAnswers o b = b.answer.code ≡ 0 → b.rows ≡ map (row_answer o buffer) rows

  pub batch-rows : OwnAnswers (opened s) (batch s buffer rows answers)
  unfolding batch batch_of
  batch-rows = go (both (leb (length rows) 64) (eqb (length rows) (length answers))) (opened s)
    where
      go : (t : Bool) (o : Opened) → OwnAnswers o (pick t (batch_of buffer rows answers o) (record { answer = refused 12; rows = answers }))
      go true (Book κ k xs) e = refl
      go true NoBook e = absurd (omega (arith, e))
      go false (Book κ k xs) e = absurd (omega (arith, e))
      go false NoBook e = absurd (omega (arith, e))

  -- a refused one leaves the answer rows
  abbrev RowsKept : Batched → Type 0
  RowsKept b = (b.answer.code ≡ 0 → ⊥) → b.rows ≡ answers

  batch-of-kept : (o : Opened) → RowsKept (batch_of buffer rows answers o)
  unfolding batch_of
  batch-of-kept NoBook n = refl
  batch-of-kept (Book κ k xs) n = absurd (n refl)

  pub batch-kept : RowsKept (batch s buffer rows answers)
  unfolding batch
  batch-kept = picked RowsKept (both (leb (length rows) 64) (eqb (length rows) (length answers))) (batch-of-kept (opened s)) (λ n. refl)
