-- Document 02, CR 10, 'Columns instead of records': books by columns. What is said of a kind of book (Books, Lists, Questions, Counts, Calls) holds of
-- them by the same text; here is what two kinds have in common that differ in the form of their table and in their mark.
--     same_size, same-fits     two books of one list are equally long, and one fits where the other does
--     turned-book       a book of the one kind becomes the very book of the other
--     turned-back       and back, the same book
--     turned-answer, turned-counted, turned-batch     both give the same answers, look equally far, and fill a batch's rows alike
--     converted-iff     a book is turned just where it is one of the kind that is asked for, and the room holds it
--     convert-settles   two results that the call's statement allows coincide
--     turned-met, example-turned     on the document's book by two all that is asked of a book that is turned holds; that book turned, and turned back
-- Assumes nothing.
use Prim.Native.Nat.{ℕ, ◌+◌, ◌*◌, ◌≤◌}
use native.Mathlib.Omega.{arith}
use mathlib.Core.Path.{◌≡◌, refl, sym, ap, ap₂, ◌∙◌, subst}
use mathlib.Core.Logic.{◌↔◌, inl, inr}
use mathlib.Core.Bool.{Bool, true}
use mathlib.Core.List.{List, ◌++◌, map}
use lib.Dec.{eqb, leb}
use lib.ListN.{drop, length, take}
use lib.Seq.{take-append_seam}
use borrow.Author.Tests.{leb-true}
use Rattle.words.specs.Words.{Bytes, InBytes, Rule, begins, both, less, pick, same, shared, word}
use Rattle.words.proofs.Words.{apart}
use Rattle.format.specs.Kinds.{BookKind, ColumnBook, PlainBook, count_in, form_of, rule_of}
use Rattle.format.specs.Nodes.{all_fields, depth, glue, groups, node_size, row_by, table, table_within}
use Rattle.format.specs.Book.{Book, NoBook, Opened, block_part, book, book_by, entry_part, fits, fits_by, is_book_by, joined, names_of, number, numbers, opened, trailer}
use Rattle.format.specs.Columns.{columns}
use Rattle.format.specs.Entries.{blocks, blocks_from, decode, decode_from, entry, front, offsets}
use Rattle.format.specs.Example.{example, example_by2, text}
use Rattle.format.specs.Outcomes.{Answer, Written, given, over, refused}
use Rattle.format.specs.Records.{rising, sound}
use Rattle.format.specs.Spans.{node_table}
use Rattle.format.specs.Widths.{widest}
use Rattle.format.proofs.Book.{book-length, book-opened, fits-parts, node-length, node-number, opened-book, parts-fits}
use Rattle.format.proofs.BookKinds.{kind-layout}
use Rattle.answers.specs.Calls.{Batched, Row, batch, batch_of, good_row, names_answer, question, question_of, row_answer}
use Rattle.answers.specs.Converting.{converted}
use Rattle.answers.specs.Counts.{counted_of, counted_question, entries, names_counted, visits}
use Rattle.answers.specs.Lit.{lit, may_end}
use Rattle.answers.specs.Questions.{answer, ask, child_of, count, exact, exact_from, reach_within, reached}
use Rattle.answers.proofs.AllRefusals.{columns_by2, lent_room}
use Rattle.answers.proofs.Converting.{convert-other, convert-short, convert-unsound, convert-written, one-kind}
use Rattle.theorems.specs.Demands.{BookOf}
use Rattle.theorems.proofs.Books.{accepted-iff}
use Rattle.theorems.proofs.Calls.{written-settles}

-- two kinds of one rule
module _ (κ μ : BookKind) (one : rule_of κ ≡ rule_of μ) where
  pub same_size : (k : ℕ) (xs : List Bytes) → length (book κ k xs) ≡ length (book μ k xs)
  same_size k xs =
      let many : count_in (form_of κ) (rule_of κ) xs ≡ count_in (form_of μ) (rule_of μ) xs =
      node-number (form_of κ) (rule_of κ) xs ∙ ap (λ (ρ : Rule). length (table (map (word ρ) xs))) one ∙ sym (node-number (form_of μ) (rule_of μ) xs) in
      omega (arith, book-length (kind-layout κ) k xs, book-length (kind-layout μ) k xs, node-length (form_of κ) (rule_of κ) xs, node-length (form_of μ) (rule_of μ) xs, ap (λ (m : ℕ). m * node_size) many)

  pub same-fits : (k : ℕ) (xs : List Bytes) → fits κ k xs ≡ true → fits μ k xs ≡ true
  same-fits k xs h =
      let f = fits-parts k xs h in
      parts-fits k xs (record { low = f.low; high = f.high; sound = subst (λ (ρ : Rule). sound ρ xs ≡ true) one f.sound; short = omega (arith, f.short, same_size k xs) })

  module _ (k : ℕ) (xs : List Bytes) (s : Bytes) (opens : opened s ≡ Book κ k xs) where
    pub turned-opens : opened (book μ k xs) ≡ Book μ k xs
    turned-opens = opened-book μ k xs (same-fits k xs (book-opened κ s k xs opens).0)

    as_long : length (book μ k xs) ≡ length s
    as_long = sym (same_size k xs) ∙ ap length (book-opened κ s k xs opens).1

    pub turned-book : (room : Bytes) → length s ≤ length room → converted κ μ s room ≡ record { answer = given (length s) 0; room = over (book μ k xs) room }
    turned-book room h =
        sym (convert-written κ μ s room κ k xs opens refl (omega (arith, as_long)))
        ∙ ap (λ (n : ℕ). record { answer = given n 0; room = over (book μ k xs) room }) as_long

    pub turned-counted : (kind : ℕ) (q : Bytes) → counted_question kind (book μ k xs) q ≡ counted_question kind s q
    unfolding counted_question counted_of
    turned-counted kind q = ap (counted_of kind q) turned-opens ∙ ap (λ (ρ : Rule). names_counted ρ k kind q xs) (sym one) ∙ sym (ap (counted_of kind q) opens)

    pub turned-answer : (kind : ℕ) (q : Bytes) → question kind (book μ k xs) q ≡ question kind s q
    unfolding question question_of
    turned-answer kind q = ap (question_of kind q) turned-opens ∙ ap (λ (ρ : Rule). names_answer ρ kind q xs) (sym one) ∙ sym (ap (question_of kind q) opens)

    pub turned-batch : (buffer : Bytes) (rows : List Row) (answers : List Answer) → batch (book μ k xs) buffer rows answers ≡ batch s buffer rows answers
    unfolding batch batch_of row_answer question_of
    turned-batch buffer rows answers =
        ap by turned-opens
        ∙ ap (λ (ρ : Rule). pick taken (record { answer = given (length rows) 0; rows = map (λ r. pick (good_row buffer r) (names_answer ρ r.kind (take r.size (drop r.start buffer)) xs) (refused 11)) rows }) crowded) (sym one)
        ∙ sym (ap by opens)
      where
        taken : Bool
        taken = both (leb (length rows) 64) (eqb (length rows) (length answers))

        crowded : Batched
        crowded = record { answer = refused 12; rows = answers }

        by : Opened → Batched
        by o = pick taken (batch_of buffer rows answers o) crowded

-- and back
pub turned-back : (κ μ : BookKind) → rule_of κ ≡ rule_of μ → (k : ℕ) (xs : List Bytes) (s : Bytes) → opened s ≡ Book κ k xs → (room other : Bytes) → length s ≤ length room → length s ≤ length other
    → let w = converted κ μ s room in converted μ κ (take w.answer.first w.room) other ≡ record { answer = given (length s) 0; room = over s other }
turned-back κ μ one k xs s opens room other h j =
    ap (λ (w : Written). converted μ κ (take w.answer.first w.room) other) (turned-book κ μ one k xs s opens room h) ∙ ap (λ (t : Bytes). converted μ κ t other) front
    ∙ turned-book μ κ (sym one) k xs (book μ k xs) (turned-opens κ μ one k xs s opens) other (omega (arith, long))
    ∙ ap₂ (λ (n : ℕ) (t : Bytes). record { answer = given n 0; room = over t other }) long (book-opened κ s k xs opens).1
  where
    long : length (book μ k xs) ≡ length s
    long = as_long κ μ one k xs s opens

    front : take (length s) (over (book μ k xs) room) ≡ book μ k xs
    front = ap (λ (n : ℕ). take n (over (book μ k xs) room)) (sym long) ∙ take-append_seam (book μ k xs) (drop (length (book μ k xs)) room)

-- a book is turned just where it is one of the kind that is asked for, and the room holds it
pub converted-iff : (κ μ : BookKind) → rule_of κ ≡ rule_of μ → (s room : Bytes) → InBytes s
    → ((converted κ μ s room).answer.code ≡ 0) ↔ ((k : ℕ) × (xs : List Bytes) × BookOf κ s k xs × (length s ≤ length room))
converted-iff κ μ one s room bytes = (λ h. there (opened s) refl h, λ b. ap (λ (w : Written). w.answer.code) (turned-book κ μ one b.0 b.1 s ((accepted-iff κ s b.0 b.1).1 b.2).1 room b.3))
  where
    there : (o : Opened) → opened s ≡ o → (converted κ μ s room).answer.code ≡ 0 → (k : ℕ) × (xs : List Bytes) × BookOf κ s k xs × (length s ≤ length room)
    there NoBook e h = absurd (let two : (converted κ μ s room).answer.code ≡ 2 = ap (λ (w : Written). w.answer.code) (sym (convert-unsound κ μ s room e)) in omega arith)
    there (Book ν k xs) e h = elim (one-kind ν κ) [
      | inr d ↦ absurd (let two : (converted κ μ s room).answer.code ≡ 2 = ap (λ (w : Written). w.answer.code) (sym (convert-other κ μ s room ν k xs e d.0)) in omega arith)
      | inl q ↦
          let own : opened s ≡ Book κ k xs = e ∙ ap (λ (x : BookKind). Book x k xs) q in
          elim (apart (length room) (length s)) [
            | inl short ↦ absurd (let four : (converted κ μ s room).answer.code ≡ 4 = ap (λ (w : Written). w.answer.code) (sym (convert-short κ μ s room κ k xs own refl (omega (arith, short, as_long κ μ one k xs s own)))) in omega arith)
            | inr enough ↦ (k, xs, (accepted-iff κ s k xs).0 (bytes, own), enough)
          ]
    ]

pub convert-settles : (κ μ : BookKind) (s room : Bytes) (a b : Written) → a ≡ converted κ μ s room → b ≡ converted κ μ s room → (a.answer ≡ b.answer) × (a.room ≡ b.room)
convert-settles κ μ s room a b = written-settles (converted κ μ s room) a b

-- ---- the premises can be met

-- what is asked of two kinds and of a book of either kind holds of the document's book by two and of its column book, which give the same to a question
pub turned-met : (rule_of PlainBook ≡ rule_of ColumnBook) × (opened example_by2 ≡ Book PlainBook 2 example) × (opened columns_by2 ≡ Book ColumnBook 2 example) × (book ColumnBook 2 example ≡ columns_by2)
    × (counted_question 1 columns_by2 (text "Marina") ≡ record { answer = given 1 1; visits = 2; entries = 2 })
unfolding shared less begins same depth glue groups widest row_by table_within node_table table numbers joined entry blocks_from front blocks offsets entry_part block_part all_fields columns trailer book_by decode_from decode number rising sound fits_by names_of is_book_by opened child_of reach_within reached count exact_from exact ask may_end lit answer names_answer visits entries names_counted counted_of counted_question
turned-met = (refl, refl, refl, refl, refl)

-- into a room that has three bytes more, and from there into one that has two bytes more
pub example-turned : let w = converted PlainBook ColumnBook example_by2 (lent_room 96) in
    (w ≡ record { answer = given 93 0; room = columns_by2 ++ lent_room 3 }) × (converted ColumnBook PlainBook (take w.answer.first w.room) (lent_room 95) ≡ record { answer = given 93 0; room = example_by2 ++ lent_room 2 })
example-turned =
    let enough : (n : ℕ) → leb 93 n ≡ true → 93 ≤ n = leb-true 93 in (
      turned-book PlainBook ColumnBook refl 2 example example_by2 turned-met.1 (lent_room 96) (enough 96 refl) ∙ ap (λ (s : Bytes). record { answer = given 93 0; room = over s (lent_room 96) }) turned-met.3,
      turned-back PlainBook ColumnBook refl 2 example example_by2 turned-met.1 (lent_room 96) (lent_room 95) (enough 96 refl) (enough 95 refl),
    )
