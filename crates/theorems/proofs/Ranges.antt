-- The range of a question, by names, of any call that answers as some names do (range is kind 3).
--     names-answer, layout-answers, book-answers     the names by themselves do; so do those that a book by any layout tells; and so does the public call on every accepted book
--     asks              what a question that is not refused gets
--     InRange, begun, in-range     a position in the range: its name begins with the question; and the other way round
-- Assumes nothing.
use Prim.Native.Nat.{ℕ, ◌+◌, ◌≤◌, ◌<◌}
use native.Mathlib.Nat.{lt_irrefl}
use native.Mathlib.Omega.{arith}
use mathlib.Core.Path.{◌≡◌, refl, sym, ap, ap₂, ◌∙◌}
use mathlib.Core.Bool.{true}
use mathlib.Core.List.{List, [], map}
use lib.Dec.{leb, ltb}
use lib.ListN.{get_or, length, length-map}
use borrow.Author.Tests.{le-leb, leb-true, lt-ltb, ltb-true}
use Rattle.words.specs.Words.{Bytes, Rule, begins, both, word}
use Rattle.words.proofs.Words.{both_true}
use Rattle.format.specs.Kinds.{BookKind, Form, rule_of}
use Rattle.format.specs.Layout.{Layout}
use Rattle.format.specs.Book.{Book, names_of, opened}
use Rattle.format.specs.Outcomes.{Answer, given}
use Rattle.format.specs.Records.{longest, sound}
use Rattle.format.proofs.Book.{book-opened, fits-parts}
use Rattle.answers.specs.Calls.{names_answer, question, question_of}
use Rattle.answers.specs.Questions.{answer, ask, range}
use Rattle.answers.proofs.Calls.{question-given}
use Rattle.answers.proofs.Places.{range-le}
use Rattle.theorems.specs.Layouts.{AllLettered, Answers, BookBy}
use Rattle.theorems.proofs.Books.{book-fits, layout-iff}
use Rattle.theorems.proofs.Lettered.{kind-names, lawful-names}
use Rattle.theorems.proofs.Questions.{range-is}

-- the names by themselves
pub names-answer : (ρ : Rule) (xs : List Bytes) → AllLettered ρ xs → sound ρ xs ≡ true → Answers ρ xs (λ kind q. names_answer ρ kind q xs)
names-answer ρ xs letters is = record { letters = letters; sound = is; is = λ kind q. refl }

-- the names that a book tells, by any lawful rule, form of table and mark
pub layout-answers : {ρ : Rule} {f : Form} {mark : Bytes} → Layout ρ f mark → {s : Bytes} {k : ℕ} {xs : List Bytes} → BookBy ρ f mark s k xs → Answers ρ xs (λ kind q. names_answer ρ kind q (names_of s))
layout-answers {ρ} y {s} {k} {xs} b =
    record { letters = lawful-names ρ y.lawful xs b.letters; sound = (fits-parts k xs (book-fits y b)).sound; is = λ kind q. ap (names_answer ρ kind q) ((layout-iff y s k xs).1 b).3 }

-- an accepted book, of every kind
pub book-answers : (κ : BookKind) (s : Bytes) (k : ℕ) (xs : List Bytes) → opened s ≡ Book κ k xs → Answers (rule_of κ) xs (λ kind q. question kind s q)
unfolding question question_of
book-answers κ s k xs opens = record { letters = kind-names κ xs; sound = (fits-parts k xs (book-opened κ s k xs opens).0).sound; is = λ kind q. ap (question_of kind q) opens }

module _ {ρ : Rule} {xs : List Bytes} {call : ℕ → Bytes → Answer} (a : Answers ρ xs call) where
  module _ (q : Bytes) (short : length q ≤ longest) where
    pub asks : (kind : ℕ) → (kind ≡ 4 → ⊥) → call kind q ≡ given (answer ρ kind q xs).0 (answer ρ kind q xs).1
    asks kind n = a.is kind q ∙ sym (question-given ρ kind q xs short (λ e z. n e) (answer ρ kind q xs) refl)

    range-given : call 3 q ≡ given (answer ρ 3 q xs).0 (answer ρ 3 q xs).1
    range-given = asks 3 (λ e. lt_irrefl 3 (omega arith))

    from_is : (call 3 q).first ≡ (answer ρ 3 q xs).0
    from_is = ap (λ (b : Answer). b.first) range-given

    pub count-is : (call 3 q).second ≡ (answer ρ 3 q xs).1
    count-is = ap (λ (b : Answer). b.second) range-given

    pub record InRange (i : ℕ) : Type 0 where
      pub low : (call 3 q).first ≤ i
      pub high : i < (call 3 q).first + (call 3 q).second

    -- every position of the range is a name's
    pub range-names : (i : ℕ) → InRange i → i < length xs
    unfolding answer ask range
    range-names i r = omega (arith, r.high, from_is, count-is, range-le (word ρ q) (map (word ρ) xs), length-map xs (word ρ))

    -- a name begins with the question just where it stands in the range
    pub begun : (i : ℕ) → InRange i → begins (word ρ q) (word ρ (get_or xs i [])) ≡ true
    begun i r =
        range-is ρ xs a.letters a.sound q i (range-names i r)
        ∙ ap₂ both (le-leb (answer ρ 3 q xs).0 i (omega (arith, from_is, r.low))) (lt-ltb i ((answer ρ 3 q xs).0 + (answer ρ 3 q xs).1) (omega (arith, from_is, count-is, r.high)))

    pub in-range : (i : ℕ) → i < length xs → begins (word ρ q) (word ρ (get_or xs i [])) ≡ true → InRange i
    in-range i l h =
        let b = both_true (leb (answer ρ 3 q xs).0 i) (ltb i ((answer ρ 3 q xs).0 + (answer ρ 3 q xs).1)) (sym (range-is ρ xs a.letters a.sound q i l) ∙ h) in
        record {
          low = omega (arith, leb-true (answer ρ 3 q xs).0 i b.0, from_is);
          high = omega (arith, ltb-true i ((answer ρ 3 q xs).0 + (answer ρ 3 q xs).1) b.1, from_is, count-is);
        }
