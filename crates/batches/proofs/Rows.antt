-- How a batch opens and what a row gets, by the ways that the functions go.
--     crowded, unsound-opens, sound-opens      too many rows, or unequal numbers; no book; a book
--     row-refused, row-answered  a row that can't be asked, and one that can
-- Assumes nothing.
use Prim.Native.Nat.{ℕ, ◌+◌, ◌-◌, ◌≤◌}
use native.Mathlib.Omega.{arith}
use mathlib.Core.Path.{◌≡◌, ◌∙◌, ap, refl, sym}
use mathlib.Core.Bool.{Bool, false, true}
use lib.Dec.{eqb, leb}
use lib.ListN.{drop, take}
use Rattle.std.proofs.Common.{Some, None, Err, Ok}
use borrow.Author.Tests.{eq-eqb, eqb-true, le-leb, leb-true}
use Rattle.words.specs.Words.{Bytes}
use Rattle.words.proofs.Words.{both_true}
use Rattle.format.specs.Book.{Book, NoBook, Opened, opened}
use Rattle.format.specs.Outcomes.{given, refused}
use Rattle.answers.specs.Calls.{Row as Question, question, question_of, row_answer}
use Rattle.answers.specs.Counts.{Counted as Looked, counted_question}
use Rattle.answers.proofs.Calls.{GoodRow, row-bad, row-good}
use Rattle.answers.proofs.Counts.{counted-answer}
use Rattle.trailer.specs.declared.Trailer.{Trailer}
use Rattle.accept.specs.Parts.{check_on}
use Rattle.accept.proofs.Judging.{no-book, sound≠unsound}
use Rattle.refusals.specs.Refusals.{said}
use Rattle.refusals.specs.declared.Refusal.TheVariants.{BadBatch, BadRow, NoBook as NoBookHere}
use Rattle.shapes.specs.Endings.{outcome}
use Rattle.batches.specs.Batches.{opening_of, takes_rows}

-- ---- how a batch opens

module _ (b : Bytes) (rows places : ℕ) where
  pub crowded : (rows ≤ 64 → rows ≡ places → ⊥) → outcome (Err BadBatch) ≡ opening_of rows (takes_rows rows places) (opened b)
  unfolding opening_of
  crowded h = go (takes_rows rows places) refl (opened b)
    where
      go : (t : Bool) → takes_rows rows places ≡ t → (o : Opened) → refused 12 ≡ opening_of rows t o
      go true p o = let f = both_true (leb rows 64) (eqb rows places) p in absurd (h (leb-true rows 64 f.0) (eqb-true rows places f.1))
      go false p NoBook = refl
      go false p (Book κ k xs) = refl

  module _ (few : rows ≤ 64) (equal : rows ≡ places) where
    taken : opening_of rows (takes_rows rows places) (opened b) ≡ opening_of rows true (opened b)
    taken = rw (le-leb rows 64 few, eq-eqb rows places equal) refl

    pub unsound-opens : None ≡ check_on b (opened b) → outcome (Err NoBookHere) ≡ opening_of rows (takes_rows rows places) (opened b)
    unfolding opening_of
    unsound-opens s = sym (taken ∙ ap (opening_of rows true) (no-book b None s refl))

    pub sound-opens : (t : Trailer) → Some t ≡ check_on b (opened b) → outcome (Ok rows) ≡ opening_of rows (takes_rows rows places) (opened b)
    unfolding opening_of check_on
    sound-opens t s = go (opened b) s ∙ sym taken
      where
        go : (o : Opened) → Some t ≡ check_on b o → given rows 0 ≡ opening_of rows true o
        go NoBook q = absurd (sound≠unsound q)
        go (Book κ j xs) q = refl

-- ---- what a row gets

module _ (b buffer : Bytes) (row : Question) where
  pub row-refused : (GoodRow buffer row → ⊥) → said BadRow ≡ row_answer (opened b) buffer row
  row-refused h = sym (row-bad (opened b) buffer row h)

  -- its bytes are those from start up to start plus length
  pub row-answered : GoodRow buffer row → {looked : Looked} → looked ≡ counted_question row.kind b (take (row.start + row.size - row.start) (drop row.start buffer))
      → looked.answer ≡ row_answer (opened b) buffer row
  unfolding question
  row-answered h {looked} e =
      let size : row.start + row.size - row.start ≡ row.size = omega arith in
      ap (λ (l : Looked). l.answer) e ∙ counted-answer _ _ _
      ∙ ap (λ (n : ℕ). question_of row.kind (take n (drop row.start buffer)) (opened b)) size ∙ sym (row-good (opened b) buffer row h)
