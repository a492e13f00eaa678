-- How a batch goes, by the ways that its parts go. How it opens and what a row gets is in the crate batches.
--     no_row, turned              what stands for a row past the last; what turn number i stores
--     opening-accepts            what an opening that refuses nothing has shown
--     batch-refused, batch-answered      the call's equation, where the opening refuses and where it doesn't
--     said-refused, said-accepts, said-answered      the same three, by what `open_batch` says of its answer
-- Assumes nothing.
use Prim.Native.Nat.{ℕ}
use native.Mathlib.Nat.{lt_irrefl}
use native.Mathlib.Omega.{arith}
use mathlib.Core.Path.{◌≡◌, ◌∙◌, ap, ap₂, refl, sym}
use mathlib.Core.Bool.{Bool, false, true}
use mathlib.Core.List.{List, map, map-map}
use lib.Dec.{eqb, leb}
use lib.ListN.{get_or-map, get_or, length, length-map}
use borrow.Author.Tests.{eqb-true}
use Rattle.words.specs.Words.{Bytes, pick}
use Rattle.words.proofs.Words.{both_true}
use Rattle.format.specs.Book.{Book, NoBook, Opened, opened}
use Rattle.format.specs.Outcomes.{Answer as Numbers, given, refused}
use Rattle.answers.specs.Calls.{Batched, batch, batch_of, row_answer}
use Rattle.trailer.specs.Trailer.{trailer_in}
use Rattle.accept.specs.Parts.{check_on}
use Rattle.shapes.specs.Shapes.{answered, row_of, batched}
use Rattle.shapes.specs.declared.Answer.{Answer}
use Rattle.shapes.specs.declared.Row.{Row}
use Rattle.shapes.proofs.Shapes.{answer_of}
use Rattle.refusals.specs.Refusals.{said}
use Rattle.refusals.specs.declared.Refusal.{Refusal}
use Rattle.refusals.proofs.Codes.{refusal-some}
use Rattle.questions.specs.Asking.{Accepted}
use Rattle.batches.specs.Batches.{opening_of, takes_rows}
use Rattle.book.proofs.Filling.{filled, filled-all}

-- ---- the rows

-- what stands for a row past the last
abbrev pub no_row : Row
no_row = record { kind = 0; start = 0; length = 0 }

-- ---- the call

-- what `answer_row` gives, and what `open_batch` gives
abbrev pub gets : Bytes → Bytes → Row → Answer
gets b buffer row = answer_of (row_answer (opened b) buffer (row_of row))

abbrev pub turned : Bytes → Bytes → List Row → ℕ → Answer
turned b buffer rows i = gets b buffer (get_or rows i no_row)

abbrev pub opening : Bytes → List Row → List Answer → Answer
opening b rows old = answer_of (opening_of (length rows) (takes_rows (length rows) (length old)) (opened b))

module _ (b buffer : Bytes) (rows : List Row) (old : List Answer) where
  abbrev outcome : Batched
  outcome = batch b buffer (map row_of rows) (map answered old)

  -- the outcome by whether the rows are taken
  abbrev decided : Bool → Opened → Batched
  decided t o = pick t (batch_of buffer (map row_of rows) (map answered old) o) (record { answer = refused 12; rows = map answered old })

  decides : outcome ≡ decided (takes_rows (length rows) (length old)) (opened b)
  unfolding batch
  decides = rw (length-map rows row_of, length-map old answered) refl

  pub batch-refused : ((opening b rows old).code ≡ 0 → ⊥) → batched (opening b rows old) old ≡ outcome
  unfolding batch_of opening_of
  batch-refused ne = go (takes_rows (length rows) (length old)) (opened b) ne ∙ sym decides
    where
      go : (t : Bool) (o : Opened) → ((opening_of (length rows) t o).code ≡ 0 → ⊥) → batched (answer_of (opening_of (length rows) t o)) old ≡ decided t o
      go false NoBook h = refl
      go false (Book κ k xs) h = refl
      go true NoBook h = refl
      go true (Book κ k xs) h = absurd (h refl)

  pub opening-accepts : (opening b rows old).code ≡ 0 → Accepted b × (length rows ≡ length old)
  unfolding opening_of check_on
  opening-accepts z = go (takes_rows (length rows) (length old)) refl (opened b) refl z
    where
      go : (t : Bool) → takes_rows (length rows) (length old) ≡ t → (o : Opened) → opened b ≡ o → (opening_of (length rows) t o).code ≡ 0 → Accepted b × (length rows ≡ length old)
      go false p NoBook q e = absurd (omega (arith, e))
      go false p (Book κ k xs) q e = absurd (omega (arith, e))
      go true p NoBook q e = absurd (omega (arith, e))
      go true p (Book κ k xs) q e = (record { trailer = trailer_in b; checked = sym (ap (check_on b) q) }, eqb-true (length rows) (length old) (both_true (leb (length rows) 64) (eqb (length rows) (length old)) p).1)

  pub batch-answered : (opening b rows old).code ≡ 0 → batched (opening b rows old) (filled (turned b buffer rows) old (length rows)) ≡ outcome
  unfolding batch_of opening_of
  batch-answered z = go (takes_rows (length rows) (length old)) (opened b) refl z ∙ sym decides
    where
      all-filled : filled (turned b buffer rows) old (length rows) ≡ map (gets b buffer) rows
      all-filled =
          let as_many : length (map (gets b buffer) rows) ≡ length rows = length-map rows (gets b buffer) in
          ap (filled (turned b buffer rows) old) (sym as_many)
          ∙ filled-all (turned b buffer rows) old (gets b buffer no_row) (map (gets b buffer) rows) (as_many ∙ (opening-accepts z).1) (λ i lt. sym (get_or-map (gets b buffer) rows i no_row))

      answers : (o : Opened) → opened b ≡ o → map answered (filled (turned b buffer rows) old (length rows)) ≡ map (row_answer o buffer) (map row_of rows)
      answers o q =
          ap (map answered) all-filled ∙ map-map answered (gets b buffer) rows
          ∙ ap (λ (x : Opened). map (λ (row : Row). row_answer x buffer (row_of row)) rows) q ∙ sym (map-map (row_answer o buffer) row_of rows)

      go : (t : Bool) (o : Opened) → opened b ≡ o → (opening_of (length rows) t o).code ≡ 0
          → batched (answer_of (opening_of (length rows) t o)) (filled (turned b buffer rows) old (length rows)) ≡ decided t o
      go false NoBook q e = absurd (omega (arith, e))
      go false (Book κ k xs) q e = absurd (omega (arith, e))
      go true NoBook q e = absurd (omega (arith, e))
      go true (Book κ k xs) q e = ap₂ (λ (n : ℕ) (l : List Numbers). record { answer = given n 0; rows = l }) (sym (length-map rows row_of)) (answers (Book κ k xs) q)

  -- ---- the same, by what `open_batch` says

  pub said-refused : (e : Refusal) → said e ≡ opening_of (length rows) (takes_rows (length rows) (length old)) (opened b) → {r : Answer} → answered r ≡ said e → batched r old ≡ outcome
  said-refused e is {r} f =
      let opens-so : r ≡ opening b rows old = ap answer_of (f ∙ is) in
      let some : (opening b rows old).code ≡ 0 → ⊥ = λ z. lt_irrefl 0 (omega (arith, refusal-some e, ap (λ (a : Numbers). a.code) is)) in
      ap (λ (a : Answer). batched a old) opens-so ∙ batch-refused some

  module _ {n : ℕ} (is : given n 0 ≡ opening_of (length rows) (takes_rows (length rows) (length old)) (opened b)) where
    taken : (opening b rows old).code ≡ 0
    taken = sym (ap (λ (a : Numbers). a.code) is)

    pub said-accepts : Accepted b × (length rows ≡ length old)
    said-accepts = opening-accepts taken

    pub said-answered : {r : Answer} → answered r ≡ given n 0 → batched r (filled (turned b buffer rows) old (length rows)) ≡ outcome
    said-answered {r} f =
        let opens-so : r ≡ opening b rows old = ap answer_of (f ∙ is) in
        ap (λ (a : Answer). batched a (filled (turned b buffer rows) old (length rows))) opens-so ∙ batch-answered taken
