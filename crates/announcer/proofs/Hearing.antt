-- What one batch of three rows tells of a book and a text.
--     none, asked       an answer row before it; its rows
--     hears, hears-nothing      what stands in its answer rows afterwards; where the bytes are no book
-- Assumes nothing.
use Prim.Native.Nat.{ℕ, ◌≤◌}
use native.Mathlib.Nat.{lt_irrefl}
use native.Mathlib.Omega.{arith}
use mathlib.Core.Path.{◌≡◌, refl, sym, ap, ◌∙◌}
use mathlib.Core.List.{List, [], ◌∷◌, map}
use lib.ListN.{get_or-map, get_or, length, replicate, take}
use lib.Seq.{take-length}
use Rattle.words.specs.Words.{Bytes}
use Rattle.format.specs.Book.{Book, NoBook, Opened, opened}
use Rattle.format.specs.Outcomes.{Answer as Numbers, check_of}
use Rattle.answers.specs.Calls.{Batched, batch, batch_of, check, question, question_of, row_answer}
use Rattle.answers.proofs.Announcing.{whole-range}
use Rattle.answers.proofs.Calls.{row-good}
use Rattle.shapes.specs.Shapes.{answered, batched, row_of}
use Rattle.shapes.specs.declared.Answer.{Answer}
use Rattle.shapes.specs.declared.Row.{Row}
use Rattle.announcer.specs.Asking.{Hears}

abbrev pub none : Answer
none = record { code = 0; first = 0; second = 0 }

-- the range of nothing; exact and range of a text of n bytes
abbrev pub row : ℕ → ℕ → Row
row kind n = record { kind = kind; start = 0; length = n }

abbrev pub asked : ℕ → List Row
asked n = row 3 0 ∷ row 1 n ∷ row 3 n ∷ []

module _ (s text : Bytes) where
  -- what a row of the text's first n bytes gets
  gets : (o : Opened) → opened s ≡ o → (kind n : ℕ) → 1 ≤ kind → kind ≤ 5 → n ≤ length text → row_answer o text (row_of (row kind n)) ≡ question kind s (take n text)
  unfolding question
  gets o p kind n low high within =
      row-good o text (row_of (row kind n)) (record { low = low; high = high; within = omega arith }) ∙ ap (question_of kind (take n text)) (sym p)

  whole : (kind : ℕ) → question kind s (take (length text) text) ≡ question kind s text
  whole kind = ap (question kind s) (take-length text)

  pub hears : (a : Answer) (zs : List Answer) → batched a zs ≡ batch s text (map row_of (asked (length text))) (map answered (replicate 3 none)) → a.code ≡ 0
      → Hears s text (record { names = (get_or zs 0 none).second; exact = get_or zs 1 none; range = get_or zs 2 none })
  unfolding batch batch_of check check_of
  hears a zs e z = go (opened s) refl e
    where
      -- the answer rows, read as numbers
      at : (i : ℕ) (b : Batched) → batched a zs ≡ b → answered (get_or zs i none) ≡ get_or b.rows i (answered none)
      at i b f = sym (get_or-map answered zs i none) ∙ ap (λ (x : Batched). get_or x.rows i (answered none)) f

      go : (o : Opened) → opened s ≡ o → batched a zs ≡ batch_of text (map row_of (asked (length text))) (map answered (replicate 3 none)) o
          → Hears s text (record { names = (get_or zs 0 none).second; exact = get_or zs 1 none; range = get_or zs 2 none })
      go NoBook p f = let code : a.code ≡ 2 = ap (λ (b : Batched). b.answer.code) f in absurd (lt_irrefl 0 (omega arith))
      go (Book κ k xs) p f =
          let sound : (check s).code ≡ 0 = ap (λ (o : Opened). (check_of o).code) p in
          let every : (get_or zs 0 none).second ≡ (question 3 s []).second = ap (λ (n : Numbers). n.second) (at 0 _ f ∙ gets _ p 3 0 (omega arith) (omega arith) (omega arith)) in
          record {
            told = record { sound = sound; names = every ∙ whole-range s sound };
            exact = at 1 _ f ∙ gets _ p 1 (length text) (omega arith) (omega arith) (omega arith) ∙ whole 1;
            range = at 2 _ f ∙ gets _ p 3 (length text) (omega arith) (omega arith) (omega arith) ∙ whole 3;
          }

  pub hears-nothing : (a : Answer) (zs : List Answer) → batched a zs ≡ batch s text (map row_of (asked (length text))) (map answered (replicate 3 none)) → (a.code ≡ 0 → ⊥) → (check s).code ≡ 0 → ⊥
  unfolding batch batch_of check check_of
  hears-nothing a zs e n = go (opened s) e
    where
      go : (o : Opened) → batched a zs ≡ batch_of text (map row_of (asked (length text))) (map answered (replicate 3 none)) o → (check_of o).code ≡ 0 → ⊥
      go NoBook f z = lt_irrefl 0 (omega arith)
      go (Book κ k xs) f z = n (ap (λ (b : Batched). b.answer.code) f)
