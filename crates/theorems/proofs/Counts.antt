-- Document 02, CR 8: how far a single question looked, told by the public calls alone. n and k are the names and the block size that the check of the
-- same bytes gives; the books of every rule are spoken of at once.
--     looked-few        an accepted question visits at most n nodes, and at most its length and 2
--     looked-some       with a name at least it visits one; it reads nearest's position modulo k, plus 1, entries, and so at most k
--     looked-alike      all kinds of one question look equally far
--     looked-refused, looked-none     a refused question looks at nothing, and so does a question to a book without names
--     looked-met        the bounds are met: of a, ab and b in blocks of two, the question a visits three nodes, and ab reads two entries
--     counted-settles, numbers-settle     two results that a call's statement allows coincide, as numbers and as the code has them
-- Assumes nothing.
use Prim.Native.Nat.{ℕ, suc, ◌+◌, ◌%◌, ◌≤◌, ◌<◌}
use native.Mathlib.Nat.{lt_irrefl, mod-lt}
use native.Mathlib.Decide.{dec_le}
use native.Mathlib.Omega.{arith}
use mathlib.Core.Path.{◌≡◌, refl, sym, ap, ◌∙◌}
use mathlib.Core.Bool.{Bool, true, false}
use mathlib.Core.List.{List, [], ◌∷◌, map}
use lib.Dec.{eqb}
use lib.ListN.{length, length-map}
use borrow.Author.Tests.{eq-eqb, ne_eqb}
use Rattle.words.specs.Rising.{Rises}
use Rattle.words.specs.Words.{Bytes, Words, begins, less, pick, same, shared, word}
use Rattle.format.specs.Kinds.{BookKind, PlainBook, rule_of}
use Rattle.format.specs.Book.{Book, NoBook, Opened, block_part, book, book_by, entry_part, fits_by, is_book_by, joined, names_of, number, numbers, opened, trailer}
use Rattle.format.specs.Entries.{blocks, blocks_from, decode, decode_from, entry, front, offsets}
use Rattle.format.specs.Nodes.{all_fields, depth, glue, groups, row_by, table, table_within}
use Rattle.format.specs.Spans.{node_table}
use Rattle.format.specs.Widths.{widest}
use Rattle.format.specs.Records.{longest, rising, sound}
use Rattle.format.specs.Outcomes.{Answer, check_of, refused}
use Rattle.format.proofs.Book.{book-opened, fits-parts}
use Rattle.format.proofs.Records.{sound-rising, symbols-rises}
use Rattle.answers.specs.Calls.{check, names_answer}
use Rattle.answers.specs.Counts.{Counted, counted_of, counted_question, entries, names_counted, visits}
use Rattle.answers.specs.Lit.{lit, may_end}
use Rattle.answers.specs.Questions.{answer, ask, child_of, count, exact, exact_from, nearest, place, range, reach_within, reached}
use Rattle.answers.specs.Widths.{width}
use Rattle.answers.proofs.Calls.{question-given, question-long}
use Rattle.answers.proofs.Counts.{entries-some, visits-few, visits-none, visits-short, visits-some}
use Rattle.shapes.specs.Shapes.{counted}
use Rattle.shapes.specs.declared.Counted.{Counted as Given}
use Rattle.shapes.proofs.Shapes.{counted-injective}
use Rattle.theorems.proofs.Lettered.{kind-names, names-symbols}

-- ---- by what was opened

-- the nodes that q visits there, and the entries that it reads
unfoldable visits_in : Bytes → Opened → ℕ
visits_in q NoBook = 0
visits_in q (Book κ k xs) = visits (word (rule_of κ) q) (map (word (rule_of κ)) xs)

unfoldable entries_in : Bytes → Opened → ℕ
entries_in q NoBook = 0
entries_in q (Book κ k xs) = entries k (word (rule_of κ) q) (map (word (rule_of κ)) xs)

abbrev Accepted : ℕ → Bytes → Opened → Type 0
Accepted kind q o = (counted_of kind q o).answer.code ≡ 0

module _ (kind : ℕ) (q : Bytes) where
  given-visits : (o : Opened) → Accepted kind q o → (counted_of kind q o).visits ≡ visits_in q o
  unfolding counted_of names_counted visits_in
  given-visits NoBook e = refl
  given-visits (Book κ k xs) e = rw (eq-eqb (names_answer (rule_of κ) kind q xs).code 0 e) refl

  given-entries : (o : Opened) → Accepted kind q o → (counted_of kind q o).entries ≡ entries_in q o
  unfolding counted_of names_counted entries_in
  given-entries NoBook e = refl
  given-entries (Book κ k xs) e = rw (eq-eqb (names_answer (rule_of κ) kind q xs).code 0 e) refl

  -- a question that is accepted is not too long, and its bytes are a book
  accepted-short : (κ : BookKind) (k : ℕ) (xs : List Bytes) → Accepted kind q (Book κ k xs) → length q ≤ longest
  unfolding counted_of names_counted
  accepted-short κ k xs e = elim (dec_le (length q) longest) [
    | yes h ↦ h
    | no h ↦
        let long : names_answer (rule_of κ) kind q xs ≡ refused 1 = question-long (rule_of κ) kind q xs (omega arith) in
        absurd (lt_irrefl 0 (omega (arith, e, ap (λ (a : Answer). a.code) long)))
  ]

-- the names of a book rise, by its rule
opened-rises : (κ : BookKind) (s : Bytes) (k : ℕ) (xs : List Bytes) → opened s ≡ Book κ k xs → Rises (map (word (rule_of κ)) xs)
opened-rises κ s k xs o =
    symbols-rises (rule_of κ) xs (names-symbols (rule_of κ) xs (kind-names κ xs)) (sound-rising (rule_of κ) xs (fits-parts k xs (book-opened κ s k xs o).0).sound)

-- nearest's position is the one that is reached
nearest-there : (κ : BookKind) (k : ℕ) (q : Bytes) (xs : List Bytes) → length q ≤ longest → 0 < length xs → (counted_of 4 q (Book κ k xs)).answer.first ≡ reached (word (rule_of κ) q) (map (word (rule_of κ)) xs)
unfolding counted_of names_counted answer ask nearest
nearest-there κ k q xs short some =
    ap (λ (a : Answer). a.first) (sym (question-given (rule_of κ) 4 q xs short (λ e z. lt_irrefl 0 (omega arith)) (answer (rule_of κ) 4 q xs) refl))

-- ---- how far

module _ (kind : ℕ) (s q : Bytes) where
  pub looked-few : (counted_question kind s q).answer.code ≡ 0 → ((counted_question kind s q).visits ≤ (check s).first) × ((counted_question kind s q).visits ≤ length q + 2)
  unfolding counted_question check check_of visits_in
  looked-few ok = go (opened s) refl ok
    where
      go : (o : Opened) → opened s ≡ o → Accepted kind q o → ((counted_of kind q o).visits ≤ (check_of o).first) × ((counted_of kind q o).visits ≤ length q + 2)
      go NoBook p e = (omega (arith, given-visits kind q NoBook e), omega (arith, given-visits kind q NoBook e))
      go (Book κ k xs) p e =
          let r = opened-rises κ s k xs p in
          let v = given-visits kind q (Book κ k xs) e in
          (omega (arith, v, visits-few (word (rule_of κ) q) (map (word (rule_of κ)) xs) r, length-map xs (word (rule_of κ))), omega (arith, v, visits-short (word (rule_of κ) q) (map (word (rule_of κ)) xs) r, length-map q (rule_of κ)))

  pub looked-some : (counted_question kind s q).answer.code ≡ 0 → 0 < (check s).first
      → (1 ≤ (counted_question kind s q).visits) × ((counted_question kind s q).entries ≡ suc ((counted_question 4 s q).answer.first % (check s).second)) × ((counted_question kind s q).entries ≤ (check s).second)
  unfolding counted_question check check_of visits_in entries_in
  looked-some ok some = go (opened s) refl ok some
    where
      go : (o : Opened) → opened s ≡ o → Accepted kind q o → 0 < (check_of o).first
          → (1 ≤ (counted_of kind q o).visits) × ((counted_of kind q o).entries ≡ suc ((counted_of 4 q o).answer.first % (check_of o).second)) × ((counted_of kind q o).entries ≤ (check_of o).second)
      go NoBook p e h = absurd (lt_irrefl 0 h)
      go (Book κ k []) p e h = absurd (lt_irrefl 0 h)
      go (Book κ k (x ∷ xs)) p e h =
          let w : List ℕ = word (rule_of κ) q in
          let ws : Words = map (word (rule_of κ)) (x ∷ xs) in
          let there : (counted_of 4 q (Book κ k (x ∷ xs))).answer.first ≡ reached w ws = nearest-there κ k q (x ∷ xs) (accepted-short kind q κ k (x ∷ xs) e) h in
          let read : (counted_of kind q (Book κ k (x ∷ xs))).entries ≡ suc (reached w ws % k) = given-entries kind q (Book κ k (x ∷ xs)) e ∙ entries-some k w ws (omega arith) in
          let low : 0 < k = omega (arith, (fits-parts k (x ∷ xs) (book-opened κ s k (x ∷ xs) p).0).low) in (
            omega (arith, given-visits kind q (Book κ k (x ∷ xs)) e, visits-some w (word (rule_of κ) x) (map (word (rule_of κ)) xs) (opened-rises κ s k (x ∷ xs) p)),
            read ∙ ap (λ (i : ℕ). suc (i % k)) (sym there),
            omega (arith, read, mod-lt (reached w ws) low),
          )

  pub looked-refused : ((counted_question kind s q).answer.code ≡ 0 → ⊥) → ((counted_question kind s q).visits ≡ 0) × ((counted_question kind s q).entries ≡ 0)
  unfolding counted_question counted_of names_counted
  looked-refused stops = go (opened s) stops
    where
      go : (o : Opened) → (Accepted kind q o → ⊥) → ((counted_of kind q o).visits ≡ 0) × ((counted_of kind q o).entries ≡ 0)
      go NoBook n = (refl, refl)
      go (Book κ k xs) n = let f = ne_eqb (names_answer (rule_of κ) kind q xs).code 0 n in (rw f refl, rw f refl)

  pub looked-none : (check s).first ≡ 0 → ((counted_question kind s q).visits ≡ 0) × ((counted_question kind s q).entries ≡ 0)
  unfolding counted_question check check_of counted_of names_counted entries
  looked-none none = go (opened s) none
    where
      either : (t : Bool) (n : ℕ) → n ≡ 0 → pick t n 0 ≡ 0
      either true n e = e
      either false n e = refl

      go : (o : Opened) → (check_of o).first ≡ 0 → ((counted_of kind q o).visits ≡ 0) × ((counted_of kind q o).entries ≡ 0)
      go NoBook z = (refl, refl)
      go (Book κ k []) z =
          let t = eqb (names_answer (rule_of κ) kind q []).code 0 in
          (either t (visits (word (rule_of κ) q) []) (visits-none (word (rule_of κ) q)), either t 0 refl)
      go (Book κ k (x ∷ xs)) z = absurd (lt_irrefl 0 (omega arith))

pub looked-alike : (i j : ℕ) (s q : Bytes) → (counted_question i s q).answer.code ≡ 0 → (counted_question j s q).answer.code ≡ 0
    → ((counted_question i s q).visits ≡ (counted_question j s q).visits) × ((counted_question i s q).entries ≡ (counted_question j s q).entries)
unfolding counted_question
looked-alike i j s q e f =
    (given-visits i q (opened s) e ∙ sym (given-visits j q (opened s) f), given-entries i q (opened s) e ∙ sym (given-entries j q (opened s) f))

-- ---- as far as can be

-- a book of a, ab and b, in blocks of two
abbrev met_book : Bytes
met_book = book PlainBook 2 ((97 ∷ []) ∷ (97 ∷ 98 ∷ []) ∷ (98 ∷ []) ∷ [])

abbrev five : List ℕ
five = 1 ∷ 2 ∷ 3 ∷ 4 ∷ 5 ∷ []

pub looked-met : (map (λ kind. (counted_question kind met_book (97 ∷ [])).visits) five ≡ 3 ∷ 3 ∷ 3 ∷ 3 ∷ 3 ∷ []) × (map (λ kind. (counted_question kind met_book (97 ∷ 98 ∷ [])).entries) five ≡ 2 ∷ 2 ∷ 2 ∷ 2 ∷ 2 ∷ [])
unfolding shared less begins same depth glue groups widest row_by table_within node_table table numbers joined entry blocks_from front blocks offsets entry_part block_part all_fields trailer book_by decode_from decode number rising sound fits_by names_of is_book_by opened child_of reach_within reached count exact_from exact place range nearest width ask may_end lit answer names_answer visits entries names_counted counted_of counted_question
looked-met = (refl, refl)

-- ---- as numbers of the code

pub counted-settles : (kind : ℕ) (s q : Bytes) (a b : Counted) → a ≡ counted_question kind s q → b ≡ counted_question kind s q → a ≡ b
counted-settles kind s q a b e f = e ∙ sym f

pub numbers-settle : (x : Counted) (a b : Given) → counted a ≡ x → counted b ≡ x → a ≡ b
numbers-settle x a b e f = counted-injective a b (e ∙ sym f)
