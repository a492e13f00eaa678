-- Document 02, CR 7, 'Drivers type small letters': folded books. What is said of a kind of book (Books, Lists, Letters, Neighbours, Widths, Calls) holds of
-- them by the same text; here is what they have of their own.
--     folded-letter, folded-other     a capital has the small letter's symbol; every other byte has document 01's
--     folded-edges      the bytes around the letters, computed
--     folded-typed      questions that are equal once folded get one answer
--     names-once        no two names of a book have the same symbols: of a folded one, no two are equal once folded
--     marks-apart       a list without capitals has one book in both kinds, but for the mark
--     example-folded, folded-rows     the folded book of MAR and marina, byte for byte, and questions to it, computed
--     folded-doubles, plain-doubles   Mar and mar: refused as one name twice; and a plain book of two names, in their order
-- Assumes nothing.
use Prim.Native.Nat.{ℕ, zero, suc, ◌+◌, ◌-◌, ◌≤◌, ◌<◌}
use Prim.Native.String.{String}
use native.Mathlib.Omega.{arith}
use mathlib.Core.Path.{◌≡◌, refl, sym, ap, ap₂, ◌∙◌, subst}
use mathlib.Core.Logic.{◌⊎◌, inl, inr}
use mathlib.Core.Bool.{Bool, true, false, not, ◌||◌}
use mathlib.Core.List.{List, [], ◌∷◌, ◌++◌, append_assoc, map}
use lib.Dec.{eqb, leb, ltb}
use lib.ListN.{get_or-map, get_or, length, length-append, length-map, take}
use lib.Seq.{take-append_seam}
use borrow.Author.Tests.{le-leb, lt-leb}
use Rattle.words.specs.Words.{Bytes, Rule, Words, begins, both, less, pick, plain, same, shared, word}
use Rattle.words.proofs.Words.{apart, false≠true, less-irrefl, plain-injective}
use Rattle.format.specs.Book.{Book, NoBook, Opened, block_part, book, book_by, entry_part, fits_by, is_book_by, joined, names_of, number, numbers, opened, trailer, trailer_size}
use Rattle.format.specs.Entries.{blocks, blocks_from, decode, decode_from, entry, front, offsets}
use Rattle.format.specs.Example.{text}
use Rattle.format.specs.Folded.{capital, folded}
use Rattle.format.specs.Kinds.{BookKind, FoldedBook, PlainBook, Rows, kind_of, mark_of, rule_of}
use Rattle.format.specs.Layout.{Layout}
use Rattle.format.specs.Nodes.{depth, glue, groups, row_by, table, table_within, all_fields}
use Rattle.format.specs.Outcomes.{Answer, given, numbered, over, refused}
use Rattle.format.specs.Records.{encode, longest, read_from, read_list, rising, sound}
use Rattle.format.specs.Spans.{node_table}
use Rattle.format.specs.Widths.{widest}
use Rattle.format.proofs.Book.{body, book-split, opened-kind, trailer_numbers}
use Rattle.format.proofs.Computed.{edges-computed}
use Rattle.format.proofs.BookKinds.{kind-layout, small-rule}
use Rattle.answers.specs.Calls.{build, build_by, built_from, names_answer, question, question_of}
use Rattle.answers.specs.Lit.{in_character, lit, may_end}
use Rattle.answers.specs.Questions.{Pair, answer, ask, child_of, count, exact, exact_from, nearest, place, range, reach_within, reached}
use Rattle.answers.specs.Widths.{width}
use Rattle.theorems.specs.Demands.{BookOf}
use Rattle.theorems.specs.Folding.{NoCapitals, folded_by2, folded_names, folded_rows, spelled_twice}
use Rattle.theorems.proofs.Lists.{build-writes}

-- ---- the rule

pub folded-edges : map folded (64 ∷ 65 ∷ 90 ∷ 91 ∷ 96 ∷ 97 ∷ 122 ∷ 123 ∷ []) ≡ 65 ∷ 98 ∷ 123 ∷ 92 ∷ 97 ∷ 98 ∷ 123 ∷ 124 ∷ []
folded-edges = edges-computed

pub folded-other : (b : ℕ) → (b < 65) ⊎ (90 < b) → folded b ≡ plain b
folded-other b (inl h) = rw (lt-leb 65 b h) refl
folded-other b (inr h) = ap (λ (t : Bool). pick (both (leb 65 b) t) (plain (b + 32)) (plain b)) (lt-leb b 90 h) ∙ go (leb 65 b)
  where
    go : (t : Bool) → pick (both t false) (plain (b + 32)) (plain b) ≡ plain b
    go true = refl
    go false = refl

pub folded-letter : (b : ℕ) → 65 ≤ b → b ≤ 90 → folded b ≡ folded (b + 32)
folded-letter b low high = rw (le-leb 65 b low, le-leb b 90 high) (sym (folded-other (b + 32) (inr (omega arith))))

-- ---- however it is typed

-- one symbol is one byte, or two letters: in no case a byte inside a character and another one
one_class : (b c : ℕ) → folded b ≡ folded c → (b ≡ c) ⊎ ((b < 128) × (c < 128))
one_class b c e = go (letters b) (letters c)
  where
    letters : (a : ℕ) → (folded a ≡ plain a) ⊎ ((a ≤ 90) × (folded a ≡ plain (a + 32)))
    letters a = elim (apart a 65) [
      | inl h ↦ inl (folded-other a (inl h))
      | inr l ↦ elim (apart 90 a) [
        | inl h ↦ inl (folded-other a (inr h))
        | inr h ↦ inr (h, rw (le-leb 65 a l, le-leb a 90 h) refl)
      ]
    ]

    go : (folded b ≡ plain b) ⊎ ((b ≤ 90) × (folded b ≡ plain (b + 32))) → (folded c ≡ plain c) ⊎ ((c ≤ 90) × (folded c ≡ plain (c + 32))) → (b ≡ c) ⊎ ((b < 128) × (c < 128))
    go (inl f) (inl g) = inl (plain-injective b c (sym f ∙ e ∙ g))
    go (inl f) (inr g) = inr (let z : plain b ≡ plain (c + 32) = sym f ∙ e ∙ g.1 in (omega (arith, g.0), omega (arith, g.0)))
    go (inr f) (inl g) = inr (let z : plain (b + 32) ≡ plain c = sym f.1 ∙ e ∙ g in (omega (arith, f.0), omega (arith, f.0)))
    go (inr f) (inr g) = inr (omega (arith, f.0), omega (arith, g.0))

module _ (q r : Bytes) (e : word folded q ≡ word folded r) where
  as_long : length q ≡ length r
  as_long = sym (length-map q folded) ∙ ap length e ∙ length-map r folded

  same_class : (i : ℕ) → in_character (get_or q i 0) ≡ in_character (get_or r i 0)
  same_class i = elim (one_class (get_or q i 0) (get_or r i 0) (sym (get_or-map folded q i 0) ∙ ap (λ (w : List ℕ). get_or w i (folded 0)) e ∙ get_or-map folded r i 0)) [
    | inl f ↦ ap in_character f
    | inr f ↦ ap (λ (t : Bool). both t (leb (get_or q i 0) 191)) (lt-leb 128 (get_or q i 0) f.0) ∙ sym (ap (λ (t : Bool). both t (leb (get_or r i 0) 191)) (lt-leb 128 (get_or r i 0) f.1))
  ]

  same-lit : (n : ℕ) → lit q n ≡ lit r n
  unfolding lit may_end
  same-lit zero = refl
  same-lit (suc n) =
      ap₂ (λ (t : Bool) (l : ℕ). pick t (suc n) l)
      (ap₂ (λ (m : ℕ) (t : Bool). eqb (suc n) 0 || (eqb (suc n) m || both (ltb (suc n) m) (not t))) as_long (same_class (suc n))) (same-lit n)

  same_answer : (kind : ℕ) (xs : List Bytes) → answer folded kind q xs ≡ answer folded kind r xs
  unfolding answer
  same_answer kind xs =
      let ws : Words = map (word folded) xs in
      let a : Pair = ask kind (word folded r) ws in
      ap (λ (w : List ℕ). pick (eqb kind 4) ((ask kind w ws).0, lit q (ask kind w ws).1) (ask kind w ws)) e ∙ ap (λ (n : ℕ). pick (eqb kind 4) (a.0, n) a) (same-lit a.1)

  pub folded-typed : (kind : ℕ) (s : Bytes) → kind_of s ≡ FoldedBook → question kind s q ≡ question kind s r
  unfolding question question_of names_answer
  folded-typed kind s is = go (opened s) refl
    where
      asked-alike : (xs : List Bytes) → names_answer folded kind q xs ≡ names_answer folded kind r xs
      asked-alike xs =
          ap₂ (λ (n : ℕ) (a : Pair). pick (leb n longest) (pick (both (eqb kind 4) (eqb (length xs) 0)) (refused 10) (given a.0 a.1)) (refused 1)) as_long (same_answer kind xs)

      go : (o : Opened) → opened s ≡ o → question_of kind q o ≡ question_of kind r o
      go NoBook p = refl
      go (Book κ k xs) p =
          let own : FoldedBook ≡ κ = sym is ∙ opened-kind κ s k xs p in
          subst (λ (μ : BookKind). names_answer (rule_of μ) kind q xs ≡ names_answer (rule_of μ) kind r xs) own (asked-alike xs)

-- ---- one name, two spellings

pub names-once : (κ : BookKind) (s : Bytes) (k : ℕ) (xs : List Bytes) → BookOf κ s k xs → (i j : ℕ) → i < j → j < length xs
    → word (rule_of κ) (get_or xs i []) ≡ word (rule_of κ) (get_or xs j []) → ⊥
names-once κ s k xs b i j l h e =
    false≠true (sym (less-irrefl (word (rule_of κ) (get_or xs j []))) ∙ ap (λ (w : List ℕ). less w (word (rule_of κ) (get_or xs j []))) (sym e) ∙ b.rises i j l h)

-- in either order; of a plain book only the order mar, Mar is refused, since capitals come first
pub folded-doubles : (room : Bytes)
    → map (λ (a : BookKind × List Bytes). build a.0 (encode a.1) 2 room) spelled_twice ≡ map (λ (a : BookKind × List Bytes). record { answer = numbered 6 1; room = room }) spelled_twice
unfolding shared less encode read_from read_list built_from build_by
folded-doubles room = refl

pub plain-doubles : (room : Bytes) → 64 ≤ length room → let xs = text "Mar" ∷ text "mar" ∷ [] in
    build PlainBook (encode xs) 2 room ≡ record { answer = given 64 0; room = over (book PlainBook 2 xs) room }
unfolding shared less begins same depth glue groups widest row_by table_within node_table table numbers joined entry blocks_from front blocks offsets entry_part block_part all_fields trailer book_by rising sound fits_by
plain-doubles room h = build-writes PlainBook 2 (text "Mar" ∷ text "mar" ∷ []) refl room h

-- ---- a list without capitals

small_word : (x : Bytes) → ((j : ℕ) → capital (get_or x j 0) ≡ false) → word folded x ≡ word plain x
small_word [] h = refl
small_word (b ∷ x) h = ap₂ (λ (c : ℕ) (w : List ℕ). c ∷ w) (small-rule FoldedBook b (h 0)) (small_word x (λ j. h (suc j)))

small-words : (xs : List Bytes) → NoCapitals xs → map (word folded) xs ≡ map (word plain) xs
small-words [] h = refl
small-words (x ∷ xs) h = ap₂ (λ (w : List ℕ) (ws : Words). w ∷ ws) (small_word x (h 0)) (small-words xs (λ i. h (suc i)))

module _ (k : ℕ) (xs : List Bytes) where
  -- all but the mark, by the words of the names
  abbrev before : Words → Bytes
  before ws =
      let at : ℕ = length (entry_part k xs) + length (block_part k xs) in
      let end : ℕ = at + length (numbers (all_fields (table ws))) + trailer_size in
      (entry_part k xs ++ (block_part k xs ++ numbers (all_fields (table ws)))) ++ numbers (length xs ∷ k ∷ length (entry_part k xs) ∷ at ∷ length (table ws) ∷ end ∷ [])

  module _ {ρ : Rule} {mark : Bytes} (y : Layout ρ Rows mark) where
    book-before : book_by ρ Rows mark k xs ≡ before (map (word ρ) xs) ++ mark
    book-before = book-split y k xs ∙ sym (append_assoc (body y k xs) (numbers (trailer_numbers y k xs)) mark)

    marked-off : take (length (book_by ρ Rows mark k xs) - 4) (book_by ρ Rows mark k xs) ≡ before (map (word ρ) xs)
    marked-off =
        let p : Bytes = before (map (word ρ) xs) in
        let there : length (book_by ρ Rows mark k xs) - 4 ≡ length p = omega (arith, ap length book-before, length-append p mark, y.four) in
        ap₂ (λ (n : ℕ) (s : Bytes). take n s) there book-before ∙ take-append_seam p mark

  pub marks-apart : NoCapitals xs → book FoldedBook k xs ≡ take (length (book PlainBook k xs) - 4) (book PlainBook k xs) ++ mark_of FoldedBook
  marks-apart a = book-before (kind-layout FoldedBook) ∙ ap (λ (s : Bytes). s ++ mark_of FoldedBook) (ap before (small-words xs a) ∙ sym (marked-off (kind-layout PlainBook)))

-- ---- computed

pub example-folded : book FoldedBook 2 folded_names ≡ folded_by2
unfolding shared depth glue groups widest row_by table_within node_table table numbers joined entry blocks_from front blocks offsets entry_part block_part all_fields trailer book_by
example-folded = refl

-- a row as the public call gives it, and as the table has it
abbrev asked : ℕ × String × (ℕ × ℕ) → Answer
asked a = question a.0 folded_by2 (text a.1)

abbrev listed : ℕ × String × (ℕ × ℕ) → Answer
listed a = given a.2.0 a.2.1

pub folded-rows : map asked folded_rows ≡ map listed folded_rows
unfolding shared less begins same depth glue groups widest row_by table_within node_table table numbers joined entry blocks_from front blocks offsets entry_part block_part all_fields trailer book_by decode_from decode number rising sound fits_by names_of is_book_by opened child_of reach_within reached count exact_from exact place range nearest width ask may_end lit answer names_answer question_of question
folded-rows = refl
