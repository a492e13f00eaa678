-- How a question ends, by the ways that the functions go.
--     ask-unsound       no book
--     ask-trailed, ask-long     the book has a trailer; the question is too long
--     ask-none, nearest-none    the book has no names: nothing is found, and nearest is refused
--     askable, ask-some, ask-lit     an accepted book with names can be searched; what the search answers, and of nearest's number what can be lit
-- Assumes nothing.
use Prim.Native.Nat.{ℕ, suc, ◌%◌, ◌<◌, ◌≤◌}
use native.Mathlib.Nat.{lt_irrefl}
use native.Mathlib.Omega.{arith}
use mathlib.Core.Path.{◌≡◌, ◌∙◌, ap, ap₂, refl, sym}
use mathlib.Core.List.{List, [], ◌∷◌, map}
use lib.ListN.{length, length-map}
use Rattle.std.proofs.Common.{None, Ok, Err}
use Rattle.words.specs.Words.{Bytes, InBytes, word}
use Rattle.format.specs.Kinds.{kind_of, rule_in}
use Rattle.format.specs.Spans.{words_in, words_of}
use Rattle.format.specs.Book.{names_of, opened, told, trailer_size}
use Rattle.format.specs.Records.{longest}
use Rattle.format.specs.Outcomes.{given, refused}
use Rattle.answers.specs.Calls.{names_answer}
use Rattle.answers.specs.Counts.{counted_of, counted_question, entries, names_counted, unlooked, visits}
use Rattle.answers.specs.Lit.{lit}
use Rattle.answers.proofs.Lit.{answer-asked, answer-lit}
use Rattle.answers.proofs.Calls.{question-given, question-long, question-none}
use Rattle.answers.proofs.Counts.{counted-given, counted-no, entries-some, visits-none}
use Rattle.answers.specs.Questions.{Pair, answer, ask, count, exact, exact_from, place, range, reached}
use Rattle.answers.specs.Widths.{width}
use Rattle.descent.specs.Vocabulary.{asked, asked_in}
use Rattle.descent.proofs.Bytes.{opened-searchable}
use Rattle.numbers.proofs.Parts.{Held, held_bytes}
use Rattle.trailer.specs.declared.Trailer.{Trailer}
use Rattle.accept.specs.Parts.{check_on}
use Rattle.accept.proofs.Judging.{SoundBook, no-book, sound-book}
use Rattle.refusals.specs.Refusals.{code_of}
use Rattle.refusals.specs.declared.Refusal.{Refusal}
use Rattle.refusals.specs.declared.Refusal.TheVariants.{NoBook, NoNames, QuestionTooLong}
use Rattle.search.specs.Asks.{AnswerAsk, number_of}
use Rattle.search.specs.declared.Asked.{Asked}
use Rattle.search.specs.declared.Asked.TheVariants.{Exact, Nearest, Place, Range, Width}
use Rattle.spots.specs.Spots.{Looked}
use Rattle.shapes.specs.Endings.{looked_at_nothing}
use Rattle.questions.specs.Asking.{Accepted, Looking, replied}

pub ask-unsound : (kind : ℕ) (b q : Bytes) → None ≡ check_on b (opened b) → replied (Err NoBook) ≡ counted_question kind b q
unfolding counted_question counted_of
ask-unsound kind b q s = sym (ap (counted_of kind q) (no-book b None s refl))

-- an empty list: nothing is found
none_found : (kind : Asked) → (kind ≡ Nearest → ⊥) → (q : List ℕ) → (0, 0) ≡ ask (number_of kind) q []
unfolding ask exact exact_from place range count width
none_found Exact n q = refl
none_found Place n q = refl
none_found Range n q = refl
none_found Nearest n q = absurd (n refl)
none_found Width n q = refl

-- nearest alone has its number
nearest-alone : (kind : Asked) → (kind ≡ Nearest → ⊥) → number_of kind ≡ 4 → ⊥
nearest-alone Exact n e = omega arith
nearest-alone Place n e = omega arith
nearest-alone Range n e = omega arith
nearest-alone Nearest n e = n refl
nearest-alone Width n e = omega arith

pub kind-low : (kind : Asked) → 1 ≤ number_of kind
kind-low Exact = omega arith
kind-low Place = omega arith
kind-low Range = omega arith
kind-low Nearest = omega arith
kind-low Width = omega arith

pub kind-high : (kind : Asked) → number_of kind ≤ 5
kind-high Exact = omega arith
kind-high Place = omega arith
kind-high Range = omega arith
kind-high Nearest = omega arith
kind-high Width = omega arith

-- an accepted book with names can be searched
pub askable : (b : Bytes) → Held b → Looking b → AnswerAsk b
askable b held l =
    let f = sound-book b l.accepted.trailer (held_bytes b held) l.accepted.checked in
    let count : told b 0 ≡ length (names_of b) = sym (ap (λ (x : Trailer). x.names) f.told) ∙ f.count in
    record {
      parts = f.parts;
      searchable = opened-searchable (kind_of b) b l.accepted.trailer.block (names_of b) f.book (held_bytes b held) (omega (arith, count, l.some));
    }

module _ (b q : Bytes) (asked-kind : Asked) (held : Held b) (s : Accepted b) where
  abbrev kind : ℕ
  kind = number_of asked-kind

  abbrev n : ℕ
  n = told b 0

  abbrev t : Trailer
  t = s.trailer

  bytes : InBytes b
  bytes = held_bytes b held

  -- what the check has shown
  shown : SoundBook b t
  shown = sound-book b t bytes s.checked

  -- there is a trailer
  pub ask-trailed : trailer_size ≤ length b
  ask-trailed = omega (arith, shown.parts.framed.trail.total)

  asks : counted_question kind b q ≡ names_counted (rule_in b) t.block kind q (names_of b)
  unfolding counted_question counted_of
  asks = ap (counted_of kind q) shown.book

  names : n ≡ length (names_of b)
  names = sym (ap (λ (x : Trailer). x.names) shown.told) ∙ shown.count

  refuses : (e : Refusal) → (code_of e ≡ 0 → ⊥) → names_answer (rule_in b) kind q (names_of b) ≡ refused (code_of e) → looked_at_nothing e ≡ unlooked (code_of e) → replied (Err e) ≡ counted_question kind b q
  refuses e z f alone = alone ∙ sym (asks ∙ counted-no (rule_in b) t.block kind q (names_of b) (code_of e) z f)

  pub ask-long : longest < length q → replied (Err QuestionTooLong) ≡ counted_question kind b q
  ask-long h = refuses QuestionTooLong (λ z. lt_irrefl 0 (omega arith)) (question-long (rule_in b) kind q (names_of b) h) refl

  module _ (h : length q ≤ longest) where
    pub nearest-none : n ≡ 0 → asked-kind ≡ Nearest → replied (Err NoNames) ≡ counted_question kind b q
    nearest-none z f = refuses NoNames (λ x. lt_irrefl 0 (omega arith)) (question-none (rule_in b) kind q (names_of b) h (ap number_of f) (omega (arith, names))) refl

    -- an answer, with what was looked at
    gives : (kind ≡ 4 → n ≡ 0 → ⊥) → (a : Pair) → a ≡ answer (rule_in b) kind q (names_of b) → (v e : ℕ)
        → v ≡ visits (word (rule_in b) q) (map (word (rule_in b)) (names_of b)) → e ≡ entries t.block (word (rule_in b) q) (map (word (rule_in b)) (names_of b))
        → record { answer = given a.0 a.1; visits = v; entries = e } ≡ counted_question kind b q
    gives f a g v e ve ee =
        ap₂ (λ (x y : ℕ). record { answer = given a.0 a.1; visits = x; entries = y }) ve ee
        ∙ sym (asks ∙ counted-given (rule_in b) t.block kind q (names_of b) a.0 a.1 (sym (question-given (rule_in b) kind q (names_of b) h (λ g z. f g (names ∙ z)) a g)))

    pub ask-none : n ≡ 0 → (asked-kind ≡ Nearest → ⊥) → replied (Ok (record { first = 0; second = 0; visits = 0; entries = 0 })) ≡ counted_question kind b q
    unfolding entries
    ask-none z f =
        let empty : names_of b ≡ [] = none (names_of b) (omega (arith, names)) in
        let no_words : [] ≡ map (word (rule_in b)) (names_of b) = ap (map (word (rule_in b))) (sym empty) in
        let other = nearest-alone asked-kind f in
        gives (λ g _. other g) (0, 0) (none_found asked-kind f (word (rule_in b) q) ∙ sym (answer-asked (rule_in b) kind q [] other) ∙ ap (λ (xs : List Bytes). answer (rule_in b) kind q xs) (sym empty))
        0 0 (sym (visits-none (word (rule_in b) q)) ∙ ap (visits (word (rule_in b) q)) no_words) (ap (entries t.block (word (rule_in b) q)) no_words)
      where
        none : (xs : List Bytes) → length xs ≡ 0 → xs ≡ []
        none [] l = refl
        none (x ∷ xs) l = absurd (lt_irrefl 0 (omega arith))

    module _ (some : n ≡ 0 → ⊥) {v e : ℕ} (l : Looked b q v e) where
      read : e ≡ entries t.block (word (rule_in b) q) (map (word (rule_in b)) (names_of b))
      unfolding asked words_of
      read =
          let block : told b 1 ≡ t.block = sym (ap (λ (x : Trailer). x.block) shown.told) in
          l.name ∙ ap (λ (k : ℕ). suc (reached (asked_in b q) (words_in b) % k)) block
          ∙ sym (entries-some t.block (asked_in b q) (words_in b) (omega (arith, some, names, length-map (names_of b) (word (rule_in b)))))

      seen : v ≡ visits (word (rule_in b) q) (map (word (rule_in b)) (names_of b))
      unfolding asked words_of
      seen = l.nodes

      module _ {x y : ℕ} (g : (x, y) ≡ ask kind (asked_in b q) (words_in b)) where
        pub ask-some : (asked-kind ≡ Nearest → ⊥) → record { answer = given x y; visits = v; entries = e } ≡ counted_question kind b q
        unfolding asked words_of
        ask-some f = gives (λ _ z. some z) (x, y) (g ∙ sym (answer-asked (rule_in b) kind q (names_of b) (nearest-alone asked-kind f))) v e seen read

        -- of nearest's number what can be lit
        pub ask-lit : asked-kind ≡ Nearest → {z : ℕ} → z ≡ lit q y → record { answer = given x z; visits = v; entries = e } ≡ counted_question kind b q
        unfolding asked words_of
        ask-lit f {z} h =
            gives (λ _ l. some l) (x, z) (ap₂ (λ (a : Pair) (n : ℕ). (a.0, n)) g (h ∙ ap (λ (a : Pair). lit q a.1) g) ∙ sym (answer-lit (rule_in b) kind q (names_of b) (ap number_of f))) v e seen read
