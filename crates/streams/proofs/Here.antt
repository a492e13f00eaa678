-- What the entry of name i tells of its name, where it stands.
--     words_count, words-nth                    the names' words
--     Comes, comes                              the entry stands, and its name is the one
--     here-fits, here-symbol, here-length       it ends inside; its name's symbol number d; its name's length
--     name-short                                a name's length
--     here-next, first-low                      the next name's entry; the first one stores 0
--     here-rises, here-only                     entries stand in the order of their names, so a place is one name's
-- Assumes nothing.
use Prim.Native.Nat.{ℕ, zero, suc, ◌+◌, ◌-◌, ◌≤◌, ◌<◌}
use native.Mathlib.Nat.{lt_irrefl, not-suc-le-zero, eq-or-lt_of_le}
use native.Mathlib.Omega.{arith}
use mathlib.Core.Path.{◌≡◌, refl, sym, ap, ap₂, ◌∙◌, subst}
use mathlib.Core.Logic.{inl, inr}
use mathlib.Core.List.{List, [], ◌∷◌, ◌++◌}
use lib.ListN.{length, get_or, take, drop, length-append, length-take, length-drop, length-map}
use lib.Seq.{drop-cons}
use Rattle.words.specs.Words.{Bytes, Rule, at, word}
use Rattle.words.specs.Rising.{nth}
use Rattle.words.proofs.Rising.{nth-word}
use Rattle.words.proofs.Words.{Sides, before, behind, level, sides}
use Rattle.format.specs.Records.{longest}
use Rattle.format.specs.Spans.{words_of}
use Rattle.format.specs.Book.{names_of}
use Rattle.streams.specs.Streams.{EntryAt, Here, Known, Stream, entry, entry_end, name_at, offset_at, offset_from, prev_of, rest_at}
use Rattle.streams.proofs.Places.{offset-next, stream_at}

-- ---- words

pub words_count : (ρ : Rule) (b : Bytes) → length (words_of ρ b) ≡ length (names_of b)
unfolding words_of
words_count ρ b = length-map (names_of b) (word ρ)

pub words-nth : (ρ : Rule) (b : Bytes) (i : ℕ) → nth (words_of ρ b) i ≡ word ρ (get_or (names_of b) i [])
unfolding words_of
words-nth ρ b i = nth-word ρ (names_of b) i

past : (ρ : Rule) (p r : Bytes) (j : ℕ) → at (word ρ (p ++ r)) (length p + j) ≡ at (word ρ r) j
past ρ [] r j = let z : 0 + j ≡ j = omega arith in ap (at (word ρ r)) z
past ρ (x ∷ p) r j = let z : length (x ∷ p) + j ≡ suc (length p + j) = omega arith in ap (at (word ρ (x ∷ p ++ r))) z ∙ past ρ p r j

-- ---- the entry at hand

pub record Comes (b : Bytes) (o : ℕ) (prev x : Bytes) : Type 0 where
  pub stands : EntryAt b o (length prev)
  pub named : name_at b o prev ≡ x

stream-comes : {b prev x : Bytes} {o : ℕ} {xs : List Bytes} → Stream b o prev (x ∷ xs) → Comes b o prev x
stream-comes (entry a e t) = record { stands = a; named = e }

module _ (ρ : Rule) (b : Bytes) (i a : ℕ) (k : Known ρ b) (h : Here b i a) (l : i < length (names_of b)) where
  pub comes : Comes b a (prev_of (names_of b) i) (get_or (names_of b) i [])
  comes =
      let s = stream_at b (names_of b) i k.stream (omega arith) in
      subst (λ (o : ℕ). Comes b o (prev_of (names_of b) i) (get_or (names_of b) i [])) (sym h)
      (stream-comes (subst (Stream b (offset_at b i) (prev_of (names_of b) i)) (drop-cons (names_of b) i [] l) s))

  pub here-fits : entry_end b a ≤ length b
  here-fits = comes.stands.fits

  front_length : length (take (get_or b a 0) (prev_of (names_of b) i)) ≡ get_or b a 0
  front_length = rw length-take (omega (arith, comes.stands.shares))

  pub here-symbol : (d s : ℕ) → get_or b a 0 ≤ d → s ≡ at (word ρ (rest_at b a)) (d - get_or b a 0) → s ≡ at (nth (words_of ρ b) i) d
  here-symbol d s m e =
      let z : length (take (get_or b a 0) (prev_of (names_of b) i)) + (d - get_or b a 0) ≡ d = omega (arith, front_length) in
      e ∙ sym (past ρ (take (get_or b a 0) (prev_of (names_of b) i)) (rest_at b a) (d - get_or b a 0))
      ∙ ap₂ (λ (x : Bytes) (n : ℕ). at (word ρ x) n) comes.named z ∙ sym (ap (λ (w : List ℕ). at w d) (words-nth ρ b i))

  pub here-length : get_or b a 0 + get_or b (a + 1) 0 ≡ length (nth (words_of ρ b) i)
  here-length =
      sym (ap length (words-nth ρ b i) ∙ length-map (get_or (names_of b) i []) ρ ∙ ap length (sym comes.named)
      ∙ length-append (take (get_or b a 0) (prev_of (names_of b) i)) (rest_at b a)
      ∙ omega (arith, front_length, length-take (get_or b (a + 1) 0) (drop (a + 2) b), length-drop (a + 2) b, here-fits))

pub name-short : (ρ : Rule) (b : Bytes) (i : ℕ) → Known ρ b → i < length (names_of b) → length (nth (words_of ρ b) i) ≤ longest
name-short ρ b i k l = omega (arith, here-length ρ b i (offset_at b i) k refl l, (comes ρ b i (offset_at b i) k refl l).stands.short)

pub here-next : (b : Bytes) (i a : ℕ) → Here b i a → Here b (suc i) (entry_end b a)
here-next b i a h = ap (entry_end b) h ∙ sym (offset-next b i)

pub first-low : (ρ : Rule) (b : Bytes) → Known ρ b → 0 < length (names_of b) → get_or b 0 0 ≡ 0
unfolding offset_from
first-low ρ b k l = omega (arith, (comes ρ b 0 0 k refl l).stands.shares)

-- ---- places in their order

pub here-rises : (b : Bytes) (i j : ℕ) → i < j → offset_at b i < offset_at b j
here-rises b i zero h = absurd (not-suc-le-zero h)
here-rises b i (suc j) h = elim (eq-or-lt_of_le h) [
  | inl e ↦ let z : i ≡ j = omega arith in subst (λ (n : ℕ). offset_at b n < offset_at b (suc j)) (sym z) (omega (arith, offset-next b j))
  | inr l ↦ omega (arith, here-rises b i j (omega arith), offset-next b j)
]

pub here-only : (b : Bytes) (i j a : ℕ) → Here b i a → Here b j a → i ≡ j
here-only b i j a h g = go (sides i j)
  where
    go : Sides i j → i ≡ j
    go (before l) = absurd (lt_irrefl a (omega (arith, here-rises b i j l)))
    go (level e) = e
    go (behind l) = absurd (lt_irrefl a (omega (arith, here-rises b j i l)))
