-- Laws of what can be lit of a question.
--     lit-low, lit-may, lit-most     not above the count; the lit part may end there; no greater place would do
--     lit-rises, lit-kept, lit-short it rises with the count; a count at which it may end stays; no count lights more than the question
--     lit-past          a count at or past the question's length lights all of it
--     lit-back, lit-here     one byte back; a byte that begins a character
--     lit-only          the two halves tell it: there is just one such place
--     answer-asked, answer-lit     what a question answers: as it was asked, and of nearest's number what can be lit
-- Assumes nothing.
use Prim.Native.Nat.{ℕ, zero, suc, ◌≤◌, ◌<◌, zero-le}
use native.Mathlib.Nat.{lt_irrefl}
use native.Mathlib.Omega.{arith}
use mathlib.Core.Path.{◌≡◌, refl, sym, ap, ◌∙◌}
use mathlib.Core.Logic.{◌⊎◌, inl, inr}
use mathlib.Core.Bool.{Bool, true, false, not, ◌||◌}
use mathlib.Core.List.{List, map}
use lib.Dec.{eqb, ltb}
use lib.ListN.{get_or, length}
use borrow.Author.Tests.{eq-eqb, le-ltb, lt-ltb, ne_eqb}
use Rattle.words.specs.Words.{Bytes, Rule, both, pick, word}
use Rattle.words.proofs.Words.{apart, false≠true}
use Rattle.answers.specs.Lit.{in_character, lit, may_end}
use Rattle.answers.specs.Questions.{answer, ask}

module _ (q : Bytes) where
  pub may_none : may_end q 0 ≡ true
  unfolding may_end
  may_none = refl

  pub lit-low : (count : ℕ) → lit q count ≤ count
  unfolding lit
  lit-low zero = zero-le
  lit-low (suc count) = go (may_end q (suc count)) (lit-low count)
    where
      go : (t : Bool) → lit q count ≤ count → pick t (suc count) (lit q count) ≤ suc count
      go true k = omega arith
      go false k = omega arith

  pub lit-may : (count : ℕ) → may_end q (lit q count) ≡ true
  unfolding lit
  lit-may zero = may_none
  lit-may (suc count) = go (may_end q (suc count)) refl (lit-may count)
    where
      go : (t : Bool) → may_end q (suc count) ≡ t → may_end q (lit q count) ≡ true → may_end q (pick t (suc count) (lit q count)) ≡ true
      go true e k = e
      go false e k = k

  pub lit-most : (count place : ℕ) → place ≤ count → may_end q place ≡ true → place ≤ lit q count
  unfolding lit
  lit-most zero place h m = h
  lit-most (suc count) place h m = go (may_end q (suc count)) refl (apart place (suc count)) (λ k. lit-most count place k m)
    where
      go : (t : Bool) → may_end q (suc count) ≡ t → (place < suc count) ⊎ (suc count ≤ place) → (place ≤ count → place ≤ lit q count) → place ≤ pick t (suc count) (lit q count)
      go true e o k = h
      go false e (inl l) k = k (omega arith)
      go false e (inr l) k = let same : place ≡ suc count = omega arith in absurd (false≠true (sym e ∙ ap (may_end q) (sym same) ∙ m))

  pub lit-rises : (a b : ℕ) → a ≤ b → lit q a ≤ lit q b
  lit-rises a b h = lit-most b (lit q a) (omega (arith, lit-low a)) (lit-may a)

  pub lit-kept : (count : ℕ) → may_end q count ≡ true → lit q count ≡ count
  lit-kept count m = omega (arith, lit-low count, lit-most count count (omega arith) m)

  -- the place is told by the two halves
  pub lit-only : (count place : ℕ) → place ≤ count → may_end q place ≡ true → ((other : ℕ) → other ≤ count → may_end q other ≡ true → other ≤ place) → place ≡ lit q count
  lit-only count place h m most = omega (arith, lit-most count place h m, most (lit q count) (lit-low count) (lit-may count))

  -- ---- by the bytes

  pub may-whole : may_end q (length q) ≡ true
  unfolding may_end
  may-whole = go (eqb (length q) 0)
    where
      go : (t : Bool) → (t || (eqb (length q) (length q) || both (ltb (length q) (length q)) (not (in_character (get_or q (length q) 0))))) ≡ true
      go true = refl
      go false = rw (eq-eqb (length q) (length q) refl) refl

  -- no place past the question
  not-past : (place : ℕ) → length q < place → may_end q place ≡ false
  unfolding may_end
  not-past place h = rw (ne_eqb place 0 (λ e. lt_irrefl place (omega arith)), ne_eqb place (length q) (λ e. lt_irrefl place (omega arith)), le-ltb place (length q) (omega arith)) refl

  pub lit-short : (count : ℕ) → lit q count ≤ length q
  lit-short count = elim (apart (length q) (lit q count)) [
    | inl l ↦ absurd (false≠true (sym (not-past (lit q count) l) ∙ lit-may count))
    | inr l ↦ l
  ]

  -- all of it is shared
  pub lit-past : (count : ℕ) → length q ≤ count → lit q count ≡ length q
  lit-past count h = omega (arith, lit-short count, lit-most count (length q) h may-whole)

  -- inside the question a byte tells
  may-inside : (place : ℕ) → 0 < place → place < length q → may_end q place ≡ not (in_character (get_or q place 0))
  unfolding may_end
  may-inside place low high = rw (ne_eqb place 0 (λ e. lt_irrefl place (omega arith)), ne_eqb place (length q) (λ e. lt_irrefl place (omega arith)), lt-ltb place (length q) high) refl

  -- a byte that goes on with a character: one place back
  pub lit-back : (place : ℕ) → suc place < length q → in_character (get_or q (suc place) 0) ≡ true → lit q (suc place) ≡ lit q place
  unfolding lit
  lit-back place h e = rw (may-inside (suc place) (omega arith) h ∙ ap not e) refl

  -- another one: here
  pub lit-here : (place : ℕ) → 0 < place → place < length q → in_character (get_or q place 0) ≡ false → lit q place ≡ place
  lit-here place low high e = lit-kept place (may-inside place low high ∙ ap not e)

-- ---- of a question's answer

module _ (ρ : Rule) (kind : ℕ) (q : Bytes) (xs : List Bytes) where
  pub answer-asked : (kind ≡ 4 → ⊥) → answer ρ kind q xs ≡ ask kind (word ρ q) (map (word ρ) xs)
  unfolding answer
  answer-asked n = rw (ne_eqb kind 4 n) refl

  pub answer-lit : kind ≡ 4 → answer ρ kind q xs ≡ ((ask kind (word ρ q) (map (word ρ) xs)).0, lit q (ask kind (word ρ q) (map (word ρ) xs)).1)
  unfolding answer
  answer-lit e = rw (eq-eqb kind 4 e) refl
