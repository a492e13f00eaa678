-- Document 02, CR 3: what nearest's number says of names, of any call that answers as they do (nearest is kind 4); the public call on an accepted
-- book is one (book-answers in Ranges). A place where the lit part may end is one that is 0, the question's length, or before a byte that begins a character.
--     nearest-given     the position is the plain list's; the number is what can be lit of what that name shares
--     nearest-number    the number by itself
--     lit-halves        both halves of 'the greatest': it is such a place, not above what is shared; and no greater one is
--     nearest-lit       no name of the book would get a greater number
--     nearest-whole     of a well-formed text no character is cut: what is lit is well-formed, and so is the rest
--     lit-accents       accents in several forms, computed
-- Assumes nothing.
use Prim.Native.Nat.{ℕ, zero, suc, ◌≤◌, ◌<◌}
use native.Mathlib.Nat.{le_of_suc-le-suc, lt_irrefl}
use native.Mathlib.Omega.{arith}
use mathlib.Core.Path.{◌≡◌, refl, sym, ap, ap₂, ◌∙◌, subst}
use mathlib.Core.Logic.{◌⊎◌, inl, inr}
use mathlib.Core.Bool.{Bool, true, false, not, ◌||◌}
use mathlib.Core.List.{List, [], ◌∷◌, map}
use lib.Dec.{eqb, ltb}
use lib.ListN.{drop, get_or, length, take}
use borrow.Author.Tests.{eqb-true, ltb-true}
use Rattle.words.specs.Words.{Bytes, Rule, both, shared, word}
use Rattle.words.proofs.Words.{both_true, false≠true}
use Rattle.format.specs.Outcomes.{Answer, given}
use Rattle.format.specs.Records.{longest}
use Rattle.answers.specs.Lit.{accents, in_character, lit, may_end}
use Rattle.answers.specs.Questions.{answer, ask, nearest, reached}
use Rattle.answers.proofs.Accents.{accents-lit}
use Rattle.answers.proofs.Calls.{question-given}
use Rattle.answers.proofs.Lit.{lit-low, lit-may, lit-most, lit-rises}
use Rattle.theorems.specs.Demands.{Greatest}
use Rattle.theorems.specs.Layouts.{Answers}
use Rattle.theorems.specs.Letters.{characters, following, well_formed}
use Rattle.theorems.proofs.Questions.{nearest-greatest}

-- ---- no character is cut

-- the lit part ends at the question's end, before a byte that begins a character, or at the start of whole characters
abbrev Ends : ℕ → Bytes → ℕ → Type 0
Ends due q place = (place ≡ length q) ⊎ ((place < length q) × (in_character (get_or q place 0) ≡ false)) ⊎ ((place ≡ 0) × (due ≡ 0))

abbrev Parts : ℕ → Bytes → ℕ → Type 0
Parts due q place = (characters due (take place q) ≡ true) × (characters 0 (drop place q) ≡ true)

-- one byte on
onward : (b : ℕ) (q : Bytes) (due next place : ℕ) → Ends due (b ∷ q) (suc place) → Ends next q place
onward b q due next place (inl e) = inl (omega arith)
onward b q due next place (inr (inl e)) = inr (inl (le_of_suc-le-suc e.0, e.1))
onward b q due next place (inr (inr e)) = absurd (lt_irrefl 0 (omega (arith, e.0)))

cut : (q : Bytes) (due place : ℕ) → characters due q ≡ true → Ends due q place → Parts due q place
unfolding characters
cut [] zero zero w e = (refl, refl)
cut [] zero (suc place) w e = (refl, refl)
cut [] (suc due) place w e = absurd (false≠true w)
cut (b ∷ q) zero zero w e = (refl, w)
cut (b ∷ q) (suc due) zero w e = absurd (no_start e (both_true (in_character b) (characters due q) w).0)
  where
    no_start : Ends (suc due) (b ∷ q) 0 → in_character b ≡ true → ⊥
    no_start (inl f) t = lt_irrefl 0 (omega arith)
    no_start (inr (inl f)) t = false≠true (sym f.1 ∙ t)
    no_start (inr (inr f)) t = lt_irrefl 0 (omega (arith, f.1))
cut (b ∷ q) zero (suc place) w e =
    let k = both_true (both (not (in_character b)) (ltb b 248)) (characters (following b) q) w in
    let p = cut q (following b) place k.1 (onward b q 0 (following b) place e) in
    (ap₂ both k.0 p.0, p.1)
cut (b ∷ q) (suc due) (suc place) w e =
    let k = both_true (in_character b) (characters due q) w in
    let p = cut q due place k.1 (onward b q (suc due) due place e) in
    (ap₂ both k.0 p.0, p.1)

-- a place where the lit part may end is such a one
may-ends : (q : Bytes) (place : ℕ) → may_end q place ≡ true → Ends 0 q place
unfolding may_end
may-ends q place m = go (eqb place 0) (eqb place (length q)) (ltb place (length q)) (in_character (get_or q place 0)) refl refl refl refl m
  where
    go : (a b c d : Bool) → eqb place 0 ≡ a → eqb place (length q) ≡ b → ltb place (length q) ≡ c → in_character (get_or q place 0) ≡ d → (a || (b || both c (not d))) ≡ true → Ends 0 q place
    go true b c d p r s t e = inr (inr (eqb-true place 0 p, refl))
    go false true c d p r s t e = inl (eqb-true place (length q) r)
    go false false true false p r s t e = inr (inl (ltb-true place (length q) s, t))
    go false false true true p r s t e = absurd (false≠true e)
    go false false false d p r s t e = absurd (false≠true e)

pub lit-whole : (q : Bytes) (count : ℕ) → well_formed q ≡ true → (well_formed (take (lit q count) q) ≡ true) × (well_formed (drop (lit q count) q) ≡ true)
lit-whole q count w = cut q 0 (lit q count) w (may-ends q (lit q count) (lit-may q count))

-- both halves
pub lit-halves : (q : Bytes) (count : ℕ) → (lit q count ≤ count) × (may_end q (lit q count) ≡ true) × ((place : ℕ) → place ≤ count → may_end q place ≡ true → place ≤ lit q count)
lit-halves q count = (lit-low q count, lit-may q count, lit-most q count)

-- ---- the call's number

module _ {ρ : Rule} {xs : List Bytes} {call : ℕ → Bytes → Answer} (a : Answers ρ xs call) (some : 0 < length xs) (q : Bytes) (short : length q ≤ longest) where
  g : Greatest ρ q xs (nearest (word ρ q) (map (word ρ) xs))
  g = nearest-greatest ρ xs a.letters a.sound q some

  pub nearest-given : let p = reached (word ρ q) (map (word ρ) xs) in call 4 q ≡ given p (lit q (shared (word ρ q) (word ρ (get_or xs p []))))
  unfolding answer ask nearest
  nearest-given =
      a.is 4 q
      ∙ sym (question-given ρ 4 q xs short (λ e z. lt_irrefl 0 (omega arith)) (answer ρ 4 q xs) refl)
      ∙ ap (λ (n : ℕ). given (reached (word ρ q) (map (word ρ) xs)) (lit q n)) g.shares

  pub nearest-number : (call 4 q).second ≡ lit q (shared (word ρ q) (word ρ (get_or xs (reached (word ρ q) (map (word ρ) xs)) [])))
  nearest-number = ap (λ (b : Answer). b.second) nearest-given

  -- name number i would get this number
  pub nearest-lit : (i : ℕ) → i < length xs → lit q (shared (word ρ q) (word ρ (get_or xs i []))) ≤ (call 4 q).second
  unfolding nearest
  nearest-lit i l =
      subst (λ (n : ℕ). lit q (shared (word ρ q) (word ρ (get_or xs i []))) ≤ n) (sym nearest-number)
      (lit-rises q (shared (word ρ q) (word ρ (get_or xs i []))) (shared (word ρ q) (word ρ (get_or xs (reached (word ρ q) (map (word ρ) xs)) []))) (omega (arith, g.most i l, g.shares)))

  pub nearest-whole : well_formed q ≡ true → (well_formed (take (call 4 q).second q) ≡ true) × (well_formed (drop (call 4 q).second q) ≡ true)
  nearest-whole w =
      subst (λ (n : ℕ). (well_formed (take n q) ≡ true) × (well_formed (drop n q) ≡ true)) (sym nearest-number)
      (lit-whole q (shared (word ρ q) (word ρ (get_or xs (reached (word ρ q) (map (word ρ) xs)) []))) w)

-- ---- computed

pub lit-accents : map (λ (a : Bytes × ℕ × ℕ). lit a.0 a.1) accents ≡ map (λ (a : Bytes × ℕ × ℕ). a.2) accents
lit-accents = accents-lit
