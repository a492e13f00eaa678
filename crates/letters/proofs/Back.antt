-- Going back from a count over the bytes of a question.
--     inside-low, inside-high     a byte below 128; another one
--     Back, back_start, back_more     from the count to a place no part may end
--     back-here, back_none     it may end at a byte that begins a character, and at the question's start
-- Assumes nothing.
use Prim.Native.Nat.{ℕ, zero, suc, ◌-◌, ◌≤◌, ◌<◌}
use native.Mathlib.Omega.{arith}
use mathlib.Core.Path.{◌≡◌, refl, sym, ap, ◌∙◌}
use mathlib.Core.Bool.{Bool, true, false}
use lib.Dec.{leb}
use lib.ListN.{get_or, length}
use borrow.Author.Tests.{le-leb, lt-leb}
use Rattle.words.specs.Words.{Bytes}
use Rattle.answers.specs.Lit.{in_character, lit}
use Rattle.answers.proofs.Lit.{lit-back, lit-here}

pub inside-low : (x : ℕ) → x < 128 → false ≡ in_character x
inside-low x h = rw (lt-leb 128 x h) refl

pub inside-high : (x : ℕ) → 128 ≤ x → leb x 191 ≡ in_character x
inside-high x h = rw (le-leb 128 x h) refl

pub record Back (q : Bytes) (count place : ℕ) : Type 0 where
  pub short : place < length q
  pub same : lit q count ≡ lit q place

pub back_start : (q : Bytes) (count : ℕ) → count < length q → Back q count count
back_start q count h = record { short = h; same = refl }

module _ {q : Bytes} {count place : ℕ} (b : Back q count place) where
  pub back_none : place < 1 → 0 ≡ lit q count
  unfolding lit
  back_none h = let none : place ≡ 0 = omega arith in sym (b.same ∙ ap (lit q) none)

  module _ (t : Bool) (e : t ≡ in_character (get_or q place 0)) where
    pub back-here : t ≡ false → place ≡ lit q count
    unfolding lit
    back-here f = here place b.short (sym e ∙ f) ∙ sym b.same
      where
        here : (p : ℕ) → p < length q → in_character (get_or q p 0) ≡ false → p ≡ lit q p
        here zero h g = refl
        here (suc p) h g = sym (lit-here q (suc p) (omega arith) h g)

    pub back_more : t ≡ true → Back q count (place - 1)
    back_more f = record { short = omega (arith, b.short); same = b.same ∙ step place b.short (sym e ∙ f) }
      where
        step : (p : ℕ) → p < length q → in_character (get_or q p 0) ≡ true → lit q p ≡ lit q (p - 1)
        step zero h g = refl
        step (suc p) h g = let one : suc p - 1 ≡ p = omega arith in lit-back q p h g ∙ ap (lit q) (sym one)
