-- The order of names, over any rule; where it is said, over any lawful one.
--     order-irreflexive, order-transitive
--     order-total       of two names one is less, or their words are equal
--     order-extends     a name comes before its own extensions
-- Assumes nothing.
use Prim.Native.Nat.{◌<◌}
use native.Mathlib.Omega.{arith}
use mathlib.Core.Path.{◌≡◌, ap, ◌∙◌}
use mathlib.Core.Bool.{true, false}
use mathlib.Core.List.{◌++◌, map-append}
use lib.ListN.{length, length-map}
use Rattle.words.specs.Words.{Bytes, Rule, less, word}
use Rattle.words.proofs.Words.{Ordered, less-extends, less-irrefl, less-trans, ordered}
use Rattle.theorems.specs.Layouts.{Lettered}
use Rattle.theorems.proofs.Lettered.{lettered-positive}

module _ (ρ : Rule) where
  pub order-irreflexive : (x : Bytes) → less (word ρ x) (word ρ x) ≡ false
  order-irreflexive x = less-irrefl (word ρ x)

  pub order-transitive : (x y z : Bytes) → less (word ρ x) (word ρ y) ≡ true → less (word ρ y) (word ρ z) ≡ true → less (word ρ x) (word ρ z) ≡ true
  order-transitive x y z h k = less-trans (word ρ x) (word ρ y) (word ρ z) h k

  pub order-total : (x y : Bytes) → Lettered ρ x → Lettered ρ y → Ordered (word ρ x) (word ρ y)
  order-total x y a b = ordered (word ρ x) (word ρ y) (lettered-positive ρ x a) (lettered-positive ρ y b)

  pub order-extends : (x y : Bytes) → Lettered ρ y → 0 < length y → less (word ρ x) (word ρ (x ++ y)) ≡ true
  order-extends x y b h =
      ap (less (word ρ x)) (map-append ρ x y) ∙ less-extends (word ρ x) (word ρ y) (lettered-positive ρ y b) (omega (arith, length-map y ρ))
