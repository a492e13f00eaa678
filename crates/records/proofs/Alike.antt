-- The symbols that two names share, by the bytes that they share.
--     shared-both       what two words share is no longer than either
--     alike-on          bytes that are the same have the same symbols, so symbols are compared behind them
--     parted-behind     behind all the bytes that they share two names part
-- Assumes nothing.
use Prim.Native.Nat.{ℕ, zero, suc, ◌+◌, ◌-◌, ◌≤◌, ◌<◌, min}
use native.Mathlib.Nat.{add-zero, le_of_suc-le-suc, lt_irrefl, not-suc-le-zero}
use native.Mathlib.Decide.{ℕ_discrete}
use native.Mathlib.Omega.{arith}
use mathlib.Core.Path.{◌≡◌, refl, sym, ap, ap₂, ◌∙◌, subst}
use mathlib.Core.List.{List, [], ◌∷◌}
use lib.ListN.{length, length-drop, length-map, length-take, get_or, take}
use lib.Seq.{get_or-drop, get_or-take, slice}
use Rattle.words.specs.Words.{Bytes, Rule, shared, word}
use Rattle.words.proofs.Words.{shared-comm, shared-le, shared-more, shared-other, shared_same, word-front}
use Rattle.symbols.specs.Parting.{Parted}

pub shared-both : (x y : List ℕ) → shared x y ≤ min (length x) (length y)
shared-both x y = omega (arith, shared-le x y, shared-le y x, shared-comm x y)

shared-cut : (x y : List ℕ) (k : ℕ) → shared x y ≤ k → shared x y ≡ shared (take k x) (take k y)
unfolding shared
shared-cut x y zero h = omega arith
shared-cut [] y (suc k) h = refl
shared-cut (a ∷ x) [] (suc k) h = refl
shared-cut (a ∷ x) (b ∷ y) (suc k) h = elim (ℕ_discrete a b) [
  | yes e ↦
      let s : shared (a ∷ x) (b ∷ y) ≡ suc (shared x y) = shared_same a b x y e in
      s ∙ ap suc (shared-cut x y k (omega (arith, s))) ∙ sym (shared_same a b (take k x) (take k y) e)
  | no n ↦ shared-other a b x y n ∙ sym (shared-other a b (take k x) (take k y) n)
]

-- from byte number i on, and up to number k, where one of the names has ended
pub alike-on : (ρ : Rule) (x y : Bytes) (i k : ℕ) → i ≤ shared x y → i ≤ k → min (length x) (length y) ≤ k
    → shared (word ρ x) (word ρ y) ≡ i + shared (word ρ (slice i k x)) (word ρ (slice i k y))
unfolding shared
alike-on ρ x y zero k h l g =
    shared-cut (word ρ x) (word ρ y) k (omega (arith, shared-both (word ρ x) (word ρ y), length-map x ρ, length-map y ρ))
    ∙ ap₂ shared (sym (word-front ρ k x)) (sym (word-front ρ k y)) ∙ omega arith
alike-on ρ [] y (suc i) k h l g = absurd (not-suc-le-zero h)
alike-on ρ (a ∷ x) [] (suc i) k h l g = absurd (not-suc-le-zero h)
alike-on ρ (a ∷ x) (b ∷ y) (suc i) zero h l g = absurd (not-suc-le-zero l)
alike-on ρ (a ∷ x) (b ∷ y) (suc i) (suc k) h l g = elim (ℕ_discrete a b) [
  | yes e ↦
      let s : shared (a ∷ x) (b ∷ y) ≡ suc (shared x y) = shared_same a b x y e in
      shared_same (ρ a) (ρ b) (word ρ x) (word ρ y) (ap ρ e) ∙ ap suc (alike-on ρ x y i k (omega (arith, s)) (le_of_suc-le-suc l) (omega arith)) ∙ omega arith
  | no n ↦ absurd (not-suc-le-zero (subst (λ (m : ℕ). suc i ≤ m) (shared-other a b x y n) h))
]

-- of what is left up to number k, where there is any, byte number i is the first
module _ (x : Bytes) (i k : ℕ) (some : 0 < length (slice i k x)) where
  slice-there : (i < k) × (i < length x)
  slice-there =
      let size : length (slice i k x) ≡ min k (length x) - i = length-drop i (take k x) ∙ ap (λ (n : ℕ). n - i) (length-take k x) in
      (omega arith, omega arith)

  slice_first : get_or (slice i k x) 0 0 ≡ get_or x i 0
  slice_first = get_or-drop i (take k x) 0 0 ∙ ap (λ (n : ℕ). get_or (take k x) n 0) (add-zero i) ∙ get_or-take k x i 0 slice-there.0

pub parted-behind : (x y : Bytes) (i k : ℕ) → i ≡ shared x y → Parted (slice i k x) (slice i k y)
parted-behind x y i k all = record {
  differ = λ a b e.
      let same : get_or x i 0 ≡ get_or y i 0 = sym (slice_first x i k a) ∙ e ∙ slice_first y i k b in
      lt_irrefl i (omega (arith, shared-more x y i (omega arith) (slice-there x i k a).1 (slice-there y i k b).1 same));
}
