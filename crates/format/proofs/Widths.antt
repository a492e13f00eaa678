-- Laws of the greatest length of words.
--     widest-at, widest-one     no word is longer; a word by itself
--     Longest, widest-found     one of them is as long
--     widest-low                not more than a bound of all of them
--     widest-none       no words
--     widest-span               of two spans that meet, the greater
-- Assumes nothing.
use Prim.Native.Nat.{ℕ, zero, suc, ◌≤◌, ◌<◌, max}
use native.Mathlib.Nat.{le_of_suc-le-suc, not-suc-le-zero}
use native.Mathlib.Omega.{arith}
use mathlib.Core.Path.{◌≡◌, ap, ◌∙◌}
use mathlib.Core.Logic.{◌⊎◌, inl, inr}
use mathlib.Core.List.{[], ◌∷◌, ◌++◌}
use lib.ListN.{length}
use lib.Seq.{slice_empty}
use Rattle.words.specs.Rising.{All, cons, nil, nth, span}
use Rattle.words.specs.Words.{Words}
use Rattle.words.proofs.Rising.{span-one, span-split}
use Rattle.words.proofs.Words.{apart}
use Rattle.format.specs.Widths.{widest}

pub widest-at : (ws : Words) (i : ℕ) → i < length ws → length (nth ws i) ≤ widest ws
unfolding widest
widest-at [] i h = absurd (not-suc-le-zero h)
widest-at (w ∷ ws) zero h = omega arith
widest-at (w ∷ ws) (suc i) h = omega (arith, widest-at ws i (le_of_suc-le-suc h))

-- number `index` is a longest one
pub record Longest (ws : Words) : Type 0 where
  pub index : ℕ
  pub within : index < length ws
  pub is : length (nth ws index) ≡ widest ws

pub widest-found : (ws : Words) → 0 < length ws → Longest ws
unfolding widest
widest-found [] h = absurd (not-suc-le-zero h)
widest-found (w ∷ []) h = record { index = 0; within = omega arith; is = omega arith }
widest-found (w ∷ v ∷ vs) h = go (widest-found (v ∷ vs) (omega arith)) (apart (length w) (widest (v ∷ vs)))
  where
    go : Longest (v ∷ vs) → (length w < widest (v ∷ vs)) ⊎ (widest (v ∷ vs) ≤ length w) → Longest (w ∷ v ∷ vs)
    go l (inl a) = record { index = suc l.index; within = omega (arith, l.within); is = omega (arith, l.is) }
    go l (inr a) = record { index = 0; within = omega arith; is = omega arith }

pub widest-low : (n : ℕ) {ws : Words} → All (λ w. length w ≤ n) ws → widest ws ≤ n
unfolding widest
widest-low n nil = omega arith
widest-low n (cons l a) = omega (arith, widest-low n a)

widest-append : (xs ys : Words) → widest (xs ++ ys) ≡ max (widest xs) (widest ys)
unfolding widest
widest-append [] ys = omega arith
widest-append (x ∷ xs) ys = omega (arith, widest-append xs ys)

module _ (ws : Words) where
  pub widest-none : (lo : ℕ) → widest (span ws lo lo) ≡ 0
  unfolding widest
  widest-none lo = ap widest (slice_empty lo ws)

  pub widest-one : (lo : ℕ) → lo < length ws → widest (span ws lo (suc lo)) ≡ length (nth ws lo)
  unfolding widest
  widest-one lo h = ap widest (span-one ws lo h) ∙ omega arith

  pub widest-span : (lo mid hi : ℕ) → lo ≤ mid → mid ≤ hi → hi ≤ length ws → widest (span ws lo hi) ≡ max (widest (span ws lo mid)) (widest (span ws mid hi))
  widest-span lo mid hi a b l = ap widest (span-split ws lo mid hi a b l) ∙ widest-append (span ws lo mid) (span ws mid hi)
