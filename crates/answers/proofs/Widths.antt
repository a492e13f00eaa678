-- Laws of the fifth question.
--     ask-width             it is kind 5
--     width-append          of two lists, the greater
--     width-all, width-none     where all words begin with q it is the greatest length of all; where none does it is 0
--     width-at              no word that begins with q is longer
--     Wide, width_some, width-found     where the width is not 0, or a word begins with q, one that does is as long
-- Assumes nothing.
use Prim.Native.Nat.{ℕ, zero, suc, ◌≤◌, ◌<◌, max}
use native.Mathlib.Nat.{le_of_suc-le-suc, not-suc-le-zero}
use native.Mathlib.Omega.{arith}
use mathlib.Core.Path.{◌≡◌, refl}
use mathlib.Core.Logic.{inl, inr}
use mathlib.Core.Bool.{Bool, true, false}
use mathlib.Core.List.{List, [], ◌∷◌, ◌++◌}
use lib.ListN.{length}
use Rattle.words.specs.Rising.{All, cons, nth}
use Rattle.words.specs.Words.{Words, begins, pick}
use Rattle.words.proofs.Words.{apart}
use Rattle.format.specs.Widths.{widest}
use Rattle.answers.specs.Questions.{ask}
use Rattle.answers.specs.Widths.{width}

pub ask-width : (q : List ℕ) (ws : Words) → ask 5 q ws ≡ (width q ws, 0)
unfolding ask
ask-width q ws = refl

module _ (q : List ℕ) where
  pub width-append : (xs ys : Words) → width q (xs ++ ys) ≡ max (width q xs) (width q ys)
  unfolding width
  width-append [] ys = omega arith
  width-append (x ∷ xs) ys = go (begins q x) (width-append xs ys)
    where
      go : (t : Bool) → width q (xs ++ ys) ≡ max (width q xs) (width q ys)
          → pick t (max (length x) (width q (xs ++ ys))) (width q (xs ++ ys)) ≡ max (pick t (max (length x) (width q xs)) (width q xs)) (width q ys)
      go true e = omega arith
      go false e = e

  pub width-all : (xs : Words) → All (λ y. begins q y ≡ true) xs → width q xs ≡ widest xs
  unfolding width widest
  width-all [] a = refl
  width-all (x ∷ xs) (cons h t) = rw h (omega (arith, width-all xs t))

  pub width-none : (xs : Words) → All (λ y. begins q y ≡ false) xs → width q xs ≡ 0
  unfolding width
  width-none [] a = refl
  width-none (x ∷ xs) (cons h t) = rw h (width-none xs t)

  pub width-at : (ws : Words) (i : ℕ) → i < length ws → begins q (nth ws i) ≡ true → length (nth ws i) ≤ width q ws
  unfolding width
  width-at [] i l h = absurd (not-suc-le-zero l)
  width-at (w ∷ ws) zero l h = rw h (omega arith)
  width-at (w ∷ ws) (suc i) l h = go (begins q w) (width-at ws i (le_of_suc-le-suc l) h)
    where
      go : (t : Bool) → length (nth ws i) ≤ width q ws → length (nth ws i) ≤ pick t (max (length w) (width q ws)) (width q ws)
      go true e = omega arith
      go false e = e

  -- word number `index` begins with q and is as long as the width
  pub record Wide (ws : Words) : Type 0 where
    pub index : ℕ
    pub within : index < length ws
    pub begun : begins q (nth ws index) ≡ true
    pub is : length (nth ws index) ≡ width q ws

  pub width_some : (ws : Words) → 0 < width q ws → Wide ws
  unfolding width
  width_some [] h = absurd (not-suc-le-zero h)
  width_some (w ∷ ws) h = go (width_some ws) (begins q w) refl h
    where
      go : (0 < width q ws → Wide ws) → (t : Bool) → begins q w ≡ t → 0 < pick t (max (length w) (width q ws)) (width q ws) → Wide (w ∷ ws)
      go more false e l = let k = more l in record { index = suc k.index; within = omega (arith, k.within); begun = k.begun; is = rw e k.is }
      go more true e l = elim (apart (length w) (width q ws)) [
        | inl a ↦ let k = more (omega arith) in record { index = suc k.index; within = omega (arith, k.within); begun = k.begun; is = rw e (omega (arith, k.is)) }
        | inr a ↦ record { index = 0; within = omega arith; begun = e; is = rw e (omega arith) }
      ]

  -- word number i begins with q
  pub width-found : (ws : Words) (i : ℕ) → i < length ws → begins q (nth ws i) ≡ true → Wide ws
  width-found ws i l h = elim (apart 0 (width q ws)) [
    | inl a ↦ width_some ws a
    | inr a ↦ record { index = i; within = l; begun = h; is = omega (arith, width-at ws i l h) }
  ]
