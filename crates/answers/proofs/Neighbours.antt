-- What is shared with the names beside a question's place.
--     Peak, peak-lit, peak-told     numbers that rise towards a place and fall behind it; so do those that are lit; the greatest is a neighbour's
--     shared-peak       what rising words share with a question are such numbers
-- Assumes nothing.
use Prim.Native.Nat.{ℕ, ◌-◌, ◌≤◌, ◌<◌, max}
use native.Mathlib.Nat.{lt_irrefl}
use native.Mathlib.Omega.{arith}
use mathlib.Core.Path.{◌≡◌, refl, sym, ap, ◌∙◌, subst}
use mathlib.Core.Logic.{◌⊎◌, inl, inr}
use mathlib.Core.Bool.{true, false}
use mathlib.Core.List.{List}
use lib.ListN.{length}
use borrow.Author.Tests.{le-ltb, lt-ltb}
use Rattle.words.specs.Rising.{Positive, Rises, nth}
use Rattle.words.specs.Words.{Bytes, Words, less, shared}
use Rattle.words.proofs.Rising.{nth-less, nth-positive}
use Rattle.words.proofs.Words.{Ordered, apart, between, equal, false≠true, greater, lesser, ordered, shared-comm, shared-le, shared-self, shared-trans}
use Rattle.answers.specs.Lit.{lit}
use Rattle.answers.specs.Neighbours.{ByNeighbours}
use Rattle.answers.specs.Questions.{place, reached}
use Rattle.answers.proofs.Lit.{lit-rises}
use Rattle.answers.proofs.Nearest.{reached-most, reached-within}
use Rattle.answers.proofs.Places.{place_at, place-le}

-- of so many numbers the greatest, which is one of them; up to the place they rise, from it on they fall
pub record Peak (number : ℕ → ℕ) (names place got : ℕ) : Type 0 where
  pub within : place ≤ names
  pub at : ℕ
  pub inside : at < names
  pub is : got ≡ number at
  pub most : (i : ℕ) → i < names → number i ≤ got
  pub up : (i : ℕ) → i < place → number i ≤ number (place - 1)
  pub down : (i : ℕ) → place ≤ i → i < names → number i ≤ number place

pub peak-lit : (q : Bytes) {number : ℕ → ℕ} {names place got : ℕ} → Peak number names place got → Peak (λ i. lit q (number i)) names place (lit q got)
peak-lit q {number} {names} {place} {got} p = record {
  within = p.within;
  at = p.at;
  inside = p.inside;
  is = ap (lit q) p.is;
  most = λ i h. lit-rises q (number i) got (p.most i h);
  up = λ i h. lit-rises q (number i) (number (place - 1)) (p.up i h);
  down = λ i l h. lit-rises q (number i) (number place) (p.down i l h);
}

pub peak-told : {number : ℕ → ℕ} {names place got : ℕ} → Peak number names place got → ByNeighbours number names place got
peak-told {number} {names} {place} {got} p = record {
  within = p.within;
  both = λ low high. two low high (apart p.at place);
  before = λ low last. omega (arith, p.is, p.up p.at (omega (arith, p.inside)), p.most (place - 1) (omega arith));
  behind = λ none high. omega (arith, p.is, p.down p.at (omega arith) p.inside, p.most place high);
  never = λ none last. lt_irrefl 0 (omega (arith, p.inside));
}
  where
    two : 0 < place → place < names → (p.at < place) ⊎ (place ≤ p.at) → got ≡ max (number (place - 1)) (number place)
    two low high (inl l) = omega (arith, p.is, p.up p.at l, p.most (place - 1) (omega (arith, p.within)), p.most place high)
    two low high (inr l) = omega (arith, p.is, p.down p.at l p.inside, p.most (place - 1) (omega (arith, p.within)), p.most place high)

-- ---- words

module _ (q : List ℕ) (ws : Words) (r : Rises ws) (pos : Positive q) where
  abbrev number : ℕ → ℕ
  number i = shared q (nth ws i)

  abbrev here : ℕ
  here = place q ws

  below : (i : ℕ) → i < length ws → i < here → less (nth ws i) q ≡ true
  below i l h = place_at q ws r i l ∙ lt-ltb i here h

  not-below : (i : ℕ) → i < length ws → here ≤ i → less (nth ws i) q ≡ false
  not-below i l h = place_at q ws r i l ∙ le-ltb i here h

  -- before the place words rise towards q
  up : (i : ℕ) → i < here → number i ≤ number (here - 1)
  up i h = go (apart i (here - 1))
    where
      go : (i < here - 1) ⊎ (here - 1 ≤ i) → number i ≤ number (here - 1)
      go (inl l) =
          let x : List ℕ = nth ws i in
          let y : List ℕ = nth ws (here - 1) in
          let n : shared x q ≤ shared x y = between x y q (nth-less ws i (here - 1) r l (omega (arith, place-le q ws))) (below (here - 1) (omega (arith, place-le q ws)) (omega arith)) in
          omega (arith, shared-comm q x, shared-comm q y, shared-trans y x q (shared x q) (omega (arith, shared-comm y x)) (omega arith))
      go (inr l) = let same : i ≡ here - 1 = omega arith in subst (λ (j : ℕ). number i ≤ number j) same (omega arith)

  -- from the place on they rise away from it
  down : (i : ℕ) → here ≤ i → i < length ws → number i ≤ number here
  down i h l = go (apart here i)
    where
      first : here < length ws
      first = omega arith

      -- the word at the place is q, or above it
      past : here < i → Ordered (nth ws here) q → number i ≤ number here
      past k (lesser m) = absurd (false≠true (sym (not-below here first (omega arith)) ∙ m))
      past k (equal e) = omega (arith, shared-le q (nth ws i), ap (shared q) e, shared-self q)
      past k (greater m) = between q (nth ws here) (nth ws i) m (nth-less ws here i r k l)

      go : (here < i) ⊎ (i ≤ here) → number i ≤ number here
      go (inl k) = past k (ordered (nth ws here) q (nth-positive ws here r) pos)
      go (inr k) = let same : i ≡ here = omega arith in subst (λ (j : ℕ). number i ≤ number j) same (omega arith)

  pub shared-peak : 0 < length ws → Peak (λ i. shared q (nth ws i)) (length ws) (place q ws) (shared q (nth ws (reached q ws)))
  shared-peak some = record {
    within = place-le q ws;
    at = reached q ws;
    inside = reached-within q ws r some;
    is = refl;
    most = λ i l. reached-most q ws r i l;
    up = up;
    down = down;
  }
