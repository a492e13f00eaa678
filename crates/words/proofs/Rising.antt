-- Rising lists of words, as a whole, by position and by span.
--     Above, rises-left, rises-right
--     nth-word, nth-positive, nth-less    what a rising list says of its words by position
--     span-split, -cons, -one, -two, -length, -rises
--     span-all                  what holds at every position of a span holds of all its words
-- Assumes nothing.
use Prim.Native.Nat.{ℕ, zero, suc, ◌+◌, ◌-◌, ◌≤◌, ◌<◌}
use native.Mathlib.Nat.{le_of_suc-le-suc, not-suc-le-zero}
use native.Mathlib.Omega.{arith}
use mathlib.Core.Path.{◌≡◌, refl, sym, ap, ◌∙◌, subst}
use mathlib.Core.Bool.{true}
use mathlib.Core.List.{map, List, [], ◌∷◌, ◌++◌}
use lib.ListN.{length, get_or, take, drop, take-append-drop}
use lib.Seq.{slice_empty, slice-cons, length-slice, take-take, drop-append-le, length-take-le}
use Rattle.words.specs.Rising.{All, Positive, Rises, cons, nil, rise, span, start, nth}
use Rattle.words.specs.Words.{Bytes, Rule, Words, less, word}
use Rattle.words.proofs.Lists.{all-at, all_left}

abbrev pub Above : List ℕ → Words → Type 0
Above w ws = All (λ v. less w v ≡ true) ws

pub rises-left : (xs ys : Words) → Rises (xs ++ ys) → Rises xs
rises-left [] ys r = start
rises-left (x ∷ xs) ys (rise p a r) = rise p (all_left xs ys a) (rises-left xs ys r)

pub rises-right : (xs ys : Words) → Rises (xs ++ ys) → Rises ys
rises-right [] ys r = r
rises-right (x ∷ xs) ys (rise p a r) = rises-right xs ys r

-- the word of a name by position
pub nth-word : (ρ : Rule) (xs : List Bytes) (i : ℕ) → nth (map (word ρ) xs) i ≡ word ρ (get_or xs i [])
nth-word ρ [] i = refl
nth-word ρ (x ∷ xs) zero = refl
nth-word ρ (x ∷ xs) (suc i) = nth-word ρ xs i

module _ (ws : Words) where
  pub nth-positive : (i : ℕ) → Rises ws → Positive (nth ws i)
  nth-positive i r = go ws i r
    where
      go : (vs : Words) (j : ℕ) → Rises vs → Positive (get_or vs j [])
      go [] j s = tt
      go (v ∷ vs) zero (rise p a s) = p
      go (v ∷ vs) (suc j) (rise p a s) = go vs j s

  pub nth-less : (i j : ℕ) → Rises ws → i < j → j < length ws → less (nth ws i) (nth ws j) ≡ true
  nth-less i j r a b = go ws i j r a b
    where
      go : (vs : Words) (m n : ℕ) → Rises vs → m < n → n < length vs → less (get_or vs m []) (get_or vs n []) ≡ true
      go [] m n s l k = absurd (not-suc-le-zero k)
      go (v ∷ vs) m zero s l k = absurd (not-suc-le-zero l)
      go (v ∷ vs) zero (suc n) (rise p h s) l k = all-at [] vs h n (le_of_suc-le-suc k)
      go (v ∷ vs) (suc m) (suc n) (rise p h s) l k = go vs m n s (le_of_suc-le-suc l) (le_of_suc-le-suc k)

  pub span-split : (lo mid hi : ℕ) → lo ≤ mid → mid ≤ hi → hi ≤ length ws → span ws lo hi ≡ span ws lo mid ++ span ws mid hi
  span-split lo mid hi a b c =
      ap (drop lo) (sym (take-append-drop mid (take hi ws)) ∙ ap (λ (r : Words). r ++ span ws mid hi) (take-take mid hi ws b))
      ∙ drop-append-le lo (take mid ws) (span ws mid hi) (omega (arith, length-take-le mid ws (omega arith)))

  pub span-cons : (lo hi : ℕ) → lo < hi → hi ≤ length ws → span ws lo hi ≡ nth ws lo ∷ span ws (suc lo) hi
  span-cons lo hi a b = slice-cons lo hi ws [] a b

  pub span-one : (lo : ℕ) → lo < length ws → span ws lo (suc lo) ≡ nth ws lo ∷ []
  span-one lo a = span-cons lo (suc lo) (omega arith) a ∙ ap (λ (r : Words). nth ws lo ∷ r) (slice_empty (suc lo) ws)

  pub span-rises : (lo hi : ℕ) → Rises ws → Rises (span ws lo hi)
  span-rises lo hi r =
      rises-right (take lo (take hi ws)) (span ws lo hi)
      (subst Rises (sym (take-append-drop lo (take hi ws))) (rises-left (take hi ws) (drop hi ws) (subst Rises (sym (take-append-drop hi ws)) r)))

  pub span-two : (lo hi : ℕ) → suc lo < hi → hi ≤ length ws → span ws lo hi ≡ nth ws lo ∷ nth ws (suc lo) ∷ span ws (suc (suc lo)) hi
  span-two lo hi a b =
      span-cons lo hi (omega arith) b ∙ ap (λ (r : Words). nth ws lo ∷ r) (span-cons (suc lo) hi a b)

  pub span-length : (lo hi : ℕ) → hi ≤ length ws → length (span ws lo hi) ≡ hi - lo
  span-length lo hi b = length-slice lo hi ws b

  spans : {P : List ℕ → Type 0} (k lo hi : ℕ) → lo + k ≡ hi → hi ≤ length ws → ((i : ℕ) → lo ≤ i → i < hi → P (nth ws i)) → All P (span ws lo hi)
  spans {P = P} zero lo hi e b h =
      let f : lo ≡ hi = omega arith in
      subst (λ (j : ℕ). All P (span ws lo j)) f (subst (All P) (sym (slice_empty lo ws)) nil)
  spans {P = P} (suc k) lo hi e b h =
      subst (All P) (sym (slice-cons lo hi ws [] (omega arith) b))
      (cons (h lo (omega arith) (omega arith)) (spans k (suc lo) hi (omega arith) b (λ i l m. h i (omega arith) m)))

  pub span-all : {P : List ℕ → Type 0} (lo hi : ℕ) → lo ≤ hi → hi ≤ length ws → ((i : ℕ) → lo ≤ i → i < hi → P (nth ws i)) → All P (span ws lo hi)
  span-all lo hi a b h = spans (hi - lo) lo hi (omega arith) b h
