-- What a question answers is what the plain sorted list answers, for names under any lawful rule.
--     place-below       a name is less than the question just where it stands before the question's place
--     range-is          the names that begin with the question are those from its place on, as many as the range says
--     exact-is          a name that equals the question stands at its place
--     exact-finds       every name is found at its position, also where it is a beginning of others
--     nearest-greatest  on the plain list: nearest's number is what its name shares with the question, and no name shares more
--     before-bytes      document 01's order of names is that of their bytes
--     place-bytes, range-bytes, exact_bytes, nearest-bytes     the same in bytes, under document 01's rule
-- Assumes nothing.
use Prim.Native.Nat.{ℕ, ◌+◌, ◌≤◌, ◌<◌}
use native.Mathlib.Decide.{ℕ_discrete}
use native.Mathlib.Omega.{arith}
use mathlib.Core.Path.{◌≡◌, refl, sym, ap, ap₂, ◌∙◌, subst}
use mathlib.Core.Logic.{◌⊎◌, inl, inr}
use mathlib.Core.Bool.{Bool, false, true}
use mathlib.Core.List.{List, [], ◌∷◌, map}
use lib.Dec.{eqb, leb, ltb}
use lib.ListN.{length, get_or, length-map}
use borrow.Author.Tests.{eq-eqb, le-ltb, lt-ltb, ltb-true, ne_eqb}
use Rattle.words.specs.Rising.{Rises, nth}
use Rattle.words.specs.Words.{Bytes, Rule, Words, begins, both, less, pick, plain, same, shared, word}
use Rattle.words.proofs.Rising.{nth-word}
use Rattle.words.proofs.Words.{apart, both_true, less-nil, less_other, less-same, less-start, plain-injective, same_true, shared-word, word-injective}
use Rattle.format.specs.Records.{sound}
use Rattle.format.proofs.Records.{sound-rising, symbols-rises}
use Rattle.answers.specs.Lit.{lit}
use Rattle.answers.specs.Questions.{Pair, answer, ask, nearest, place, range, reached}
use Rattle.theorems.specs.Demands.{Greatest, comes_before}
use Rattle.format.specs.Kinds.{PlainBook}
use Rattle.theorems.specs.Layouts.{AllLettered, Lettered}
use Rattle.theorems.proofs.Lettered.{kind-lettered, kind-names, lettered-positive, names-symbols}
use Rattle.answers.proofs.Nearest.{reached-most, reached-within}
use Rattle.answers.proofs.Places.{exact-place, place_at, range_at}
use Rattle.descent.proofs.Cuts.{exact-here}

module _ (ρ : Rule) (xs : List Bytes) (letters : AllLettered ρ xs) (is : sound ρ xs ≡ true) (q : Bytes) where
  -- a name's word
  abbrev pub the_word : ℕ → List ℕ
  the_word i = word ρ (get_or xs i [])

  ws : Words
  ws = map (word ρ) xs

  rises : Rises (map (word ρ) xs)
  rises = symbols-rises ρ xs (names-symbols ρ xs letters) (sound-rising ρ xs is)

  inside : {i : ℕ} → i < length xs → i < length (map (word ρ) xs)
  inside h = omega (arith, length-map xs (word ρ))

  pub place-below : (i : ℕ) → i < length xs → less (the_word i) (word ρ q) ≡ ltb i (answer ρ 2 q xs).0
  unfolding answer ask
  place-below i h = ap (λ (w : List ℕ). less w (word ρ q)) (sym (nth-word ρ xs i)) ∙ place_at (word ρ q) (map (word ρ) xs) rises i (inside h)

  pub range-is : (i : ℕ) → i < length xs
      → begins (word ρ q) (the_word i) ≡ both (leb (answer ρ 3 q xs).0 i) (ltb i ((answer ρ 3 q xs).0 + (answer ρ 3 q xs).1))
  unfolding answer ask range
  range-is i h = ap (begins (word ρ q)) (sym (nth-word ρ xs i)) ∙ range_at (word ρ q) (map (word ρ) xs) rises i (inside h)

  pub range-place : (answer ρ 3 q xs).0 ≡ (answer ρ 2 q xs).0
  unfolding answer ask range
  range-place = refl

  pub exact-is : Lettered ρ q → let p = (answer ρ 2 q xs).0 in
      answer ρ 1 q xs ≡ pick (both (ltb p (length xs)) (same (the_word p) (word ρ q))) (p, 1) (0, 0)
  unfolding answer ask
  exact-is own =
      let p : ℕ = place (word ρ q) (map (word ρ) xs) in
      exact-place (word ρ q) (map (word ρ) xs) (lettered-positive ρ q own) rises
      ∙ ap₂ (λ (n : ℕ) (w : List ℕ). pick (both (ltb p n) (same w (word ρ q))) (p, 1) (0, 0)) (length-map xs (word ρ)) (nth-word ρ xs p)

  pub exact-finds : Lettered ρ q → (i : ℕ) → i < length xs → the_word i ≡ word ρ q → answer ρ 1 q xs ≡ (i, 1)
  unfolding answer ask
  exact-finds own i h e = exact-here (map (word ρ) xs) (word ρ q) rises (lettered-positive ρ q own) i (inside h) (nth-word ρ xs i ∙ e)

  pub nearest-greatest : 0 < length xs → Greatest ρ q xs (nearest (word ρ q) (map (word ρ) xs))
  unfolding nearest
  nearest-greatest h =
      let r : ℕ = reached (word ρ q) (map (word ρ) xs) in
      record {
        within = omega (arith, length-map xs (word ρ), reached-within (word ρ q) (map (word ρ) xs) rises (omega (arith, length-map xs (word ρ))));
        shares = ap (shared (word ρ q)) (nth-word ρ xs r);
        most = λ i l. subst (λ (w : List ℕ). shared (word ρ q) w ≤ shared (word ρ q) (nth (map (word ρ) xs) r)) (nth-word ρ xs i)
            (reached-most (word ρ q) (map (word ρ) xs) rises i (inside l));
      }

-- ---- in bytes

pub before-bytes : (x y : Bytes) → less (word plain x) (word plain y) ≡ comes_before x y
unfolding comes_before
before-bytes [] [] = less-nil []
before-bytes [] (b ∷ y) = less-start (plain b) (word plain y) ∙ lt-ltb 0 (plain b) (omega arith)
before-bytes (a ∷ x) [] = less-nil (word plain (a ∷ x))
before-bytes (a ∷ x) (b ∷ y) = elim (ℕ_discrete a b) [
  | yes e ↦ less-same (plain a) (plain b) (word plain x) (word plain y) (ap plain e) ∙ before-bytes x y
      ∙ ap (λ (t : Bool). pick t (comes_before x y) (ltb a b)) (sym (eq-eqb a b e))
  | no n ↦ less_other (plain a) (plain b) (word plain x) (word plain y) (λ e. n (plain-injective a b e)) ∙ plain-ltb (apart a b)
      ∙ ap (λ (t : Bool). pick t (comes_before x y) (ltb a b)) (sym (ne_eqb a b n))
]
  where
    plain-ltb : (a < b) ⊎ (b ≤ a) → ltb (plain a) (plain b) ≡ ltb a b
    plain-ltb (inl l) = lt-ltb (plain a) (plain b) (omega arith) ∙ sym (lt-ltb a b l)
    plain-ltb (inr l) = le-ltb (plain a) (plain b) (omega arith) ∙ sym (le-ltb a b l)

module _ (xs : List Bytes) (is : sound plain xs ≡ true) (q : Bytes) where
  -- the names before the question are those up to its place
  pub place-bytes : (i : ℕ) → i < length xs → comes_before (get_or xs i []) q ≡ ltb i (answer plain 2 q xs).0
  place-bytes i h = sym (before-bytes (get_or xs i []) q) ∙ place-below plain xs (kind-names PlainBook xs) is q i h

  -- the names that have the question's bytes in front are those of the range
  pub range-bytes : (i : ℕ) → i < length xs
      → begins q (get_or xs i []) ≡ both (leb (answer plain 3 q xs).0 i) (ltb i ((answer plain 3 q xs).0 + (answer plain 3 q xs).1))
  unfolding begins
  range-bytes i h =
      ap₂ (λ (a b : ℕ). eqb a b) (sym (shared-word plain plain-injective q (get_or xs i []))) (sym (length-map q plain)) ∙ range-is plain xs (kind-names PlainBook xs) is q i h

  -- the question is name number i, or it is no name
  pub exact_bytes : ((i : ℕ) → i < length xs → get_or xs i [] ≡ q → answer plain 1 q xs ≡ (i, 1))
      × (((i : ℕ) → i < length xs → get_or xs i [] ≡ q → ⊥) → answer plain 1 q xs ≡ (0, 0))
  exact_bytes = (λ i h e. exact-finds plain xs (kind-names PlainBook xs) is q (kind-lettered PlainBook q) i h (ap (word plain) e), λ n. exact-is plain xs (kind-names PlainBook xs) is q (kind-lettered PlainBook q) ∙ none n)
    where
      p : ℕ
      p = (answer plain 2 q xs).0

      none : ((i : ℕ) → i < length xs → get_or xs i [] ≡ q → ⊥)
          → ◌≡◌ {A = Pair} (pick (both (ltb p (length xs)) (same (word plain (get_or xs p [])) (word plain q))) (p, 1) (0, 0)) (0, 0)
      none n = go (both (ltb p (length xs)) (same (word plain (get_or xs p [])) (word plain q))) refl
        where
          go : (t : Bool) → both (ltb p (length xs)) (same (word plain (get_or xs p [])) (word plain q)) ≡ t → ◌≡◌ {A = Pair} (pick t (p, 1) (0, 0)) (0, 0)
          go false e = refl
          go true e =
              let b = both_true (ltb p (length xs)) (same (word plain (get_or xs p [])) (word plain q)) e in
              absurd (n p (ltb-true p (length xs) b.0) (word-injective plain plain-injective (get_or xs p []) q (same_true (word plain (get_or xs p [])) (word plain q) b.1)))

-- shared symbols are shared bytes; of those that nearest's name shares what can be lit is given
pub nearest-bytes : (xs : List Bytes) → sound plain xs ≡ true → (q : Bytes) → 0 < length xs
    → let p = (answer plain 4 q xs).0 in ((answer plain 4 q xs).1 ≡ lit q (shared q (get_or xs p []))) × ((i : ℕ) → i < length xs → shared q (get_or xs i []) ≤ shared q (get_or xs p []))
unfolding answer ask
nearest-bytes xs is q h =
    let g = nearest-greatest plain xs (kind-names PlainBook xs) is q h in
    let same : (nearest (word plain q) (map (word plain) xs)).1 ≡ shared q (get_or xs (nearest (word plain q) (map (word plain) xs)).0 []) = g.shares ∙ shared-word plain plain-injective q _ in
    (ap (lit q) same, λ i l. omega (arith, same, g.most i l, shared-word plain plain-injective q (get_or xs i [])))
