-- Laws of the union of two lists of names.
--     kept-none, kept-all, among-kept, kept-among     the names that pass a test
--     merged-none, merged-first, merged-second, merged-both     name by name: the other list has ended; the lesser head is the first list's, the second's, both
--     rising-only, rising-drop, merged-rises      names that rise from one on rise by themselves; so do the last of them; the union of rising lists rises
--     among-left, among-word, among-right, among-either     a name is in the union just where it is in one of the two
-- Assumes nothing.
use Prim.Native.Nat.{ℕ, zero, suc, ◌+◌, ◌≤◌}
use native.Mathlib.Nat.{lt_irrefl}
use native.Mathlib.Omega.{arith}
use mathlib.Core.Path.{◌≡◌, refl, sym, ap, ◌∙◌, subst}
use mathlib.Core.Logic.{◌⊎◌, inl, inr}
use mathlib.Core.Bool.{Bool, true, false}
use mathlib.Core.List.Memᴰ
use mathlib.Core.List.Memᴰ.{head as here}
use mathlib.Core.List.Memᴰ.{tail as there}
use mathlib.Core.List.{List, Memᴰ as Among, [], ◌∷◌, ◌++◌}
use lib.ListN.{drop, length}
use borrow.Author.Tests.{lt-ltb}
use Rattle.words.specs.Rising.{All, cons, nil, Sure}
use Rattle.words.specs.Words.{Bytes, Rule, less, pick, word}
use Rattle.words.proofs.Lists.{all_map}
use Rattle.words.proofs.Members.{From}
use Rattle.words.proofs.Words.{Ordered, equal, greater, less-asym, less-irrefl, less-start, less-trans, lesser, ordered, word-positive}
use Rattle.format.specs.Records.{good_length, rising}
use Rattle.format.specs.Merging.{kept, merged}
use Rattle.format.proofs.Records.{good_length_lem, rising-first}

-- ---- the names that pass a test

module _ (f : Bytes → Bool) where
  kept-none : (ys : List Bytes) → All (λ y. f y ≡ false) ys → kept f ys ≡ []
  unfolding kept
  kept-none [] a = refl
  kept-none (y ∷ ys) (cons h a) = rw h (kept-none ys a)

  kept-all : (ys : List Bytes) → All (λ y. f y ≡ true) ys → kept f ys ≡ ys
  unfolding kept
  kept-all [] a = refl
  kept-all (y ∷ ys) (cons h a) = rw h (ap (λ (l : List Bytes). y ∷ l) (kept-all ys a))

  among-kept : {z : Bytes} (ys : List Bytes) → Among z (kept f ys) → Among z ys
  unfolding kept
  among-kept [] m = m
  among-kept {z} (y ∷ ys) m = go (among-kept ys) (f y) m
    where
      go : (Among z (kept f ys) → Among z ys) → (t : Bool) → Among z (pick t (y ∷ kept f ys) (kept f ys)) → Among z (y ∷ ys)
      go more true (here e) = here e
      go more true (there k) = there (more k)
      go more false k = there (more k)

  pub kept-among : {z : Bytes} (ys : List Bytes) → f z ≡ true → Among z ys → Among z (kept f ys)
  unfolding kept
  kept-among [] h m = m
  kept-among {z} (y ∷ ys) h (here e) = let k : f y ≡ true = ap f (sym e) ∙ h in rw k (here e)
  kept-among {z} (y ∷ ys) h (there m) = go (f y) (kept-among ys h m)
    where
      go : (t : Bool) → Among z (kept f ys) → Among z (pick t (y ∷ kept f ys) (kept f ys))
      go true k = there k
      go false k = k

abbrev pub below : Rule → Bytes → List Bytes → List Bytes
below ρ x ys = kept (λ y. less (word ρ y) (word ρ x)) ys

abbrev pub above : Rule → Bytes → List Bytes → List Bytes
above ρ x ys = kept (λ y. less (word ρ x) (word ρ y)) ys

-- ---- names that rise from one on are all above it

module _ (ρ : Rule) where
  abbrev AllAbove : Bytes → List Bytes → Type 0
  AllAbove x ys = All (λ y. less (word ρ x) (word ρ y) ≡ true) ys

  rising-above : (x : Bytes) (ys : List Bytes) → rising ρ x ys ≡ true → AllAbove x ys
  rising-above x [] r = nil
  rising-above x (y ∷ ys) r =
      let f = rising-first ρ x y ys r in
      cons f.above (all_map (λ z k. less-trans (word ρ x) (word ρ y) (word ρ z) f.above k) (rising-above y ys f.rest))

  -- none of the names above x is below it
  not-below : (x : Bytes) (ys : List Bytes) → AllAbove x ys → All (λ y. less (word ρ y) (word ρ x) ≡ false) ys
  not-below x ys a = all_map (λ y k. less-asym (word ρ x) (word ρ y) k) a

  -- names that rise from one on rise from the empty word on
  pub rising-only : Sure ρ → (x : Bytes) (ys : List Bytes) → rising ρ x ys ≡ true → rising ρ [] ys ≡ true
  unfolding rising
  rising-only ok x [] r = refl
  rising-only ok x (y ∷ ys) r = let f = rising-first ρ x y ys r in rw (f.size, first_above y f.size, f.rest) refl
    where
      first_above : (z : Bytes) → good_length (length z) ≡ true → less (word ρ []) (word ρ z) ≡ true
      first_above [] g = absurd (lt_irrefl 0 (good_length_lem 0 g).0)
      first_above (c ∷ z) g = less-start (ρ c) (word ρ z) ∙ lt-ltb 0 (ρ c) (ok.low c)

  pub rising-drop : Sure ρ → (i : ℕ) (xs : List Bytes) → rising ρ [] xs ≡ true → rising ρ [] (drop i xs) ≡ true
  unfolding rising
  rising-drop ok zero xs r = r
  rising-drop ok (suc i) [] r = r
  rising-drop ok (suc i) (x ∷ xs) r = rising-drop ok i xs (rising-only ok x xs (rising-first ρ [] x xs r).rest)

  -- ---- name by name

  pub merged-none : (xs : List Bytes) → merged ρ xs [] ≡ xs
  unfolding merged kept
  merged-none [] = refl
  merged-none (x ∷ xs) = ap (λ (l : List Bytes). x ∷ l) (merged-none xs)

  module _ (x y : Bytes) (xs ys : List Bytes) where
    pub merged-first : less (word ρ x) (word ρ y) ≡ true → rising ρ y ys ≡ true → merged ρ (x ∷ xs) (y ∷ ys) ≡ x ∷ merged ρ xs (y ∷ ys)
    unfolding merged
    merged-first h r =
        let a : AllAbove x (y ∷ ys) = cons h (all_map (λ z k. less-trans (word ρ x) (word ρ y) (word ρ z) h k) (rising-above y ys r)) in
        rw (kept-none _ (y ∷ ys) (not-below x (y ∷ ys) a), kept-all _ (y ∷ ys) a)

    pub merged-second : less (word ρ y) (word ρ x) ≡ true → merged ρ (x ∷ xs) (y ∷ ys) ≡ y ∷ merged ρ (x ∷ xs) ys
    unfolding merged kept
    merged-second h = rw (h, less-asym (word ρ y) (word ρ x) h) refl

    pub merged-both : word ρ x ≡ word ρ y → rising ρ y ys ≡ true → merged ρ (x ∷ xs) (y ∷ ys) ≡ x ∷ merged ρ xs ys
    unfolding merged kept
    merged-both e r =
        let same : less (word ρ x) (word ρ y) ≡ false = ap (less (word ρ x)) (sym e) ∙ less-irrefl (word ρ x) in
        let back : less (word ρ y) (word ρ x) ≡ false = ap (λ (w : List ℕ). less w (word ρ x)) (sym e) ∙ less-irrefl (word ρ x) in
        let a : AllAbove x ys = subst (λ (w : List ℕ). All (λ z. less w (word ρ z) ≡ true) ys) (sym e) (rising-above y ys r) in
        rw (same, back, kept-none _ ys (not-below x ys a), kept-all _ ys a) refl

  -- ---- it rises

  rises-cons : (prev x : Bytes) (xs : List Bytes) → good_length (length x) ≡ true → less (word ρ prev) (word ρ x) ≡ true → rising ρ x xs ≡ true → rising ρ prev (x ∷ xs) ≡ true
  unfolding rising
  rises-cons prev x xs g l r = rw (g, l, r) refl

  module _ (ok : Sure ρ) where
    -- f bounds how many names there are in both
    rises-within : (f : ℕ) (prev : Bytes) (xs ys : List Bytes) → length xs + length ys ≤ f → rising ρ prev xs ≡ true → rising ρ prev ys ≡ true → rising ρ prev (merged ρ xs ys) ≡ true
    unfolding merged rising
    rises-within f prev [] ys l r t = t
    rises-within f prev (x ∷ xs) [] l r t = subst (λ (zs : List Bytes). rising ρ prev zs ≡ true) (sym (merged-none (x ∷ xs))) r
    rises-within zero prev (x ∷ xs) (y ∷ ys) l r t = absurd (lt_irrefl 0 (omega arith))
    rises-within (suc f) prev (x ∷ xs) (y ∷ ys) l r t =
        let a = rising-first ρ prev x xs r in
        let b = rising-first ρ prev y ys t in
        elim (ordered (word ρ x) (word ρ y) (word-positive ρ ok x) (word-positive ρ ok y)) [
          | lesser h ↦ subst (λ (zs : List Bytes). rising ρ prev zs ≡ true) (sym (merged-first x y xs ys h b.rest))
              (rises-cons prev x (merged ρ xs (y ∷ ys)) a.size a.above (rises-within f x xs (y ∷ ys) (omega arith) a.rest (rises-cons x y ys b.size h b.rest)))
          | equal e ↦ subst (λ (zs : List Bytes). rising ρ prev zs ≡ true) (sym (merged-both x y xs ys e b.rest))
              (rises-cons prev x (merged ρ xs ys) a.size a.above (rises-within f x xs ys (omega arith) a.rest (same_start e ys b.rest)))
          | greater h ↦ subst (λ (zs : List Bytes). rising ρ prev zs ≡ true) (sym (merged-second x y xs ys h))
              (rises-cons prev y (merged ρ (x ∷ xs) ys) b.size b.above (rises-within f y (x ∷ xs) ys (omega arith) (rises-cons y x xs a.size h a.rest) b.rest))
        ]
      where
        -- what rises from y on rises from x on, whose word is the same
        same_start : word ρ x ≡ word ρ y → (zs : List Bytes) → rising ρ y zs ≡ true → rising ρ x zs ≡ true
        same_start e [] k = refl
        same_start e (z ∷ zs) k =
            let c = rising-first ρ y z zs k in
            rises-cons x z zs c.size (ap (λ (w : List ℕ). less w (word ρ z)) e ∙ c.above) c.rest

    pub merged-rises : (xs ys : List Bytes) → rising ρ [] xs ≡ true → rising ρ [] ys ≡ true → rising ρ [] (merged ρ xs ys) ≡ true
    merged-rises xs ys r t = rises-within (length xs + length ys) [] xs ys (omega arith) r t

  -- ---- whose names are in it

  pub among-either : {z : Bytes} (xs ys : List Bytes) → Among z (merged ρ xs ys) → (Among z xs) ⊎ (Among z ys)
  unfolding merged
  among-either [] ys m = inr m
  among-either {z} (x ∷ xs) ys m = go (among-either xs (above ρ x ys)) (Memᴰ.append_cases (below ρ x ys) m)
    where
      go : (Among z (merged ρ xs (above ρ x ys)) → (Among z xs) ⊎ (Among z (above ρ x ys))) → (Among z (below ρ x ys)) ⊎ (Among z (x ∷ merged ρ xs (above ρ x ys))) → (Among z (x ∷ xs)) ⊎ (Among z ys)
      go more (inl k) = inr (among-kept _ ys k)
      go more (inr (here e)) = inl (here e)
      go more (inr (there k)) = elim (more k) [
        | inl a ↦ inl (there a)
        | inr b ↦ inr (among-kept _ ys b)
      ]

  pub among-left : {z : Bytes} (xs ys : List Bytes) → Among z xs → Among z (merged ρ xs ys)
  unfolding merged
  among-left {z = z} [] ys x' = elim x' [ ]
  among-left (x ∷ xs) ys (here e) = Memᴰ.append_right (below ρ x ys) (here e)
  among-left (x ∷ xs) ys (there m) = Memᴰ.append_right (below ρ x ys) (there (among-left xs (above ρ x ys) m))

  module _ (ok : Sure ρ) where
    -- of a name of the second list the union has one with its word
    pub among-word : {z : Bytes} (xs ys : List Bytes) → Among z ys → From (word ρ) (word ρ z) (merged ρ xs ys)
    unfolding merged
    among-word {z} [] ys m = record { source = z; member = m; is = refl }
    among-word {z} (x ∷ xs) ys m = go (λ k. among-word xs (above ρ x ys) k) (ordered (word ρ z) (word ρ x) (word-positive ρ ok z) (word-positive ρ ok x))
      where
        go : (Among z (above ρ x ys) → From (word ρ) (word ρ z) (merged ρ xs (above ρ x ys))) → Ordered (word ρ z) (word ρ x) → From (word ρ) (word ρ z) (below ρ x ys ++ (x ∷ merged ρ xs (above ρ x ys)))
        go more (lesser h) = record { source = z; member = Memᴰ.append_left (x ∷ merged ρ xs (above ρ x ys)) (kept-among _ ys h m); is = refl }
        go more (equal e) = record { source = x; member = Memᴰ.append_right (below ρ x ys) (here refl); is = e }
        go more (greater h) = let s = more (kept-among _ ys h m) in record { source = s.source; member = Memᴰ.append_right (below ρ x ys) (there s.member); is = s.is }

    -- names with equal words are one name, as under document 01's rule
    pub among-right : ((a b : Bytes) → word ρ a ≡ word ρ b → a ≡ b) → {z : Bytes} (xs ys : List Bytes) → Among z ys → Among z (merged ρ xs ys)
    among-right one {z} xs ys m = let s = among-word xs ys m in Memᴰ.cast (one z s.source s.is) s.member
