-- How many names lists have together, and how many bytes their records.
--     distinct-has      every name is among the distinct ones
--     rising-few        rising names that are all among some names are no more than those are distinct
--     union-few         so it is with a union, whose names are all in one of two lists
--     union-fits        the records of a union have no more bytes than those of both lists
-- Assumes nothing.
use Prim.Native.Nat.{ℕ, ◌+◌, ◌≤◌, zero-le}
use native.Mathlib.Omega.{arith}
use mathlib.Core.Path.{◌≡◌, refl, sym, ap, ◌∙◌}
use mathlib.Core.Logic.{⊎_elim}
use mathlib.Core.Bool.{Bool, true, false, not}
use mathlib.Core.List.Memᴰ.{head as here}
use mathlib.Core.List.Memᴰ.{tail as there}
use mathlib.Core.List.{List, Memᴰ as Among, [], ◌∷◌, map}
use lib.ListN.{length, length-append}
use Rattle.words.specs.Words.{Bytes, Rule, less, pick, same, word}
use Rattle.words.specs.Rising.{Sure}
use Rattle.words.proofs.Members.{Distinct, distinct-few, among-map, more, none, rising-distinct}
use Rattle.words.proofs.Words.{less-asym, same_true}
use Rattle.format.specs.Distinct.{distinct}
use Rattle.format.specs.Merging.{kept, merged}
use Rattle.format.specs.Records.{encode, rising}
use Rattle.format.proofs.Merging.{above, among-either, below, kept-among, merged-rises}
use Rattle.format.proofs.Records.{encode-append, rising-rises}

pub distinct-has : {z : Bytes} (xs : List Bytes) → Among z xs → Among z (distinct xs)
unfolding distinct
distinct-has {z = z} [] x' = elim x' [ ]
distinct-has (x ∷ xs) (here e) = here e
distinct-has {z} (x ∷ xs) (there m) = go (same x z) refl (distinct-has xs m)
  where
    go : (t : Bool) → same x z ≡ t → Among z (distinct xs) → Among z (x ∷ kept (λ y. not (same x y)) (distinct xs))
    go true e k = here (sym (same_true x z e))
    go false e k = there (kept-among (λ y. not (same x y)) (distinct xs) (ap not e) k)

-- names are distinct where their words are
names-distinct : (ρ : Rule) (xs : List Bytes) → Distinct (map (word ρ) xs) → Distinct xs
names-distinct ρ [] d = none
names-distinct ρ (x ∷ xs) (more n d) = more (λ m. n (among-map (word ρ) m)) (names-distinct ρ xs d)

module _ (ρ : Rule) (ok : Sure ρ) where
  pub rising-few : (xs : List Bytes) → rising ρ [] xs ≡ true → (all : List Bytes) → ((z : Bytes) → Among z xs → Among z all) → length xs ≤ length (distinct all)
  rising-few xs r all f = distinct-few xs (distinct all) (names-distinct ρ xs (rising-distinct (rising-rises ρ ok [] xs r).1)) (λ z m. distinct-has all (f z m))

  pub union-few : (xs ys : List Bytes) → rising ρ [] xs ≡ true → rising ρ [] ys ≡ true → (all : List Bytes) → ((z : Bytes) → Among z xs → Among z all) → ((z : Bytes) → Among z ys → Among z all)
      → length (merged ρ xs ys) ≤ length (distinct all)
  union-few xs ys r t all f g = rising-few (merged ρ xs ys) (merged-rises ρ ok xs ys r t) all (λ z m. ⊎_elim (f z) (g z) (among-either ρ xs ys m))

-- ---- bytes

-- of names that no two tests take, the records of those that one takes and of those that the other takes
kept-apart : (f g : Bytes → Bool) → ((y : Bytes) → f y ≡ true → g y ≡ false) → (ys : List Bytes) → length (encode (kept f ys)) + length (encode (kept g ys)) ≤ length (encode ys)
unfolding kept encode
kept-apart f g n [] = zero-le
kept-apart f g n (y ∷ ys) = go (f y) (g y) refl refl (kept-apart f g n ys)
  where
    go : (s t : Bool) → f y ≡ s → g y ≡ t → length (encode (kept f ys)) + length (encode (kept g ys)) ≤ length (encode ys)
        → length (encode (pick s (y ∷ kept f ys) (kept f ys))) + length (encode (pick t (y ∷ kept g ys) (kept g ys))) ≤ length (encode (y ∷ ys))
    go true true p q k = absurd (let z : true ≡ false = sym q ∙ n y p in let w : ◌≡◌ {A = ℕ} 0 1 = cc in omega arith)
    go true false p q k = omega (arith, length-append y (encode (kept f ys)), length-append y (encode ys))
    go false true p q k = omega (arith, length-append y (encode (kept g ys)), length-append y (encode ys))
    go false false p q k = omega (arith, length-append y (encode ys))

pub union-fits : (ρ : Rule) (xs ys : List Bytes) → length (encode (merged ρ xs ys)) ≤ length (encode xs) + length (encode ys)
unfolding merged encode
union-fits ρ [] ys = omega arith
union-fits ρ (x ∷ xs) ys =
    omega (
      arith,
      ap length (encode-append (below ρ x ys) (x ∷ merged ρ xs (above ρ x ys))),
      length-append (encode (below ρ x ys)) (encode (x ∷ merged ρ xs (above ρ x ys))),
      length-append x (encode (merged ρ xs (above ρ x ys))),
      length-append x (encode xs),
      union-fits ρ xs (above ρ x ys),
      kept-apart (λ y. less (word ρ y) (word ρ x)) (λ y. less (word ρ x) (word ρ y)) (λ y h. less-asym (word ρ y) (word ρ x) h) ys,
    )
