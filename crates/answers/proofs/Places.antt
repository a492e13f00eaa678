-- Where the words below a question, those that begin with it and the one that is it stand in a rising list.
--     count-append, count-all, count_none, count_at, count-found
--     place_at, place-le    word i lies below q just where i is below q's place
--     range_at              the words that begin with q stand in a row from q's place on
--     begins-none           no word begins with a question of which less is shared
--     exact-place           the word that is q, if there is one, stands at q's place
-- Assumes nothing.
use Prim.Native.Nat.{ℕ, zero, suc, ◌+◌, ◌≤◌, ◌<◌, zero-le, suc-le-suc}
use native.Mathlib.Nat.{le_of_suc-le-suc, not-suc-le-zero}
use native.Mathlib.Omega.{arith}
use mathlib.Core.Path.{◌≡◌, refl, sym, ap, ◌∙◌}
use mathlib.Core.Logic.{◌⊎◌, inl, inr}
use mathlib.Core.Bool.{Bool, true, false}
use mathlib.Core.List.{List, [], ◌∷◌, ◌++◌}
use lib.Dec.{leb, ltb, leb-suc-suc}
use lib.ListN.{length, get_or}
use borrow.Author.Tests.{lt-ltb, le-ltb, ltb-true, ltb-false, le-leb, lt-leb}
use Rattle.words.specs.Rising.{All, Positive, Rises, cons, rise}
use Rattle.words.specs.Words.{Words, at, begins, both, less, pick, same, shared}
use Rattle.words.proofs.Lists.{all_map}
use Rattle.words.proofs.Rising.{Above}
use Rattle.words.proofs.Words.{Ordered, begins-below, begins-not-less, equal, false≠true, greater, less-asym, less-irrefl, less-trans, lesser, ordered, same_refl, same_true, short-no}
use Rattle.answers.specs.Questions.{Pair, count, exact, exact_from, place}

-- ---- counting

pub count-append : (f : List ℕ → Bool) (xs ys : Words) → count f (xs ++ ys) ≡ count f xs + count f ys
unfolding count
count-append f [] ys = omega arith
count-append f (x ∷ xs) ys = go (f x) (count-append f xs ys)
  where
    go : (t : Bool) → count f (xs ++ ys) ≡ count f xs + count f ys
        → pick t (suc (count f (xs ++ ys))) (count f (xs ++ ys)) ≡ pick t (suc (count f xs)) (count f xs) + count f ys
    go true e = omega arith
    go false e = e

pub count-all : (f : List ℕ → Bool) (xs : Words) → All (λ y. f y ≡ true) xs → count f xs ≡ length xs
unfolding count
count-all f [] a = refl
count-all f (x ∷ xs) (cons h t) = rw h (ap suc (count-all f xs t))

pub count_none : (f : List ℕ → Bool) (xs : Words) → All (λ y. f y ≡ false) xs → count f xs ≡ 0
unfolding count
count_none f [] a = refl
count_none f (x ∷ xs) (cons h t) = rw h (count_none f xs t)

-- word number `index` passes
pub record Passes (f : List ℕ → Bool) (ws : Words) : Type 0 where
  pub index : ℕ
  pub within : index < length ws
  pub passes : f (get_or ws index []) ≡ true

pub count-found : (f : List ℕ → Bool) (ws : Words) → 0 < count f ws → Passes f ws
unfolding count
count-found f [] h = absurd (not-suc-le-zero h)
count-found f (w ∷ ws) h = go (count-found f ws) (f w) refl h
  where
    go : (0 < count f ws → Passes f ws) → (t : Bool) → f w ≡ t → 0 < pick t (suc (count f ws)) (count f ws) → Passes f (w ∷ ws)
    go more true e l = record { index = 0; within = omega arith; passes = e }
    go more false e l = let p = more l in record { index = suc p.index; within = omega (arith, p.within); passes = p.passes }

-- ---- A test that whatever lies below a word passes where the word does: the words that pass stand first.
module _ (f : List ℕ → Bool) (down : (x y : List ℕ) → less x y ≡ true → f y ≡ true → f x ≡ true) where
  up : (x y : List ℕ) → f x ≡ false → less x y ≡ true → f y ≡ false
  up x y k h = go (f y) refl
    where
      go : (t : Bool) → f y ≡ t → f y ≡ false
      go false e = e
      go true e = absurd (false≠true (sym k ∙ down x y h e))

  out : (ws : Words) (i : ℕ) → All (λ y. f y ≡ false) ws → i < length ws → f (get_or ws i []) ≡ false
  out [] i a l = absurd (not-suc-le-zero l)
  out (v ∷ vs) zero (cons h t) l = h
  out (v ∷ vs) (suc i) (cons h t) l = out vs i t (le_of_suc-le-suc l)

  -- word i passes just where i is below the count
  pub count_at : (ws : Words) → Rises ws → (i : ℕ) → i < length ws → f (get_or ws i []) ≡ ltb i (count f ws)
  unfolding count
  count_at [] r i l = absurd (not-suc-le-zero l)
  count_at (w ∷ ws) (rise p a r) i l = go (count_at ws r) (f w) refl i l
    where
      go : ((j : ℕ) → j < length ws → f (get_or ws j []) ≡ ltb j (count f ws)) → (t : Bool) → f w ≡ t
          → (j : ℕ) → j < length (w ∷ ws) → f (get_or (w ∷ ws) j []) ≡ ltb j (pick (f w) (suc (count f ws)) (count f ws))
      go ih true e zero k = rw e (sym (lt-ltb 0 (suc (count f ws)) (suc-le-suc zero-le)))
      go ih true e (suc j) k = rw e (ih j (le_of_suc-le-suc k) ∙ sym (leb-suc-suc (suc j) (count f ws)))
      go ih false e zero k = rw (e, count_none f ws (all_map (λ v h. up w v e h) a)) refl
      go ih false e (suc j) k =
          let none : All (λ y. f y ≡ false) ws = all_map (λ v h. up w v e h) a in
          rw (e, count_none f ws none) (out ws j none (le_of_suc-le-suc k) ∙ sym (le-ltb (suc j) 0 zero-le))

-- ---- the place, and the range

pub place_at : (q : List ℕ) (ws : Words) → Rises ws → (i : ℕ) → i < length ws → less (get_or ws i []) q ≡ ltb i (place q ws)
unfolding place
place_at q ws r i l = count_at (λ w. less w q) (λ x y h k. less-trans x y q h k) ws r i l

either : Bool → Bool → Bool
either true b = true
either false b = b

sums : (f g : List ℕ → Bool) → ((w : List ℕ) → g w ≡ true → f w ≡ false) → (ws : Words) → count (λ w. either (f w) (g w)) ws ≡ count f ws + count g ws
unfolding count either
sums f g apart [] = refl
sums f g apart (w ∷ ws) = go (sums f g apart ws) (f w) (g w) refl refl
  where
    go : count (λ w. either (f w) (g w)) ws ≡ count f ws + count g ws → (s t : Bool) → f w ≡ s → g w ≡ t
        → pick (either (f w) (g w)) (suc (count (λ w. either (f w) (g w)) ws)) (count (λ w. either (f w) (g w)) ws)
        ≡ pick (f w) (suc (count f ws)) (count f ws) + pick (g w) (suc (count g ws)) (count g ws)
    go ih true true e k = absurd (false≠true (sym (apart w k) ∙ e))
    go ih true false e k = rw (e, k) (omega arith)
    go ih false true e k = rw (e, k) (omega arith)
    go ih false false e k = rw (e, k) ih

closed : (q x y : List ℕ) → less x y ≡ true → either (less y q) (begins q y) ≡ true → either (less x q) (begins q x) ≡ true
unfolding either
closed q x y h k = go (less y q) refl
  where
    from : (less x q ≡ true) ⊎ (begins q x ≡ true) → either (less x q) (begins q x) ≡ true
    from (inl e) = rw e
    from (inr e) = rw (begins-not-less q x e, e)

    go : (t : Bool) → less y q ≡ t → either (less x q) (begins q x) ≡ true
    go true e = rw (less-trans x y q h e)
    go false e = from (begins-below q x y h (rw e at k))

-- the words that begin with q stand in a row from q's place on
pub range_at : (q : List ℕ) (ws : Words) → Rises ws → (i : ℕ) → i < length ws
    → begins q (get_or ws i []) ≡ both (leb (place q ws) i) (ltb i (place q ws + count (begins q) ws))
unfolding place either
range_at q ws r i l = go (less w q) (begins q w) refl refl
  where
    w : List ℕ
    w = get_or ws i []

    p : ℕ
    p = place q ws

    c : ℕ
    c = count (begins q) ws

    in_place : less w q ≡ ltb i p
    in_place = place_at q ws r i l

    in-range : either (less w q) (begins q w) ≡ ltb i (p + c)
    in-range =
        count_at (λ v. either (less v q) (begins q v)) (λ x y h k. closed q x y h k) ws r i l
        ∙ ap (ltb i) (sums (λ v. less v q) (begins q) (λ v. begins-not-less q v) ws)

    go : (s t : Bool) → less w q ≡ s → begins q w ≡ t → begins q w ≡ both (leb p i) (ltb i (p + c))
    go true true e k = absurd (false≠true (sym (begins-not-less q w k) ∙ e))
    go true false e k = rw (lt-leb p i (ltb-true i p (sym in_place ∙ e))) k
    go false t e k = rw (le-leb p i (ltb-false i p (sym in_place ∙ e))) (rw e at in-range)

-- no word begins with q where the reached name, which shares most, shares less than all of q
pub begins-none : (q : List ℕ) (n : ℕ) (ws : Words) → All (λ y. shared q y ≤ n) ws → n < length q → count (begins q) ws ≡ 0
begins-none q n ws a h = count_none (begins q) ws (all_map (λ y k. short-no q y (omega arith)) a)

-- ---- exact

count-le : (f : List ℕ → Bool) (ws : Words) → count f ws ≤ length ws
unfolding count
count-le f [] = omega arith
count-le f (w ∷ ws) = go (f w) (count-le f ws)
  where
    go : (t : Bool) → count f ws ≤ length ws → pick t (suc (count f ws)) (count f ws) ≤ length (w ∷ ws)
    go true h = omega arith
    go false h = omega arith

pub place-le : (q : List ℕ) (ws : Words) → place q ws ≤ length ws
unfolding place
place-le q ws = count-le (λ w. less w q) ws

-- a range ends with the words, at the latest
pub range-le : (q : List ℕ) (ws : Words) → place q ws + count (begins q) ws ≤ length ws
unfolding place
range-le q ws = omega (arith, sums (λ v. less v q) (begins q) (λ v. begins-not-less q v) ws, count-le (λ v. either (less v q) (begins q v)) ws)

differ : (x y : List ℕ) → (x ≡ y → ⊥) → same x y ≡ false
differ x y n = go (same x y) refl
  where
    go : (t : Bool) → same x y ≡ t → same x y ≡ false
    go false e = e
    go true e = absurd (n (same_true x y e))

not_same : (x y : List ℕ) → less x y ≡ true → same x y ≡ false
not_same x y h = differ x y (λ e. false≠true (sym (less-irrefl y) ∙ ap (λ (z : List ℕ). less z y) (sym e) ∙ h))

not-same' : (x y : List ℕ) → less y x ≡ true → same x y ≡ false
not-same' x y h = differ x y (λ e. false≠true (sym (less-irrefl y) ∙ ap (less y) (sym e) ∙ h))

-- the first word is taken just where it is q
exact-cons : (i : ℕ) (q w : List ℕ) (ws : Words) → exact_from i q (w ∷ ws) ≡ pick (same w q) (i, 1) (exact_from (suc i) q ws)
unfolding exact_from
exact-cons i q w ws = refl

exact_none : (i : ℕ) (q : List ℕ) (ws : Words) → Above q ws → exact_from i q ws ≡ (0, 0)
unfolding exact_from
exact_none i q [] a = refl
exact_none i q (w ∷ ws) (cons h a) = exact-cons i q w ws ∙ rw (not-same' w q h) (exact_none (suc i) q ws a)

-- the name that equals q, if there is one, stands at q's place
exact-from : (i : ℕ) (q : List ℕ) (ws : Words) → Positive q → Rises ws
    → exact_from i q ws ≡ pick (both (ltb (place q ws) (length ws)) (same (get_or ws (place q ws) []) q)) (i + place q ws, 1) (0, 0)
unfolding exact_from place count
exact-from i q [] pq r = refl
exact-from i q (w ∷ ws) pq (rise p a r) = exact-cons i q w ws ∙ go (ordered w q p pq) (exact-from (suc i) q ws pq r)
  where
    n : ℕ
    n = place q ws

    none : Above q ws → n ≡ 0
    none b = count_none (λ y. less y q) ws (all_map (λ y h. less-asym q y h) b)

    go : Ordered w q → exact_from (suc i) q ws ≡ pick (both (ltb n (length ws)) (same (get_or ws n []) q)) (suc i + n, 1) (0, 0)
        → pick (same w q) (i, 1) (exact_from (suc i) q ws)
        ≡ pick (both (ltb (pick (less w q) (suc n) n) (suc (length ws))) (same (get_or (w ∷ ws) (pick (less w q) (suc n) n) []) q)) (i + pick (less w q) (suc n) n, 1) (0, 0)
    go (lesser h) ih =
        let e : suc i + n ≡ i + suc n = omega arith in
        rw (not_same w q h, h, leb-suc-suc (suc n) (length ws)) (ih ∙ ap (λ (m : ℕ). pick (both (ltb n (length ws)) (same (get_or ws n []) q)) (m, 1) (0, 0)) e)
    go (greater h) ih =
        let b : Above q ws = all_map (λ v k. less-trans q w v h k) a in
        rw (not-same' w q h, less-asym q w h, none b, not-same' w q h) (exact_none (suc i) q ws b ∙ sym (off (ltb 0 (suc (length ws)))))
      where
        off : (t : Bool) → ◌≡◌ {A = Pair} (pick (both t false) (i + 0, 1) (0, 0)) (0, 0)
        off true = refl
        off false = refl
    go (equal e) ih =
        let b : Above q ws = all_map (λ v k. ap (λ (z : List ℕ). less z v) (sym e) ∙ k) a in
        let z : i + 0 ≡ i = omega arith in
        rw (e, same_refl q, less-irrefl q, none b, same_refl q, lt-ltb 0 (suc (length ws)) (omega arith), z) refl

pub exact-place : (q : List ℕ) (ws : Words) → Positive q → Rises ws
    → exact q ws ≡ pick (both (ltb (place q ws) (length ws)) (same (get_or ws (place q ws) []) q)) (place q ws, 1) (0, 0)
unfolding exact
exact-place q ws p r =
    let z : 0 + place q ws ≡ place q ws = omega arith in
    exact-from 0 q ws p r ∙ ap (λ (m : ℕ). pick (both (ltb (place q ws) (length ws)) (same (get_or ws (place q ws) []) q)) (m, 1) (0, 0)) z
