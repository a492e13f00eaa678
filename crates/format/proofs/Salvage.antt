-- Laws of a block that is judged alone.
--     Alone             names that stand in a span by themselves
--     alone-whole, whole-alone     a block is whole just where its names stand so, and then they are its names
--     whole_tells       they are those that its bytes tell
--     count-few, count-starts, blocks-count     how many blocks there are: no more than names; each has a first name; as many as a list's
--     bounds-long, bounds-inner, bounds-last     the bounds by their number
--     from_first, climbs-next, climbs-end        whether they climb, one bound at a time
--     Outside           bytes that differ only inside a span
--     number_behind, tail-behind, told_same, bounds-same     what is told behind it is the same: the trailer, the block table
--     span-before, span-behind     and so is every other span
--     bounds-before, spans-before     the block table, and all spans, where they stand before it
--     span-at, spans-long, bounds-rise, spans-isolated     spans by their number; those of two runs of bytes that differ only inside one of them
-- Assumes nothing.
use Prim.Native.Nat.{ℕ, zero, suc, ◌+◌, ◌-◌, ◌*◌, ◌/◌, ◌≤◌, ◌<◌, min}
use native.Mathlib.Nat.{add-div_right, div-add-mod', div-eq_of_lt, div-eq-sub-div, le_of_suc-le-suc, lt_irrefl, mul-le-mul_left, mul-le-mul_right, not-suc-le-zero}
use native.Mathlib.Omega.{arith}
use mathlib.Core.Path.{◌≡◌, refl, sym, ap, ap₂, ◌∙◌, subst}
use mathlib.Core.Logic.{◌⊎◌, inl, inr}
use mathlib.Core.Bool.{Bool, true, false}
use mathlib.Core.List.{List, [], ◌∷◌}
use lib.Dec.{eqb, ltb}
use lib.ListN.{drop, get_or, length, length-drop, take}
use lib.Seq.{drop-drop, get_or-drop, get_or-take, take-take}
use borrow.Author.Tests.{eq-eqb, eqb-true, ltb-true}
use Rattle.words.specs.Words.{Bytes, both, pick, plain, same}
use Rattle.words.proofs.Lists.{drop-take}
use Rattle.words.proofs.Words.{apart, both_true, same_refl, same_true}
use Rattle.format.specs.Book.{number, told, trailer_size}
use Rattle.format.specs.Entries.{blocks_from, decode, front}
use Rattle.format.specs.Records.{rising}
use Rattle.format.specs.Salvage.{Broken, Whole, block_count, bounds_from, climbs, from_zero, judged_alone, spans_from}
use Rattle.format.proofs.Entries.{blocks-first, by_blocks, decode-alone}

pub record Alone (m : ℕ) (span : Bytes) (xs : List Bytes) : Type 0 where
  pub count : length xs ≡ m
  pub rises : rising plain [] xs ≡ true
  pub entries : front [] xs ≡ span

pub alone-whole : (m : ℕ) (span : Bytes) (xs : List Bytes) → Alone m span xs → judged_alone m span ≡ Whole xs
unfolding judged_alone
alone-whole m span xs a =
    let names : decode span ≡ xs = ap decode (sym a.entries) ∙ decode-alone xs in
    rw (names, eq-eqb (length xs) m a.count, a.rises, ap (λ (s : Bytes). same s span) a.entries ∙ same_refl span) refl

pub whole-alone : (m : ℕ) (span : Bytes) (xs : List Bytes) → judged_alone m span ≡ Whole xs → Alone m span xs
unfolding judged_alone
whole-alone m span xs e = go (both (eqb (length (decode span)) m) (both (rising plain [] (decode span)) (same (front [] (decode span)) span))) refl e
  where
    go : (t : Bool) → both (eqb (length (decode span)) m) (both (rising plain [] (decode span)) (same (front [] (decode span)) span)) ≡ t → pick t (Whole (decode span)) Broken ≡ Whole xs → Alone m span xs
    go true p f =
        let same_names : decode span ≡ xs = cc in
        let b = both_true (eqb (length (decode span)) m) (both (rising plain [] (decode span)) (same (front [] (decode span)) span)) p in
        let c = both_true (rising plain [] (decode span)) (same (front [] (decode span)) span) b.1 in
        subst (Alone m span) same_names (record { count = eqb-true (length (decode span)) m b.0; rises = c.0; entries = same_true (front [] (decode span)) span c.1 })
    go false p f = let z : ◌≡◌ {A = ℕ} 0 1 = cc in absurd (omega arith)

-- a whole block's names are those that its bytes tell
pub whole_tells : (m : ℕ) (span : Bytes) (xs : List Bytes) → judged_alone m span ≡ Whole xs → judged_alone m span ≡ Whole (decode span)
whole_tells m span xs e = let a = whole-alone m span xs e in e ∙ ap Whole (sym (ap decode (sym a.entries) ∙ decode-alone xs))

-- ---- how many blocks, and where they begin

module _ (n k : ℕ) (one : 1 ≤ k) where
  full : block_count n k * k ≤ n + (k - 1)
  full = omega (arith, div-add-mod' (n + (k - 1)) k)

  pub count-few : block_count n k ≤ n
  count-few = elim (apart n (block_count n k)) [
    | inl m ↦ absurd (lt_irrefl (n + k) (omega (arith, full, mul-le-mul_right k m, mul-le-mul_left n one)))
    | inr m ↦ m
  ]

  pub count-starts : (i : ℕ) → i < block_count n k → i * k < n
  count-starts i h = omega (arith, full, mul-le-mul_right k h)

pub blocks-count : (k : ℕ) → 1 ≤ k → (xs : List Bytes) → length (blocks_from k 0 xs) ≡ block_count (length xs) k
unfolding blocks_from
blocks-count k one xs = by_blocks k one (λ (ys : List Bytes). length (blocks_from k 0 ys) ≡ block_count (length ys) k) none more xs
  where
    none : 0 ≡ (0 + (k - 1)) / k
    none = sym (div-eq_of_lt (omega arith))

    -- the first block is full, or it is the only one
    one_more : (n : ℕ) → 1 ≤ n → (n < k) ⊎ (k ≤ n) → suc (block_count (n - k) k) ≡ block_count n k
    one_more n some (inl h) =
        let few : n - k + (k - 1) < k = omega arith in
        let back : n + (k - 1) - k < k = omega arith in
        omega (arith, div-eq_of_lt few, div-eq_of_lt back, div-eq-sub-div {m = k} {n = n + (k - 1)} one (omega arith))
    one_more n some (inr h) =
        let same : n - k + (k - 1) + k ≡ n + (k - 1) = omega arith in
        omega (arith, add-div_right (n - k + (k - 1)) one, ap (λ (m : ℕ). m / k) same)

    more : (y : Bytes) (ys : List Bytes) → length (blocks_from k 0 (drop k (y ∷ ys))) ≡ block_count (length (drop k (y ∷ ys))) k → length (blocks_from k 0 (y ∷ ys)) ≡ block_count (length (y ∷ ys)) k
    more y ys h =
        ap length (blocks-first k y ys one) ∙ ap suc (h ∙ ap (λ (n : ℕ). block_count n k) (length-drop k (y ∷ ys))) ∙ one_more (length (y ∷ ys)) (omega arith) (apart (length (y ∷ ys)) k)

pub bounds-long : (s : Bytes) (at more : ℕ) → length (bounds_from s at more) ≡ suc more
unfolding bounds_from
bounds-long s at zero = refl
bounds-long s at (suc more) = ap suc (bounds-long s (at + 2) more)

pub bounds-inner : (s : Bytes) (at more i : ℕ) → i < more → get_or (bounds_from s at more) i 0 ≡ number s (at + 2 * i)
unfolding bounds_from
bounds-inner s at zero i h = absurd (not-suc-le-zero h)
bounds-inner s at (suc more) zero h = let same : at ≡ at + 2 * 0 = omega arith in ap (number s) same
bounds-inner s at (suc more) (suc i) h = let same : at + 2 + 2 * i ≡ at + 2 * suc i = omega arith in bounds-inner s (at + 2) more i (le_of_suc-le-suc h) ∙ ap (number s) same

-- the last bound is where the entries end
pub bounds-last : (s : Bytes) (at more : ℕ) → get_or (bounds_from s at more) more 0 ≡ told s 2
unfolding bounds_from
bounds-last s at zero = refl
bounds-last s at (suc more) = bounds-last s (at + 2) more

pub from_first : (bs : List ℕ) → 0 < length bs → from_zero bs ≡ both (eqb (get_or bs 0 0) 0) (climbs (get_or bs 0 0) (drop 1 bs))
from_first [] h = absurd (not-suc-le-zero h)
from_first (a ∷ l) h = refl

pub climbs-next : (a : ℕ) (bs : List ℕ) (i : ℕ) → i < length bs → climbs a (drop i bs) ≡ both (ltb a (get_or bs i 0)) (climbs (get_or bs i 0) (drop (suc i) bs))
unfolding climbs
climbs-next a [] i h = absurd (not-suc-le-zero h)
climbs-next a (b ∷ l) zero h = refl
climbs-next a (b ∷ l) (suc i) h = climbs-next a l i (le_of_suc-le-suc h)

pub climbs-end : (a : ℕ) (bs : List ℕ) (i : ℕ) → length bs ≤ i → climbs a (drop i bs) ≡ true
unfolding climbs
climbs-end a [] zero h = refl
climbs-end a [] (suc i) h = refl
climbs-end a (b ∷ l) zero h = absurd (not-suc-le-zero h)
climbs-end a (b ∷ l) (suc i) h = climbs-end a l i (le_of_suc-le-suc h)

-- ---- bytes that differ only inside a span

pub record Outside (lo hi : ℕ) (s t : Bytes) : Type 0 where
  pub order : lo ≤ hi
  pub size : length s ≡ length t
  pub front : take lo s ≡ take lo t
  pub back : drop hi s ≡ drop hi t

module _ {lo hi : ℕ} {s t : Bytes} (u : Outside lo hi s t) where
  -- behind it every byte is the same, and so is every number
  byte-behind : (i : ℕ) → hi ≤ i → get_or s i 0 ≡ get_or t i 0
  byte-behind i h =
      let there : hi + (i - hi) ≡ i = omega arith in
      ap (λ (n : ℕ). get_or s n 0) (sym there) ∙ sym (get_or-drop hi s (i - hi) 0) ∙ ap (λ (l : Bytes). get_or l (i - hi) 0) u.back ∙ get_or-drop hi t (i - hi) 0 ∙ ap (λ (n : ℕ). get_or t n 0) there

  pub number_behind : (o : ℕ) → hi ≤ o → number s o ≡ number t o
  unfolding number
  number_behind o h = ap₂ (λ (a b : ℕ). a + 256 * b) (byte-behind o h) (byte-behind (o + 1) (omega arith))

  pub tail-behind : (a : ℕ) → hi ≤ a → drop a s ≡ drop a t
  tail-behind a h =
      let there : hi + (a - hi) ≡ a = omega arith in
      let same : (l : Bytes) → drop a l ≡ drop (a - hi) (drop hi l) = λ l. ap (λ (n : ℕ). drop n l) (sym there) ∙ sym (drop-drop (a - hi) hi l) in
      same s ∙ ap (drop (a - hi)) u.back ∙ sym (same t)

  -- a span before it, or behind it, is the same
  pub span-behind : (a b : ℕ) → hi ≤ a → take (b - a) (drop a s) ≡ take (b - a) (drop a t)
  span-behind a b h = ap (take (b - a)) (tail-behind a h)

  pub span-before : (a b : ℕ) → b ≤ lo → take (b - a) (drop a s) ≡ take (b - a) (drop a t)
  span-before a b h = sym (cut a s) ∙ ap (drop a) (shorter s ∙ ap (take b) u.front ∙ sym (shorter t)) ∙ cut a t
    where
      shorter : (l : Bytes) → take b l ≡ take b (take lo l)
      shorter l = sym (take-take b lo l h)

      cut : (n : ℕ) (l : Bytes) → drop n (take b l) ≡ take (b - n) (drop n l)
      cut n l = drop-take n b l

  -- the trailer and the block table tell the same, where they stand behind it
  pub told_same : hi + trailer_size ≤ length s → (j : ℕ) → told s j ≡ told t j
  told_same h j = ap (λ (n : ℕ). number s (n - trailer_size + 2 * j)) u.size ∙ number_behind (length t - trailer_size + 2 * j) (omega (arith, u.size))

  pub bounds-same : hi + trailer_size ≤ length s → (at more : ℕ) → hi ≤ at → bounds_from s at more ≡ bounds_from t at more
  unfolding bounds_from
  bounds-same h at zero l = ap (λ (n : ℕ). n ∷ []) (told_same h 2)
  bounds-same h at (suc more) l = ap₂ (λ (n : ℕ) (ns : List ℕ). n ∷ ns) (number_behind at l) (bounds-same h (at + 2) more (omega arith))

  -- and where they stand before it
  byte-before : (i : ℕ) → i < lo → get_or s i 0 ≡ get_or t i 0
  byte-before i h = sym (get_or-take lo s i 0 h) ∙ ap (λ (l : Bytes). get_or l i 0) u.front ∙ get_or-take lo t i 0 h

  number-before : (o : ℕ) → o + 2 ≤ lo → number s o ≡ number t o
  unfolding number
  number-before o h = ap₂ (λ (a b : ℕ). a + 256 * b) (byte-before o (omega arith)) (byte-before (o + 1) (omega arith))

  pub bounds-before : hi + trailer_size ≤ length s → (at more : ℕ) → at + 2 * more ≤ lo → bounds_from s at more ≡ bounds_from t at more
  unfolding bounds_from
  bounds-before h at zero l = ap (λ (n : ℕ). n ∷ []) (told_same h 2)
  bounds-before h at (suc more) l = ap₂ (λ (n : ℕ) (ns : List ℕ). n ∷ ns) (number-before at (omega arith)) (bounds-before h (at + 2) more (omega arith))

  -- spans that all end before it
  pub spans-before : (k left : ℕ) (bs : List ℕ) → ((i : ℕ) → i < length bs → get_or bs i 0 ≤ lo) → spans_from s k left bs ≡ spans_from t k left bs
  unfolding spans_from
  spans-before k left [] h = refl
  spans-before k left (a ∷ []) h = refl
  spans-before k left (a ∷ b ∷ l) h =
      ap₂ (λ (p : Bytes) (ps : List (ℕ × Bytes)). (min left k, p) ∷ ps) (span-before a b (h 1 (omega arith))) (spans-before k (left - k) (b ∷ l) (λ i m. h (suc i) (omega arith)))

-- ---- spans by their number

-- what is a span, where it has none
abbrev pub no_span : ℕ × Bytes
no_span = (0, [])

pub span-at : (s : Bytes) (k left : ℕ) (bs : List ℕ) (i : ℕ) → suc i < length bs
    → get_or (spans_from s k left bs) i no_span ≡ (min (left - i * k) k, take (get_or bs (suc i) 0 - get_or bs i 0) (drop (get_or bs i 0) s))
unfolding spans_from
span-at s k left [] i h = absurd (not-suc-le-zero h)
span-at s k left (a ∷ []) i h = absurd (lt_irrefl 0 (omega arith))
span-at s k left (a ∷ b ∷ l) zero h = let same : left ≡ left - 0 * k = omega arith in ap (λ (n : ℕ). (min n k, take (b - a) (drop a s))) same
span-at s k left (a ∷ b ∷ l) (suc i) h =
    let same : left - k - i * k ≡ left - suc i * k = omega arith in
    span-at s k (left - k) (b ∷ l) i (le_of_suc-le-suc h)
    ∙ ap (λ (n : ℕ). (min n k, take (get_or (b ∷ l) (suc i) 0 - get_or (b ∷ l) i 0) (drop (get_or (b ∷ l) i 0) s))) same

pub spans-long : (s : Bytes) (k left : ℕ) (bs : List ℕ) → length (spans_from s k left bs) ≡ length bs - 1
unfolding spans_from
spans-long s k left [] = omega arith
spans-long s k left (a ∷ []) = omega arith
spans-long s k left (a ∷ b ∷ l) = omega (arith, spans-long s k (left - k) (b ∷ l))

-- bounds that climb rise by their numbers
climbs-above : (a : ℕ) (l : List ℕ) → climbs a l ≡ true → (j : ℕ) → j < length l → a < get_or l j 0
unfolding climbs
climbs-above a [] c j h = absurd (not-suc-le-zero h)
climbs-above a (b ∷ l) c zero h = ltb-true a b (both_true (ltb a b) (climbs b l) c).0
climbs-above a (b ∷ l) c (suc j) h =
    let k = both_true (ltb a b) (climbs b l) c in
    omega (arith, ltb-true a b k.0, climbs-above b l k.1 j (le_of_suc-le-suc h))

climbs-rise : (a : ℕ) (l : List ℕ) → climbs a l ≡ true → (i j : ℕ) → i < j → j < length (a ∷ l) → get_or (a ∷ l) i 0 < get_or (a ∷ l) j 0
unfolding climbs
climbs-rise a l c i zero h k = absurd (not-suc-le-zero h)
climbs-rise a l c zero (suc j) h k = climbs-above a l c j (le_of_suc-le-suc k)
climbs-rise a [] c (suc i) (suc j) h k = absurd (lt_irrefl 0 (omega arith))
climbs-rise a (b ∷ l) c (suc i) (suc j) h k = climbs-rise b l (both_true (ltb a b) (climbs b l) c).1 i j (le_of_suc-le-suc h) (le_of_suc-le-suc k)

pub bounds-rise : (bs : List ℕ) → from_zero bs ≡ true → (i j : ℕ) → i ≤ j → j < length bs → get_or bs i 0 ≤ get_or bs j 0
bounds-rise [] f i j h k = absurd (not-suc-le-zero k)
bounds-rise (a ∷ l) f i j h k = elim (apart i j) [
  | inl m ↦ omega (arith, climbs-rise a l (both_true (eqb a 0) (climbs a l) f).1 i j m k)
  | inr m ↦ let same : i ≡ j = omega arith in subst (λ (n : ℕ). get_or (a ∷ l) i 0 ≤ get_or (a ∷ l) n 0) same (omega arith)
]

-- the spans of two runs of bytes that differ only inside span number j, but for that one
pub spans-isolated : (bs : List ℕ) → from_zero bs ≡ true → (j : ℕ) → suc j < length bs → {s t : Bytes} → Outside (get_or bs j 0) (get_or bs (suc j) 0) s t → (k left i : ℕ) → suc i < length bs → (i ≡ j → ⊥)
    → get_or (spans_from s k left bs) i no_span ≡ get_or (spans_from t k left bs) i no_span
spans-isolated bs f j hj {s} {t} u k left i hi n =
    span-at s k left bs i hi ∙ ap (λ (l : Bytes). (min (left - i * k) k, l)) (same (apart i j)) ∙ sym (span-at t k left bs i hi)
  where
    same : (i < j) ⊎ (j ≤ i) → take (get_or bs (suc i) 0 - get_or bs i 0) (drop (get_or bs i 0) s) ≡ take (get_or bs (suc i) 0 - get_or bs i 0) (drop (get_or bs i 0) t)
    same (inl l) = span-before u (get_or bs i 0) (get_or bs (suc i) 0) (bounds-rise bs f (suc i) j (omega arith) (omega arith))
    same (inr l) = span-behind u (get_or bs i 0) (get_or bs (suc i) 0) (bounds-rise bs f (suc j) i (omega arith) (omega arith))
