-- A list's bytes and its names: each sound list of names is read from one run of bytes, and no other is read.
--     encode-append             the records of two lists of names are the records of both
--     encode-long               a list of names has no more of them than their records have bytes
--     encode-from, encode-name, encode-fits     the records from number i on, its name, and that both are there
--     read-skip                 what was skipped does not count
--     read-encode, read_names, read-sound   the round trip, both ways; for any number of names, and for as many as a book has
--     read-refused, alone-refused   a list that is not read is refused with 5, 6 or 7; judged by its own length, never with 7
--     sound-few, sound-rising, rising-sizes, sound-rises, rising-less, word-short    what a sound list's names are; their words rise
--     Symbols, sure-symbols, lawful-symbols, symbols-rises    names of which no symbol is the end symbol: by a sure rule all, by a lawful one those of bytes
--     from-rising, from-sound                and back
-- Assumes nothing.
use Prim.Native.Nat.{ℕ, suc-le-suc, zero, suc, ◌+◌, ◌-◌, ◌≤◌, ◌<◌, zero-le}
use native.Mathlib.Nat.{le_of_suc-le-suc, not-suc-le-zero}
use native.Mathlib.Omega.{arith}
use mathlib.Core.Path.{◌≡◌, refl, sym, ap, ap₂, ◌∙◌}
use mathlib.Core.Bool.{Bool, true, false}
use mathlib.Core.List.{List, [], ◌∷◌, ◌++◌, append_assoc, map}
use lib.Dec.{leb, ltb}
use lib.ListN.{length, length-drop, length-map, get_or, take, drop, length-append, take-append-drop}
use lib.Seq.{drop-append_seam, drop-cons, drop-drop, length-take-le, take-append_seam}
use borrow.Author.Tests.{lt-ltb, ltb-true, leb-true, le-leb}
use Rattle.words.specs.Rising.{All, Positive, Rises, Sure, cons, nil, nth, rise, start}
use Rattle.words.specs.Words.{Bytes, Lawful, Rule, both, less, pick, word}
use Rattle.words.proofs.Lists.{all_map}
use Rattle.words.proofs.Rising.{Above, nth-less, nth-word}
use Rattle.words.proofs.Words.{both_true, false≠true, less-start, less-trans, letters-positive, word-positive}
use Rattle.format.specs.Records.{Names, Reading, Refused, after, encode, good_length, longest, most_names, read_from, read_list, rising, sound}

-- the records of two lists of names are the records of both
pub encode-append : (xs ys : List Bytes) → encode (xs ++ ys) ≡ encode xs ++ encode ys
unfolding encode
encode-append [] ys = refl
encode-append (x ∷ xs) ys = ap (λ (l : Bytes). length x ∷ x ++ l) (encode-append xs ys) ∙ ap (λ (l : Bytes). length x ∷ l) (sym (append_assoc x (encode xs) (encode ys)))

-- a record has at least its length byte
pub encode-long : (xs : List Bytes) → length xs ≤ length (encode xs)
unfolding encode
encode-long [] = zero-le
encode-long (x ∷ xs) = omega (arith, length-append x (encode xs), encode-long xs)

-- ---- record number i of the records of some names

encode-cons : (x : Bytes) (xs : List Bytes) → encode (x ∷ xs) ≡ length x ∷ x ++ encode xs
unfolding encode
encode-cons x xs = refl

module _ (xs : List Bytes) (i : ℕ) (h : i < length xs) where
  encode-parts : encode xs ≡ encode (take i xs) ++ (length (get_or xs i []) ∷ get_or xs i [] ++ encode (drop (suc i) xs))
  encode-parts =
      ap encode (sym (take-append-drop i xs)) ∙ encode-append (take i xs) (drop i xs)
      ∙ ap (λ (l : Bytes). encode (take i xs) ++ l) (ap encode (drop-cons xs i [] h) ∙ encode-cons (get_or xs i []) (drop (suc i) xs))

  -- from there on
  pub encode-from : drop (length (encode (take i xs))) (encode xs) ≡ length (get_or xs i []) ∷ get_or xs i [] ++ encode (drop (suc i) xs)
  encode-from = ap (drop (length (encode (take i xs)))) encode-parts ∙ drop-append_seam (encode (take i xs)) (length (get_or xs i []) ∷ get_or xs i [] ++ encode (drop (suc i) xs))

  -- its name, behind the length byte
  pub encode-name : take (length (get_or xs i [])) (drop (length (encode (take i xs)) + 1) (encode xs)) ≡ get_or xs i []
  encode-name =
      ap (take (length (get_or xs i []))) (sym (drop-drop 1 (length (encode (take i xs))) (encode xs)) ∙ ap (drop 1) encode-from)
      ∙ take-append_seam (get_or xs i []) (encode (drop (suc i) xs))

  pub encode-fits : length (encode (take i xs)) + 1 + length (get_or xs i []) ≤ length (encode xs)
  encode-fits =
      omega (
        arith,
        ap length encode-parts,
        length-append (encode (take i xs)) (length (get_or xs i []) ∷ get_or xs i [] ++ encode (drop (suc i) xs)),
        length-append (get_or xs i []) (encode (drop (suc i) xs)),
      )

-- what was skipped does not count
pub read-skip : (ρ : Rule) (most i : ℕ) (prev : Bytes) (n : ℕ) (s : Bytes) → read_from ρ most i prev n s ≡ read_from ρ most i prev 0 (drop n s)
unfolding read_from
read-skip ρ most i prev zero s = refl
read-skip ρ most i prev (suc n) [] = refl
read-skip ρ most i prev (suc n) (b ∷ s) = read-skip ρ most i prev n s

-- a record that is good is its name, and then the records after it
read-good : (ρ : Rule) (most i : ℕ) (prev x rest : Bytes) → good_length (length x) ≡ true → less (word ρ prev) (word ρ x) ≡ true → i < most
    → read_from ρ most i prev 0 (length x ∷ x ++ rest) ≡ after x (read_from ρ most (suc i) x 0 rest)
unfolding read_from
read-good ρ most i prev x rest g l h =
    rw (take-append_seam x rest, g, le-leb (length x) (length (x ++ rest)) (omega (arith, length-append x rest)), l, lt-ltb i most h)
    (ap (after x) (read-skip ρ most (suc i) x (length x) (x ++ rest) ∙ ap (read_from ρ most (suc i) x 0) (drop-append_seam x rest)))

read-rising : (ρ : Rule) (most i : ℕ) (prev : Bytes) (xs : List Bytes) → rising ρ prev xs ≡ true → length xs ≤ most - i → read_from ρ most i prev 0 (encode xs) ≡ Names xs
unfolding read_from encode rising
read-rising ρ most i prev [] r h = refl
read-rising ρ most i prev (x ∷ xs) r h =
    let b = both_true (good_length (length x)) (both (less (word ρ prev) (word ρ x)) (rising ρ x xs)) r in
    let c = both_true (less (word ρ prev) (word ρ x)) (rising ρ x xs) b.1 in
    read-good ρ most i prev x (encode xs) b.0 c.0 (omega arith) ∙ ap (after x) (read-rising ρ most (suc i) x xs c.1 (omega arith))

pub read-encode : (ρ : Rule) (most : ℕ) (xs : List Bytes) → length xs ≤ most → rising ρ [] xs ≡ true → read_list ρ most (encode xs) ≡ Names xs
unfolding read_list
read-encode ρ most xs few r = read-rising ρ most 0 [] xs r (omega arith)

-- ---- what is read is sound, and its bytes are those that were read

record ReadBack (ρ : Rule) (most i : ℕ) (prev s : Bytes) (xs : List Bytes) : Type 0 where
  bytes : encode xs ≡ s
  few : length xs ≤ most - i
  rises : rising ρ prev xs ≡ true

read_back_lem : (ρ : Rule) (most i : ℕ) (prev : Bytes) (n : ℕ) (s : Bytes) (xs : List Bytes) → n ≤ length s → read_from ρ most i prev n s ≡ Names xs → ReadBack ρ most i prev (drop n s) xs
unfolding read_from encode rising
read_back_lem ρ most i prev (suc n) [] xs h e = absurd (not-suc-le-zero h)
read_back_lem ρ most i prev (suc n) (b ∷ s) xs h e = read_back_lem ρ most i prev n s xs (le_of_suc-le-suc h) e
read_back_lem ρ most i prev zero [] [] h e = record { bytes = refl; few = zero-le; rises = refl }
read_back_lem ρ most i prev zero [] (x ∷ xs) h e = let z : ◌≡◌ {A = ℕ} 0 1 = cc in absurd (omega arith)
read_back_lem ρ most i prev zero (n ∷ rest) xs h e =
    go (both (good_length n) (leb n (length rest))) (less (word ρ prev) (word ρ (take n rest))) (ltb i most) (read_from ρ most (suc i) (take n rest) n rest)
    refl refl refl refl (λ ys k. read_back_lem ρ most (suc i) (take n rest) n rest ys k) e
  where
    go : (a b c : Bool) (r : Reading) → both (good_length n) (leb n (length rest)) ≡ a → less (word ρ prev) (word ρ (take n rest)) ≡ b → ltb i most ≡ c
        → read_from ρ most (suc i) (take n rest) n rest ≡ r
        → ((ys : List Bytes) → n ≤ length rest → read_from ρ most (suc i) (take n rest) n rest ≡ Names ys → ReadBack ρ most (suc i) (take n rest) (drop n rest) ys)
        → pick a (pick b (pick c (after (take n rest) r) (Refused 7 i)) (Refused 6 i)) (Refused 5 i) ≡ Names xs
        → ReadBack ρ most i prev (n ∷ rest) xs
    go true true true (Names ys) p q t f ih e' =
        let l = both_true (good_length n) (leb n (length rest)) p in
        let fits : n ≤ length rest = leb-true n (length rest) l.1 in
        let b = ih ys fits f in
        let size : length (take n rest) ≡ n = length-take-le n rest fits in
        let all : xs ≡ take n rest ∷ ys = cc in
        rw all (record {
          bytes = ap₂ (λ (m : ℕ) (r : Bytes). m ∷ r) size (ap (λ (r : Bytes). take n rest ++ r) b.bytes ∙ take-append-drop n rest);
          few = omega (arith, b.few, ltb-true i most t);
          rises = rw (size, l.0, q) b.rises;
        })
    go true true true (Refused c j) p q t f ih e' = let z : ◌≡◌ {A = ℕ} 0 1 = cc in absurd (omega arith)
    go true true false r p q t f ih e' = let z : ◌≡◌ {A = ℕ} 0 1 = cc in absurd (omega arith)
    go true false c r p q t f ih e' = let z : ◌≡◌ {A = ℕ} 0 1 = cc in absurd (omega arith)
    go false b c r p q t f ih e' = let z : ◌≡◌ {A = ℕ} 0 1 = cc in absurd (omega arith)

-- what a reading of at most so many names gives
pub record ReadNames (ρ : Rule) (most : ℕ) (s : Bytes) (xs : List Bytes) : Type 0 where
  pub bytes : encode xs ≡ s
  pub few : length xs ≤ most
  pub rises : rising ρ [] xs ≡ true

pub read_names : (ρ : Rule) (most : ℕ) (s : Bytes) (xs : List Bytes) → read_list ρ most s ≡ Names xs → ReadNames ρ most s xs
unfolding read_list
read_names ρ most s xs e =
    let b = read_back_lem ρ most 0 [] 0 s xs zero-le e in
    record { bytes = b.bytes; few = omega (arith, b.few); rises = b.rises }

pub read-sound : (ρ : Rule) (s : Bytes) (xs : List Bytes) → read_list ρ most_names s ≡ Names xs → (encode xs ≡ s) × (sound ρ xs ≡ true)
unfolding sound
read-sound ρ s xs e =
    let b = read_names ρ most_names s xs e in
    (b.bytes, rw (le-leb (length xs) most_names b.few) b.rises)

-- ---- a list that is not read

-- the code, and that it is no 7 where the names may be as many as the bytes that are left
abbrev Code : ℕ → ℕ → ℕ → Type 0
Code most left code = (5 ≤ code) × (left ≤ most → code ≤ 6)

from-refused : (ρ : Rule) (most i : ℕ) (prev : Bytes) (n : ℕ) (s : Bytes) (code j : ℕ) → read_from ρ most i prev n s ≡ Refused code j → Code most (i + length (drop n s)) code
unfolding read_from
from-refused ρ most i prev zero [] code j e = let z : ◌≡◌ {A = ℕ} 0 1 = cc in absurd (omega arith)
from-refused ρ most i prev (suc n) [] code j e = let z : ◌≡◌ {A = ℕ} 0 1 = cc in absurd (omega arith)
from-refused ρ most i prev (suc n) (b ∷ s) code j e = from-refused ρ most i prev n s code j e
from-refused ρ most i prev zero (n ∷ rest) code j e =
    go (both (good_length n) (leb n (length rest))) (less (word ρ prev) (word ρ (take n rest))) (ltb i most) refl (read_from ρ most (suc i) (take n rest) n rest) refl
    (λ c k. from-refused ρ most (suc i) (take n rest) n rest c k) e
  where
    go : (a b c : Bool) → ltb i most ≡ c → (r : Reading) → read_from ρ most (suc i) (take n rest) n rest ≡ r
        → ((c' k : ℕ) → read_from ρ most (suc i) (take n rest) n rest ≡ Refused c' k → Code most (suc i + length (drop n rest)) c')
        → pick a (pick b (pick c (after (take n rest) r) (Refused 7 i)) (Refused 6 i)) (Refused 5 i) ≡ Refused code j
        → Code most (i + suc (length rest)) code
    go true true true t (Names xs) f ih e' = let z : ◌≡◌ {A = ℕ} 0 1 = cc in absurd (omega arith)
    go true true true t (Refused c k) f ih e' =
        let same : c ≡ code = cc in
        let is = ih c k f in
        (omega (arith, is.0), λ h. omega (arith, is.1 (omega (arith, length-drop n rest))))
    go true true false t r f ih e' =
        let same : 7 ≡ code = cc in
        (omega arith, λ h. let within : true ≡ false = sym (lt-ltb i most (omega arith)) ∙ t in absurd (false≠true (sym within)))
    go true false c t r f ih e' = let same : 6 ≡ code = cc in (omega arith, λ h. omega arith)
    go false b c t r f ih e' = let same : 5 ≡ code = cc in (omega arith, λ h. omega arith)

pub read-refused : (ρ : Rule) (most : ℕ) (s : Bytes) (code i : ℕ) → read_list ρ most s ≡ Refused code i → 5 ≤ code
unfolding read_list
read-refused ρ most s code i e = (from-refused ρ most 0 [] 0 s code i e).0

-- a list has no more names than bytes: judged by its own length it is never refused for their number
pub alone-refused : (ρ : Rule) (s : Bytes) (code i : ℕ) → read_list ρ (length s) s ≡ Refused code i → code ≤ 6
unfolding read_list
alone-refused ρ s code i e = (from-refused ρ (length s) 0 [] 0 s code i e).1 (omega arith)

-- ---- what a sound list is

pub sound-few : (ρ : Rule) (xs : List Bytes) → sound ρ xs ≡ true → length xs ≤ most_names
unfolding sound
sound-few ρ xs h = leb-true (length xs) most_names (both_true (leb (length xs) most_names) (rising ρ [] xs) h).0

pub sound-rising : (ρ : Rule) (xs : List Bytes) → sound ρ xs ≡ true → rising ρ [] xs ≡ true
unfolding sound
sound-rising ρ xs h = (both_true (leb (length xs) most_names) (rising ρ [] xs) h).1

pub good_length_lem : (n : ℕ) → good_length n ≡ true → (1 ≤ n) × (n ≤ longest)
good_length_lem n h =
    let b = both_true (ltb 0 n) (leb n longest) h in
    (ltb-true 0 n b.0, leb-true n longest b.1)

-- a list that rises from prev on, taken apart
pub record First (ρ : Rule) (prev x : Bytes) (xs : List Bytes) : Type 0 where
  pub size : good_length (length x) ≡ true
  pub above : less (word ρ prev) (word ρ x) ≡ true
  pub rest : rising ρ x xs ≡ true

pub rising-first : (ρ : Rule) (prev x : Bytes) (xs : List Bytes) → rising ρ prev (x ∷ xs) ≡ true → First ρ prev x xs
unfolding rising
rising-first ρ prev x xs h =
    let b = both_true (good_length (length x)) (both (less (word ρ prev) (word ρ x)) (rising ρ x xs)) h in
    let c = both_true (less (word ρ prev) (word ρ x)) (rising ρ x xs) b.1 in
    record { size = b.0; above = c.0; rest = c.1 }

pub rising-sizes : (ρ : Rule) (prev : Bytes) (xs : List Bytes) → rising ρ prev xs ≡ true → All (λ x. (1 ≤ length x) × (length x ≤ longest)) xs
rising-sizes ρ prev [] h = nil
rising-sizes ρ prev (x ∷ xs) h =
    let f = rising-first ρ prev x xs h in
    cons (good_length_lem (length x) f.size) (rising-sizes ρ x xs f.rest)

-- no symbol of a name is the end symbol: by a rule that is sure, and of names of bytes by a lawful one
abbrev pub Symbols : Rule → List Bytes → Type 0
Symbols ρ xs = All (λ x. Positive (word ρ x)) xs

pub sure-symbols : (ρ : Rule) → Sure ρ → (xs : List Bytes) → Symbols ρ xs
sure-symbols ρ ok [] = nil
sure-symbols ρ ok (x ∷ xs) = cons (word-positive ρ ok x) (sure-symbols ρ ok xs)

pub lawful-symbols : (ρ : Rule) → Lawful ρ → (xs : List Bytes) → All (λ x. All (λ b. b < 256) x) xs → Symbols ρ xs
lawful-symbols ρ ok [] nil = nil
lawful-symbols ρ ok (x ∷ xs) (cons h a) = cons (letters-positive ρ ok x h) (lawful-symbols ρ ok xs a)

-- a sound list's words: each above the one before it is each above all before it
symbols-rise : (ρ : Rule) (prev : Bytes) (xs : List Bytes) → Symbols ρ xs → rising ρ prev xs ≡ true → Above (word ρ prev) (map (word ρ) xs) × Rises (map (word ρ) xs)
unfolding rising
symbols-rise ρ prev [] a h = (nil, start)
symbols-rise ρ prev (x ∷ xs) (cons p a) h =
    let b = both_true (good_length (length x)) (both (less (word ρ prev) (word ρ x)) (rising ρ x xs)) h in
    let c = both_true (less (word ρ prev) (word ρ x)) (rising ρ x xs) b.1 in
    let r = symbols-rise ρ x xs a c.1 in
    (cons c.0 (all_map (λ v k. less-trans (word ρ prev) (word ρ x) v c.0 k) r.0), rise p r.0 r.1)

pub symbols-rises : (ρ : Rule) (xs : List Bytes) → Symbols ρ xs → rising ρ [] xs ≡ true → Rises (map (word ρ) xs)
symbols-rises ρ xs a h = (symbols-rise ρ [] xs a h).1

pub rising-rises : (ρ : Rule) → Sure ρ → (prev : Bytes) (xs : List Bytes) → rising ρ prev xs ≡ true
    → Above (word ρ prev) (map (word ρ) xs) × Rises (map (word ρ) xs)
rising-rises ρ ok prev xs h = symbols-rise ρ prev xs (sure-symbols ρ ok xs) h

pub sound-rises : (ρ : Rule) → Sure ρ → (xs : List Bytes) → sound ρ xs ≡ true → Rises (map (word ρ) xs)
sound-rises ρ ok xs h = (rising-rises ρ ok [] xs (sound-rising ρ xs h)).1

-- by two positions
pub rising-less : (ρ : Rule) (xs : List Bytes) → Symbols ρ xs → rising ρ [] xs ≡ true → (i j : ℕ) → i < j → j < length xs → less (word ρ (get_or xs i [])) (word ρ (get_or xs j [])) ≡ true
rising-less ρ xs a h i j l m = rw (← nth-word ρ xs i, ← nth-word ρ xs j) (nth-less (map (word ρ) xs) i j (symbols-rises ρ xs a h) l (omega (arith, length-map xs (word ρ))))

pub word-short : (ρ : Rule) (xs : List Bytes) → sound ρ xs ≡ true → (i : ℕ) → length (nth (map (word ρ) xs) i) ≤ longest
word-short ρ xs is i = go xs i (rising-sizes ρ [] xs (sound-rising ρ xs is))
  where
    go : (ys : List Bytes) (j : ℕ) → All (λ x. (1 ≤ length x) × (length x ≤ longest)) ys → length (nth (map (word ρ) ys) j) ≤ longest
    go [] j a = zero-le
    go (y ∷ ys) zero (cons h a) = omega (arith, length-map y ρ, h.1)
    go (y ∷ ys) (suc j) (cons h a) = go ys j a

-- ---- and back

-- names that rise one by one rise from any name that is below the first
pub from-rising : (ρ : Rule) (prev : Bytes) (xs : List Bytes) → All (λ x. (1 ≤ length x) × (length x ≤ longest)) xs
    → (0 < length xs → less (word ρ prev) (word ρ (get_or xs 0 [])) ≡ true)
    → ((i : ℕ) → suc i < length xs → less (word ρ (get_or xs i [])) (word ρ (get_or xs (suc i) [])) ≡ true)
    → rising ρ prev xs ≡ true
unfolding rising
from-rising ρ prev [] a l m = refl
from-rising ρ prev (x ∷ xs) (cons h a) l m =
    rw (lt-ltb 0 (length x) h.0, le-leb (length x) longest h.1, l (suc-le-suc zero-le))
    (from-rising ρ x xs a (λ k. m 0 (suc-le-suc k)) (λ i k. m (suc i) (suc-le-suc k)))

pub from-sound : (ρ : Rule) (xs : List Bytes) → Symbols ρ xs → length xs ≤ most_names → All (λ x. (1 ≤ length x) × (length x ≤ longest)) xs
    → ((i : ℕ) → suc i < length xs → less (word ρ (get_or xs i [])) (word ρ (get_or xs (suc i) [])) ≡ true) → sound ρ xs ≡ true
unfolding sound
from-sound ρ xs p few a m = rw (le-leb (length xs) most_names few) (from-rising ρ [] xs a (λ h. first_above xs p a h) m)
  where
    first_above : (ys : List Bytes) → Symbols ρ ys → All (λ x. (1 ≤ length x) × (length x ≤ longest)) ys → 0 < length ys → less [] (word ρ (get_or ys 0 [])) ≡ true
    first_above [] r b h = absurd (not-suc-le-zero h)
    first_above ([] ∷ ys) r (cons k b) h = absurd (not-suc-le-zero k.0)
    first_above ((c ∷ y) ∷ ys) (cons r rs) (cons k b) h = less-start (ρ c) (word ρ y) ∙ lt-ltb 0 (ρ c) r.0
