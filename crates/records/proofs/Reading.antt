-- Laws of the reading of a list, one for each way that the code goes.
--     ReadUpTo, ReadsOn            so many names are read, and noted: reads-start
--     StandsAt, stands_at        the next record begins here, with this length
--     Comparing                  it is of good length, and its name agrees with the last so far: comparing-start, byte-same
--     ComesApart                 and no further: one-ends, bytes-differ
--     NewAbove, new-above        its name is above the last: reads-noted, reads-passed, list-falls
--     good-list                  how a list is judged that reads well
--     no_name, long-name, cut-name, not-above, too_many     and one that is refused
-- Assumes nothing.
use Prim.Native.Nat.{ℕ, suc, ◌+◌, ◌-◌, ◌≤◌, ◌<◌, min, zero-le}
use native.Mathlib.Nat.{lt_irrefl, not-suc-le-zero}
use native.Mathlib.Decide.{ℕ_discrete}
use native.Mathlib.Numerals.{add-one}
use native.Mathlib.Omega.{arith}
use mathlib.Core.Path.{◌≡◌, refl, sym, ap, ap₂, ◌∙◌, subst}
use Rattle.std.proofs.Common.{Some, None, Ok, Err}
use mathlib.Core.Bool.{Bool, true, false}
use mathlib.Core.List.{List, [], ◌∷◌, ◌++◌, append_assoc, append-nil}
use lib.Dec.{leb, ltb}
use lib.ListN.{length, get_or, set, drop, take, length-append, length-drop, length-set, drop_of_length-le, get_or-append}
use lib.Seq.{drop-cons, drop-drop, get_or_at, get_or-set_same, get_or-set_other}
use borrow.Author.Tests.{lt-ltb, le-ltb, le-leb, lt-leb}
use Rattle.words.specs.Words.{Bytes, Rule, both, less, pick, shared, word}
use Rattle.words.specs.Rising.{Sure}
use Rattle.words.proofs.Words.{part_at, shared-more}
use Rattle.format.specs.Outcomes.{given, numbered}
use Rattle.format.specs.Records.{Names, Reading, Refused, after, good_length, read_from, read_list}
use Rattle.format.proofs.Records.{read-refused, read-skip}
use Rattle.numbers.proofs.Parts.{part_length}
use Rattle.refusals.specs.Refusals.{beside, code_of, said}
use Rattle.refusals.specs.declared.Refusal.{Refusal}
use Rattle.refusals.specs.declared.Refusal.TheVariants.{BadRecord, NotAbove, TooManyNames}
use Rattle.records.specs.Above.{part, shared_above}
use Rattle.records.specs.Lists.{Judged, Noted, names_in, reading_of}
use Rattle.records.proofs.Above.{above-less, above-not, above-shares, above-short, lent-part, part-byte}
use Rattle.records.proofs.Alike.{shared-both}

-- ---- what is noted

noted-none : (ρ : Rule) (lens counts shares : List ℕ) → Noted ρ [] lens counts shares
noted-none ρ lens counts shares = record {
  lens-room = zero-le;
  counts-room = zero-le;
  shares-room = zero-le;
  sizes = λ i h. absurd (not-suc-le-zero h);
  first = λ h. absurd (not-suc-le-zero h);
  common = λ i h. absurd (not-suc-le-zero h);
  alike = λ i h. absurd (not-suc-le-zero h);
}

-- one name more
module _ (xs : List Bytes) (x : Bytes) (n : ℕ) (counted : length xs ≡ n) where
  longer : length (xs ++ (x ∷ [])) ≡ suc n
  longer = length-append xs (x ∷ []) ∙ omega arith

  new-at : (i : ℕ) → i ≡ n → get_or (xs ++ (x ∷ [])) i [] ≡ x
  new-at i e = get_or_at xs x [] [] i (counted ∙ sym e)

  old-at : (i : ℕ) → i < n → get_or (xs ++ (x ∷ [])) i [] ≡ get_or xs i []
  old-at i h = get_or-append xs (x ∷ []) [] i (omega arith)

  -- a row that has a number for each name and the one before: one number more, that of the last name and this one
  row_more : (of : Bytes → Bytes → ℕ) (row : List ℕ) (k : ℕ) → n < length row → ((i : ℕ) → suc i ≡ n → k ≡ of (get_or xs i []) x)
      → ((i : ℕ) → suc i < length xs → get_or row (suc i) 0 ≡ of (get_or xs i []) (get_or xs (suc i) []))
      → (i : ℕ) → suc i < length (xs ++ (x ∷ [])) → get_or (set row n k) (suc i) 0 ≡ of (get_or (xs ++ (x ∷ [])) i []) (get_or (xs ++ (x ∷ [])) (suc i) [])
  row_more of row k inside next so_far i h = elim (ℕ_discrete (suc i) n) [
    | yes e ↦ rw (old-at i (omega arith), new-at (suc i) e, ← e, get_or-set_same row (suc i) k 0 (omega arith)) (next i e)
    | no o ↦ get_or-set_other row n (suc i) k 0 o ∙ so_far i (omega (arith, longer))
        ∙ ap₂ of (sym (old-at i (omega (arith, longer)))) (sym (old-at (suc i) (omega (arith, longer))))
  ]

  -- it has m bytes, and shares k of them and j symbols with the last
  noted_more : {ρ : Rule} {lens counts shares : List ℕ} (m k j : ℕ) → Noted ρ xs lens counts shares → n < length lens → n < length counts → n < length shares → length x ≡ m
      → (n ≡ 0 → k ≡ 0) → ((i : ℕ) → suc i ≡ n → k ≡ shared (get_or xs i []) x) → ((i : ℕ) → suc i ≡ n → j ≡ shared (word ρ (get_or xs i [])) (word ρ x))
      → Noted ρ (xs ++ (x ∷ [])) (set lens n m) (set counts n k) (set shares n j)
  noted_more {ρ} {lens} {counts} {shares} m k j noted in_lens in-counts in-shares size alone next alike = record {
    lens-room = omega (arith, longer, length-set lens n m);
    counts-room = omega (arith, longer, length-set counts n k);
    shares-room = omega (arith, longer, length-set shares n j);
    sizes = λ i h. elim (ℕ_discrete i n) [
      | yes e ↦ rw (e, get_or-set_same lens n m 0 in_lens, new-at n refl) (sym size)
      | no o ↦ get_or-set_other lens n i m 0 o ∙ noted.sizes i (omega (arith, longer)) ∙ ap length (sym (old-at i (omega (arith, longer))))
    ];
    first = λ h. elim (ℕ_discrete 0 n) [
      | yes e ↦ rw (← e, get_or-set_same counts 0 k 0 (omega arith)) (alone (sym e))
      | no o ↦ get_or-set_other counts n 0 k 0 o ∙ noted.first (omega arith)
    ];
    common = row_more shared counts k in-counts next noted.common;
    alike = row_more (λ a b. shared (word ρ a) (word ρ b)) shares j in-shares alike noted.alike;
  }

-- ---- the walk over the records

-- names before those of a reading
abbrev onto : List Bytes → Reading → Reading
onto xs (Names ys) = Names (xs ++ ys)
onto xs (Refused code record-number) = Refused code record-number

onto-none : (r : Reading) → r ≡ onto [] r
onto-none (Names xs) = refl
onto-none (Refused code record-number) = refl

onto-after : (xs : List Bytes) (x : Bytes) (r : Reading) → onto xs (after x r) ≡ onto (xs ++ (x ∷ [])) r
onto-after xs x (Names ys) = ap Names (sym (append_assoc xs (x ∷ []) ys))
onto-after xs x (Refused code record-number) = refl

-- n names are read, which are noted; the next record begins at o, and the last name has m bytes at p
pub record ReadUpTo (ρ : Rule) (s : Bytes) (most : ℕ) (lens counts shares : List ℕ) (o p m n : ℕ) : Type 0 where
  pub lawful : Sure ρ
  pub within : o ≤ length s
  pub inside : p + m ≤ length s
  pub few : n ≤ most
  pub counts-row : length lens ≡ length counts
  pub shares-row : length lens ≡ length shares
  pub done : List Bytes
  pub counted : length done ≡ n
  pub alone : n ≡ 0 → m ≡ 0
  pub last : (i : ℕ) → suc i ≡ n → get_or done i [] ≡ part s p m
  pub noted : most ≤ length lens → Noted ρ done lens counts shares
  pub so_far : read_list ρ most s ≡ onto done (read_from ρ most n (part s p m) 0 (drop o s))

-- a record begins at o, with the length len
pub record StandsAt (ρ : Rule) (s : Bytes) (most : ℕ) (lens counts shares : List ℕ) (o p m n len : ℕ) : Type 0 where
  pub read : ReadUpTo ρ s most lens counts shares o p m n
  pub here : o < length s
  pub byte : len ≡ get_or s o 0

-- all of it is there, and its name agrees with the last in the first i bytes
pub record Comparing (ρ : Rule) (s : Bytes) (most : ℕ) (lens counts shares : List ℕ) (o p m n len i : ℕ) : Type 0 where
  pub stands : StandsAt ρ s most lens counts shares o p m n len
  pub some : 0 < len
  pub short : len ≤ 200
  pub whole : o + 1 + len ≤ length s
  pub in-old : i ≤ m
  pub in-new : i ≤ len
  pub agree : i ≤ shared (part s p m) (part s (o + 1) len)

module _ {ρ : Rule} {s : Bytes} {most : ℕ} {lens counts shares : List ℕ} {o p m n len i : ℕ} where
  -- and in no more
  abbrev pub ComesApart : Comparing ρ s most lens counts shares o p m n len i → Type 0
  ComesApart k = i ≡ shared (part s p m) (part s (o + 1) len)

  -- it is above the last, and has j symbols of it
  pub record NewAbove (k : Comparing ρ s most lens counts shares o p m n len i) (j : ℕ) : Type 0 where
    pub alike : j ≡ shared (word ρ (part s p m)) (word ρ (part s (o + 1) len))
    pub above : less (word ρ (part s p m)) (word ρ (part s (o + 1) len)) ≡ true
    pub in-new : j ≤ len

reading-start : (ρ : Rule) → Sure ρ → (s : Bytes) (most : ℕ) (lens counts shares : List ℕ) → length lens ≡ length counts → length lens ≡ length shares → ReadUpTo ρ s most lens counts shares 0 0 0 0
unfolding read_list
reading-start ρ lw s most lens counts shares a b = record {
  lawful = lw;
  within = zero-le;
  inside = zero-le;
  few = zero-le;
  counts-row = a;
  shares-row = b;
  done = [];
  counted = refl;
  alone = λ e. refl;
  last = λ i e. refl;
  noted = λ h. noted-none ρ lens counts shares;
  so_far = onto-none (read_from ρ most 0 [] 0 s);
}

-- .. and the rows are as long as they were
pub record ReadsOn (ρ : Rule) (s : Bytes) (most : ℕ) (lens₀ counts₀ shares₀ lens counts shares : List ℕ) (o p m n : ℕ) : Type 0 where
  pub read : ReadUpTo ρ s most lens counts shares o p m n
  pub lens-kept : length lens ≡ length lens₀
  pub counts-kept : length counts ≡ length counts₀
  pub shares-kept : length shares ≡ length shares₀

pub reads-start : (ρ : Rule) → Sure ρ → (s : Bytes) (most : ℕ) (lens counts shares : List ℕ) → length lens ≡ length counts → length lens ≡ length shares → ReadsOn ρ s most lens counts shares lens counts shares 0 0 0 0
reads-start ρ lw s most lens counts shares a b = record { read = reading-start ρ lw s most lens counts shares a b; lens-kept = refl; counts-kept = refl; shares-kept = refl }

pub good-list : {ρ : Rule} {s : Bytes} {most : ℕ} {lens counts shares : List ℕ} {o p m n : ℕ} → ReadUpTo ρ s most lens counts shares o p m n → o ≡ length s → Judged ρ s most lens counts shares (Ok n)
unfolding read_from reading_of
good-list {ρ} {s} {most} {lens} {counts} {shares} {o} r h =
    let e : read_list ρ most s ≡ Names r.done = r.so_far ∙ rw (drop_of_length-le s {i = o} (omega arith)) (ap Names (append-nil r.done)) in
    record {
      verdict = rw e (ap (λ (n : ℕ). given n 0) (sym r.counted));
      refuses = λ e q. absurd (let z : ◌≡◌ {A = ℕ} 0 1 = cc in omega arith);
      noted = λ b. subst (λ (x : Reading). Noted ρ (names_in x) lens counts shares) (sym e) (r.noted b);
    }

refused : (ρ : Rule) (s : Bytes) (most : ℕ) (lens counts shares : List ℕ) (e : Refusal) → said e ≡ numbered (code_of e) (beside e) → read_list ρ most s ≡ Refused (code_of e) (beside e) → Judged ρ s most lens counts shares (Err e)
unfolding reading_of
refused ρ s most lens counts shares e h is = record {
  verdict = rw is h;
  refuses = λ d q. let same : e ≡ d = cc in omega (arith, ap code_of same, read-refused ρ most s (code_of e) (beside e) is);
  noted = λ b. subst (λ (x : Reading). Noted ρ (names_in x) lens counts shares) (sym is) (noted-none ρ lens counts shares);
}

-- question 5, as the reading asks it
abbrev well_sized : Bytes → ℕ → ℕ → Bool
well_sized s o len = both (good_length len) (leb len (length (drop (o + 1) s)))

module _ {ρ : Rule} {s : Bytes} {most : ℕ} {lens counts shares : List ℕ} {o p m n len : ℕ} (r : StandsAt ρ s most lens counts shares o p m n len) where
  -- a record is asked 5, then 6, then 7
  asked : (a b c : Bool) → well_sized s o len ≡ a → less (word ρ (part s p m)) (word ρ (part s (o + 1) len)) ≡ b → ltb n most ≡ c
      → read_list ρ most s ≡ onto r.read.done (pick a (pick b (pick c
      (after (part s (o + 1) len) (read_from ρ most (suc n) (part s (o + 1) len) len (drop (o + 1) s))) (Refused 7 n)) (Refused 6 n)) (Refused 5 n))
  unfolding read_from
  asked a b c ea eb ec =
      let opened : drop o s ≡ len ∷ drop (o + 1) s = drop-cons s o 0 r.here ∙ ap₂ (λ (l k : ℕ). l ∷ drop k s) (sym r.byte) (sym (add-one o)) in
      r.read.so_far ∙ rw (opened, ea, eb, ec)

  bad-length : well_sized s o len ≡ false → Judged ρ s most lens counts shares (Err (BadRecord n))
  bad-length e = refused ρ s most lens counts shares (BadRecord n) refl (asked false _ _ e refl refl)

-- where the list has not ended, and its next length byte is read
module _ {ρ : Rule} {s : Bytes} {most : ℕ} {lens counts shares : List ℕ} {o p m n len : ℕ} (r : ReadUpTo ρ s most lens counts shares o p m n) (more : o ≡ length s → ⊥) (byte : len ≡ get_or s o 0) where
  pub stands_at : StandsAt ρ s most lens counts shares o p m n len
  stands_at = record { read = r; here = omega (arith, r.within); byte = byte }

  pub no_name : len ≡ 0 → Judged ρ s most lens counts shares (Err (BadRecord n))
  no_name e = bad-length stands_at (rw (le-ltb 0 len (omega arith)))

  pub long-name : 200 < len → Judged ρ s most lens counts shares (Err (BadRecord n))
  long-name l = bad-length stands_at (rw (lt-ltb 0 len (omega arith), lt-leb len 200 l))

  module _ (some : len ≡ 0 → ⊥) (l : len ≤ 200) where
    pub cut-name : length s - (o + 1) < len → Judged ρ s most lens counts shares (Err (BadRecord n))
    cut-name f = bad-length stands_at (rw (lt-ltb 0 len (omega arith), le-leb len 200 l, length-drop (o + 1) s, lt-leb len (length s - (o + 1)) f))

    pub comparing-start : len ≤ length s - (o + 1) → Comparing ρ s most lens counts shares o p m n len 0
    comparing-start f = record {
      stands = stands_at;
      some = omega arith;
      short = l;
      whole = omega (arith, stands_at.here);
      in-old = zero-le;
      in-new = zero-le;
      agree = zero-le;
    }

module _ {ρ : Rule} {s : Bytes} {most : ℕ} {lens counts shares : List ℕ} {o p m n len i : ℕ} (k : Comparing ρ s most lens counts shares o p m n len i) where
  sized : well_sized s o len ≡ true
  sized = rw (lt-ltb 0 len k.some, le-leb len 200 k.short, length-drop (o + 1) s, le-leb len (length s - (o + 1)) (omega (arith, k.whole)))

  old-length : length (part s p m) ≡ m
  old-length = part_length s p m k.stands.read.inside

  new-length : length (part s (o + 1) len) ≡ len
  new-length = part_length s (o + 1) len k.whole

  -- one byte more that is the same
  one_more : i < m → i < len → get_or s (p + i) 0 ≡ get_or s (o + 1 + i) 0 → i < shared (part s p m) (part s (o + 1) len)
  one_more h l e =
      shared-more (part s p m) (part s (o + 1) len) i k.agree (omega (arith, old-length)) (omega (arith, new-length))
      (part-byte s p m i h ∙ e ∙ sym (part-byte s (o + 1) len i l))

  -- the bytes are compared up to the end of the shorter name
  module _ {shorter : ℕ} (least : shorter ≡ min len m) where
    pub one-ends : i ≡ shorter → ComesApart k
    one-ends e = omega (arith, k.agree, shared-both (part s p m) (part s (o + 1) len), old-length, new-length)

    module _ (left : i ≡ shorter → ⊥) where
      old-left : i < m
      old-left = omega arith

      new-left : i < len
      new-left = omega arith

      pub bytes-differ : (get_or s (p + i) 0 ≡ get_or s (o + 1 + i) 0 → ⊥) → ComesApart k
      bytes-differ d = sym (part_at (part s p m) (part s (o + 1) len) i k.agree (λ e. d (sym (part-byte s p m i old-left) ∙ e ∙ part-byte s (o + 1) len i new-left)))

      pub byte-same : get_or s (p + i) 0 ≡ get_or s (o + 1 + i) 0 → Comparing ρ s most lens counts shares o p m n len (i + 1)
      byte-same e = record {
        stands = k.stands;
        some = k.some;
        short = k.short;
        whole = k.whole;
        in-old = omega (arith, old-left);
        in-new = omega (arith, new-left);
        agree = omega (arith, one_more old-left new-left e);
      }

-- then it is asked whether it is above the last, and how many symbols they share; both are lent
module _ {ρ : Rule} {s : Bytes} {most : ℕ} {lens counts shares : List ℕ} {o p m n len i : ℕ} (k : Comparing ρ s most lens counts shares o p m n len i) where
  -- the two names as they are lent
  abbrev last_lent : Bytes
  last_lent = take (p + m - p) (drop p s)

  abbrev new_lent : Bytes
  new_lent = take (o + 1 + len - (o + 1)) (drop (o + 1) s)

  given_parts : shared_above ρ last_lent new_lent ≡ shared_above ρ (part s p m) (part s (o + 1) len)
  given_parts = ap₂ (λ (x y : Bytes). shared_above ρ x y) (lent-part s p m) (lent-part s (o + 1) len)

  pub lent_apart : ComesApart k → i ≡ shared (take (p + m - p) (drop p s)) (take (o + 1 + len - (o + 1)) (drop (o + 1) s))
  lent_apart q = q ∙ sym (ap₂ shared (lent-part s p m) (lent-part s (o + 1) len))

  pub not-above : None ≡ shared_above ρ (take (p + m - p) (drop p s)) (take (o + 1 + len - (o + 1)) (drop (o + 1) s)) → Judged ρ s most lens counts shares (Err (NotAbove n))
  not-above e =
      refused ρ s most lens counts shares (NotAbove n) refl
      (asked k.stands true false _ (sized k) (above-not ρ (part s p m) (part s (o + 1) len) (e ∙ given_parts)) refl)

  pub new-above : {j : ℕ} → Some j ≡ shared_above ρ (take (p + m - p) (drop p s)) (take (o + 1 + len - (o + 1)) (drop (o + 1) s)) → NewAbove k j
  new-above {j} e =
      let x : Bytes = part s p m in
      let y : Bytes = part s (o + 1) len in
      let is : Some j ≡ shared_above ρ x y = e ∙ given_parts in
      record {
        alike = above-shares ρ x y is;
        above = above-less ρ x y is;
        in-new = omega (arith, above-short ρ x y is, new-length k);
      }

module _ {ρ : Rule} {s : Bytes} {most : ℕ} {lens counts shares : List ℕ} {o p m n len i : ℕ} {k : Comparing ρ s most lens counts shares o p m n len i} {j : ℕ} (a : NewAbove k j) where
  pub too_many : most ≤ n → Judged ρ s most lens counts shares (Err (TooManyNames n))
  too_many h = refused ρ s most lens counts shares (TooManyNames n) refl (asked k.stands true true false (sized k) a.above (le-ltb n most h))

  pub list-falls : length s - (o + 1 + len) < length s - o
  list-falls = omega (arith, k.whole)

  -- one name more, whatever the rows hold then
  one-read : (lens' counts' shares' : List ℕ) → length lens' ≡ length counts' → length lens' ≡ length shares'
      → (most ≤ length lens' → Noted ρ (k.stands.read.done ++ (part s (o + 1) len ∷ [])) lens' counts' shares')
      → n < most → ReadUpTo ρ s most lens' counts' shares' (o + 1 + len) (o + 1) len (n + 1)
  one-read lens' counts' shares' counts-row shares-row noted h =
      let r : ReadUpTo ρ s most lens counts shares o p m n = k.stands.read in
      let x : Bytes = part s (o + 1) len in
      let rest : Bytes = drop (o + 1 + len) s in
      let skipped : read_from ρ most (suc n) x len (drop (o + 1) s) ≡ read_from ρ most (n + 1) x 0 rest =
      read-skip ρ most (suc n) x len (drop (o + 1) s) ∙ rw (drop-drop len (o + 1) s, add-one n) in
      record {
        lawful = r.lawful;
        within = k.whole;
        inside = k.whole;
        few = omega arith;
        counts-row = counts-row;
        shares-row = shares-row;
        done = r.done ++ (x ∷ []);
        counted = length-append r.done (x ∷ []) ∙ ap (λ (c : ℕ). c + 1) r.counted;
        alone = λ e. absurd (omega arith);
        last = λ c e. get_or_at r.done x [] [] c (r.counted ∙ omega arith);
        noted = noted;
        so_far =
            asked k.stands true true true (sized k) a.above (lt-ltb n most h)
            ∙ ap (λ (y : Reading). onto r.done (after x y)) skipped
            ∙ onto-after r.done x (read_from ρ most (n + 1) x 0 rest);
      }

  module _ {lens₀ counts₀ shares₀ : List ℕ} (lens-kept : length lens ≡ length lens₀) (counts-kept : length counts ≡ length counts₀) (shares-kept : length shares ≡ length shares₀) (h : n < most) where
    -- the rows as they are then
    module _ {lens' counts' shares' : List ℕ} where
      pub reads-noted : ComesApart k → n < length lens → lens' ≡ set lens n len → counts' ≡ set counts n i → shares' ≡ set shares n j
          → ReadsOn ρ s most lens₀ counts₀ shares₀ lens' counts' shares' (o + 1 + len) (o + 1) len (n + 1)
      reads-noted parted l new-lens new-counts new-shares =
          let r : ReadUpTo ρ s most lens counts shares o p m n = k.stands.read in
          let x : Bytes = part s (o + 1) len in
          rw (new-lens, new-counts, new-shares) (record {
            read = one-read (set lens n len) (set counts n i) (set shares n j)
                (length-set lens n len ∙ r.counts-row ∙ sym (length-set counts n i)) (length-set lens n len ∙ r.shares-row ∙ sym (length-set shares n j))
                (λ b. noted_more r.done x n r.counted len i j (r.noted (omega (arith, length-set lens n len))) l (omega (arith, r.counts-row)) (omega (arith, r.shares-row)) (new-length k)
                (λ e. omega (arith, k.in-old, r.alone e))
                (λ c e. parted ∙ ap (λ (y : Bytes). shared y x) (sym (r.last c e)))
                (λ c e. a.alike ∙ ap (λ (y : Bytes). shared (word ρ y) (word ρ x)) (sym (r.last c e)))) h;
            lens-kept = length-set lens n len ∙ lens-kept;
            counts-kept = length-set counts n i ∙ counts-kept;
            shares-kept = length-set shares n j ∙ shares-kept;
          })

      -- there is no place to note it, so not all that may come can be noted
      pub reads-passed : length lens ≤ n → lens' ≡ lens → counts' ≡ counts → shares' ≡ shares
          → ReadsOn ρ s most lens₀ counts₀ shares₀ lens' counts' shares' (o + 1 + len) (o + 1) len (n + 1)
      reads-passed l new-lens new-counts new-shares = rw (new-lens, new-counts, new-shares) (record {
        read = one-read lens counts shares k.stands.read.counts-row k.stands.read.shares-row (λ b. absurd (lt_irrefl n (omega arith))) h;
        lens-kept = lens-kept;
        counts-kept = counts-kept;
        shares-kept = shares-kept;
      })
