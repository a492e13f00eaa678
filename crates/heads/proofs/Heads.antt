-- Laws of the heads of two lists.
--     Headed, head_read            a list that has not ended: its next record, the name in it, and the records behind
--     shows-alone, shows-only, shows_first, shows_second     the head that is shown
--     alone-second, alone-first, lesser-first, lesser-second, lesser-both     ways out of `next_head`
--     rest_of                   a list that reads well is the records of its names
--     no-records, rest_ended, some_left, second-left     lists that have ended, and those that have not
-- Assumes nothing.
use Prim.Native.Nat.{ℕ, suc, ◌+◌, ◌-◌, ◌≤◌, ◌<◌, zero-le}
use native.Mathlib.Nat.{lt_irrefl}
use native.Mathlib.Decide.{ℕ_discrete}
use native.Mathlib.Omega.{arith}
use mathlib.Core.Path.{◌≡◌, refl, sym, ap, ap₂, ◌∙◌, subst}
use mathlib.Core.Logic.{inl, inr}
use mathlib.Core.Bool.{Bool, true, false}
use mathlib.Core.List.{List, [], ◌∷◌, ◌++◌, append-nil}
use lib.ListN.{drop, get_or, length, length-append, length-drop, take}
use lib.Seq.{drop-append_seam, drop-drop, get_or-drop, take-append_seam}
use Rattle.words.specs.Words.{Bytes, less, plain, word}
use Rattle.words.proofs.Words.{apart, equal, false≠true, greater, less-asym, less-irrefl, lesser, ordered, plain-sure, word-positive}
use Rattle.format.specs.Alone.{Reads}
use Rattle.format.specs.Merging.{merged}
use Rattle.format.specs.Records.{encode}
use Rattle.format.proofs.Merging.{merged-both, merged-first, merged-none, merged-second, rising-only}
use Rattle.format.proofs.Records.{First, read_names, rising-first}
use Rattle.answers.specs.Heads.{Head, lesser_head}
use Rattle.heads.specs.Heads.{HeadAsk, OrderSays, RestOf, HeadStep, head_in}
use Rattle.heads.specs.declared.Side.TheVariants.{First as AtFirst, Second as AtSecond}
use Rattle.std.proofs.Common.{Ordering, Less, Equal, Greater}

-- the next record of a list, of `size` bytes, is that of x
pub record Headed (s : Bytes) (at size : ℕ) (xs : List Bytes) : Type 0 where
  pub x : Bytes
  pub others : List Bytes
  pub all : xs ≡ x ∷ others
  pub size_is : size ≡ suc (length x)
  pub rest : RestOf s (at + size) others
  pub fits : at + size ≤ length s
  pub first : First plain [] x others
  pub name-is : take (at + size - (at + 1)) (drop (at + 1) s) ≡ x
  pub record_is : take size (drop at s) ≡ encode (x ∷ [])

pub head_read : (s : Bytes) (at size : ℕ) (xs : List Bytes) → RestOf s at xs → (at ≡ length s → ⊥) → size ≡ 1 + get_or s at 0 → Headed s at size xs
unfolding encode
head_read s at size [] r n e = absurd (n (omega (arith, ap length r.bytes, length-drop at s, r.within)))
head_read s at size (x ∷ xs) r n e =
    let f = rising-first plain [] x xs r.rises in
    let byte : get_or s at 0 ≡ length x = zero-at ∙ ap (λ (l : Bytes). get_or l 0 0) r.bytes in
    let big : size ≡ suc (length x) = omega arith in
    let long : length (drop at s) ≡ suc (length x + length (encode xs)) = ap length r.bytes ∙ ap suc (length-append x (encode xs)) in
    let fit : at + size ≤ length s = omega (arith, length-drop at s) in
    let behind : drop (at + 1) s ≡ x ++ encode xs = step ∙ ap (drop 1) r.bytes in
    record {
      x = x;
      others = xs;
      all = refl;
      size_is = big;
      rest = record {
        within = fit;
        bytes = after big;
        rises = rising-only plain plain-sure x xs f.rest;
      };
      fits = fit;
      first = f;
      name-is = let z : at + size - (at + 1) ≡ length x = omega arith in ap₂ take z behind ∙ take-append_seam x (encode xs);
      record_is = ap₂ take big r.bytes ∙ ap (λ (l : Bytes). length x ∷ l) (take-append_seam x (encode xs) ∙ sym (append-nil x));
    }
  where
    zero-at : get_or s at 0 ≡ get_or (drop at s) 0 0
    zero-at = let z : at ≡ at + 0 = omega arith in ap (λ (i : ℕ). get_or s i 0) z ∙ sym (get_or-drop at s 0 0)

    step : drop (at + 1) s ≡ drop 1 (drop at s)
    step = sym (drop-drop 1 at s)

    after : size ≡ suc (length x) → drop (at + size) s ≡ encode xs
    after big =
        sym (drop-drop size at s) ∙ ap₂ drop big r.bytes ∙ drop-append_seam x (encode xs)

-- ---- the head that is shown

abbrev Shows : ℕ → ℕ → List Bytes → List Bytes → Head → Type 0
Shows i j xs ys h = h ≡ lesser_head (1, i + 1, length (get_or xs 0 [])) (2, j + 1, length (get_or ys 0 [])) xs ys

module _ (i j size : ℕ) {xs ys : List Bytes} where
  shows-alone : {y : Bytes} {others : List Bytes} → size ≡ suc (length y) → xs ≡ [] → ys ≡ y ∷ others → Shows i j xs ys (2, j + 1, size - 1)
  unfolding lesser_head
  shows-alone {y} z e f = let n : size - 1 ≡ length y = omega arith in rw (e, f, n) refl

  module _ {x : Bytes} {others : List Bytes} (z : size ≡ suc (length x)) (e : xs ≡ x ∷ others) where
    shows-only : ys ≡ [] → Shows i j xs ys (1, i + 1, size - 1)
    unfolding lesser_head
    shows-only f = let n : size - 1 ≡ length x = omega arith in rw (e, f, n) refl

    shows_first : {y : Bytes} {more : List Bytes} → ys ≡ y ∷ more → less (word plain y) (word plain x) ≡ false → Shows i j xs ys (1, i + 1, size - 1)
    unfolding lesser_head
    shows_first f l = let n : size - 1 ≡ length x = omega arith in rw (e, f, n, l) refl

  shows_second : {x y : Bytes} {others more : List Bytes} → size ≡ suc (length y) → xs ≡ x ∷ others → ys ≡ y ∷ more → less (word plain y) (word plain x) ≡ true → Shows i j xs ys (2, j + 1, size - 1)
  unfolding lesser_head
  shows_second {x} {y} z e f l = let n : size - 1 ≡ length y = omega arith in rw (e, f, n, l) refl

-- ---- which of two names is the lesser

pub both-same : (x y : Bytes) (s t : Bool) → s ≡ less (word plain x) (word plain y) → s ≡ false → t ≡ less (word plain y) (word plain x) → t ≡ false → word plain x ≡ word plain y
both-same x y s t se sf te tf = elim (ordered (word plain x) (word plain y) (word-positive plain plain-sure x) (word-positive plain plain-sure y)) [
  | lesser h ↦ absurd (false≠true (sym sf ∙ se ∙ h))
  | equal e ↦ e
  | greater h ↦ absurd (false≠true (sym tf ∙ te ∙ h))
]

-- ---- the ways out of `next_head`

module _ {first second : Bytes} {i j : ℕ} {xs ys : List Bytes} (a : RestOf first i xs) (b : RestOf second j ys) where
  -- the first list has ended
  none_left : i ≡ length first → xs ≡ []
  unfolding encode
  none_left e = go xs a.bytes
    where
      go : (zs : List Bytes) → drop i first ≡ encode zs → zs ≡ []
      go [] f = refl
      go (z ∷ zs) f = absurd (lt_irrefl 0 (omega (arith, ap length f, length-drop i first)))

  none_right : j ≡ length second → ys ≡ []
  unfolding encode
  none_right e = go ys b.bytes
    where
      go : (zs : List Bytes) → drop j second ≡ encode zs → zs ≡ []
      go [] f = refl
      go (z ∷ zs) f = absurd (lt_irrefl 0 (omega (arith, ap length f, length-drop j second)))

  pub alone-second : i ≡ length first → 0 < length xs + length ys → (size : ℕ) → size ≡ 1 + get_or second j 0 → HeadStep first second i j xs ys (head_in AtSecond j size i (j + size))
  unfolding merged
  alone-second e some size z =
      let none : xs ≡ [] = none_left e in
      let h = head_read second j size ys b (λ f. lt_irrefl 0 (omega (arith, ap length none, ap length (none_right f)))) z in
      record {
        name = h.x;
        xs-left = [];
        ys-left = h.others;
        is = ap₂ (merged plain) none h.all;
        ahead = subst (RestOf first i) none a;
        beside = h.rest;
        some = omega (arith, h.size_is);
        onward = omega arith;
        fits = h.fits;
        record_is = h.record_is;
        lesser = shows-alone i j size h.size_is none h.all;
      }

  -- a record of the first list is there
  module _ (here : i ≡ length first → ⊥) (size : ℕ) (z : size ≡ 1 + get_or first i 0) where
    p : Headed first i size xs
    p = head_read first i size xs a here z

    pub head-fits : i + size ≤ length first
    head-fits = p.fits

    pub alone-first : j ≡ length second → HeadStep first second i j xs ys (head_in AtFirst i size (i + size) j)
    alone-first e =
        let none : ys ≡ [] = none_right e in
        record {
          name = p.x;
          xs-left = p.others;
          ys-left = [];
          is = ap₂ (merged plain) p.all none ∙ merged-none plain (p.x ∷ p.others) ∙ ap (λ (l : List Bytes). p.x ∷ l) (sym (merged-none plain p.others));
          ahead = p.rest;
          beside = subst (RestOf second j) none b;
          some = omega (arith, p.size_is);
          onward = omega arith;
          fits = p.fits;
          record_is = p.record_is;
          lesser = shows-only i j size p.size_is p.all none;
        }

    -- and one of the second
    module _ (there : j ≡ length second → ⊥) (other : ℕ) (w : other ≡ 1 + get_or second j 0) where
      q : Headed second j other ys
      q = head_read second j other ys b there w

      heads : merged plain xs ys ≡ merged plain (p.x ∷ p.others) (q.x ∷ q.others)
      heads = ap₂ (merged plain) p.all q.all

      -- the names as they are lent
      abbrev x : Bytes
      x = take (i + size - (i + 1)) (drop (i + 1) first)

      abbrev y : Bytes
      y = take (j + other - (j + 1)) (drop (j + 1) second)

      pub lesser-first : {r : Ordering} → OrderSays x y r → r ≡ Less → HeadStep first second i j xs ys (head_in AtFirst i size (i + size) j)
      lesser-first {r} says e =
          let l : less (word plain p.x) (word plain q.x) ≡ true = rw (← p.name-is, ← q.name-is) (rw e at says) in
          record {
            name = p.x;
            xs-left = p.others;
            ys-left = ys;
            is = heads ∙ merged-first plain p.x q.x p.others q.others l q.first.rest ∙ ap (λ (l : List Bytes). p.x ∷ merged plain p.others l) (sym q.all);
            ahead = p.rest;
            beside = b;
            some = omega (arith, p.size_is);
            onward = omega arith;
            fits = p.fits;
            record_is = p.record_is;
            lesser = shows_first i j size p.size_is p.all q.all (less-asym (word plain p.x) (word plain q.x) l);
          }

      pub lesser-second : {r : Ordering} → OrderSays x y r → r ≡ Greater → HeadStep first second i j xs ys (head_in AtSecond j other i (j + other))
      lesser-second {r} says e =
          let l : less (word plain q.x) (word plain p.x) ≡ true = rw (← p.name-is, ← q.name-is) (rw e at says) in
          record {
            name = q.x;
            xs-left = xs;
            ys-left = q.others;
            is = heads ∙ merged-second plain p.x q.x p.others q.others l ∙ ap (λ (l : List Bytes). q.x ∷ merged plain l q.others) (sym p.all);
            ahead = a;
            beside = q.rest;
            some = omega (arith, q.size_is);
            onward = omega arith;
            fits = q.fits;
            record_is = q.record_is;
            lesser = shows_second i j other q.size_is p.all q.all l;
          }

      pub lesser-both : {r : Ordering} → OrderSays x y r → r ≡ Equal → HeadStep first second i j xs ys (head_in AtFirst i size (i + size) (j + other))
      lesser-both {r} says e =
          let l : word plain p.x ≡ word plain q.x = rw (← p.name-is, ← q.name-is) (rw e at says) in
          record {
            name = p.x;
            xs-left = p.others;
            ys-left = q.others;
            is = heads ∙ merged-both plain p.x q.x p.others q.others l q.first.rest;
            ahead = p.rest;
            beside = q.rest;
            some = omega (arith, p.size_is);
            onward = omega arith;
            fits = p.fits;
            record_is = p.record_is;
            lesser = shows_first i j size p.size_is p.all q.all (ap (less (word plain q.x)) l ∙ less-irrefl (word plain q.x));
          }

-- ---- a list that reads well

pub rest_of : {s : Bytes} {xs : List Bytes} → Reads s xs → RestOf s 0 xs
rest_of {s} {xs} r = let a = read_names plain (length s) s xs r.names in record { within = zero-le; bytes = sym a.bytes; rises = a.rises }

-- ---- lists that have ended, and those that have not

-- an empty list of names has no records, and no other has none
pub no-records : (xs : List Bytes) → length (encode xs) ≡ 0 → xs ≡ []
unfolding encode
no-records [] e = refl
no-records (x ∷ xs) e = absurd (lt_irrefl 0 (omega arith))

-- a list whose records are those of no names has ended
pub rest_ended : {s : Bytes} {at : ℕ} (xs : List Bytes) → RestOf s at xs → length xs ≡ 0 → at ≡ length s
unfolding encode
rest_ended {s} {at} [] r e = omega (arith, ap length r.bytes, length-drop at s, r.within)
rest_ended (x ∷ xs) r e = absurd (lt_irrefl 0 (omega arith))

pub some_left : {first second : Bytes} {i j : ℕ} {xs ys : List Bytes} → RestOf first i xs → RestOf second j ys → i + j < length first + length second → 0 < length xs + length ys
some_left {i = i} {j = j} {xs} {ys} a b h = elim (apart 0 (length xs + length ys)) [
  | inl l ↦ l
  | inr l ↦ absurd (lt_irrefl (i + j) (omega (arith, rest_ended xs a (omega arith), rest_ended ys b (omega arith))))
]

-- where the first list has ended the second has not
pub second-left : {first second : Bytes} {i j : ℕ} → HeadAsk first i second j → i ≡ length first → j < length second
second-left {first} {second} {i} {j} k e = elim (ℕ_discrete j (length second)) [
  | yes f ↦ absurd (lt_irrefl 0 (omega (arith, k.some, ap length (none_left k.ahead k.beside e), ap length (none_right k.ahead k.beside f))))
  | no n ↦ omega (arith, k.beside.within)
]

-- the records that are there end within their lists
pub ask-fits : {first second : Bytes} {i j : ℕ} → HeadAsk first i second j → (size : ℕ) → (i ≡ length first → ⊥) → size ≡ 1 + get_or first i 0 → i + size ≤ length first
ask-fits k size here z = head-fits k.ahead k.beside here size z

pub ask-other-fits : {first second : Bytes} {i j : ℕ} → HeadAsk first i second j → (size : ℕ) → (j ≡ length second → ⊥) → size ≡ 1 + get_or second j 0 → j + size ≤ length second
ask-other-fits {second = second} {j = j} k size here z = (head_read second j size k.ys k.beside here z).fits
