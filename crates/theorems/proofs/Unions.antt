-- Document 02, CR 6: three depots merge the same lists in whatever order the mail arrives, over the public call's own function. A list is sound
-- where it reads well by itself, `read_list plain (length s) s ≡ Names xs`: no 5 and no 6.
--     merge-commutes    A with B leaves what B with A leaves, whatever the room, also where the union is refused with 7 or 4
--     merge-either      and where they have at most 2,000 distinct names and there is room, both are accepted
--     merge-associates  (A with B) with C leaves what A with (B with C) leaves; no call on the way is refused
--     merge-itself      A with itself gives A
--     fewer-together    names that are few together with others are few by themselves
--     room-enough       a room as long as both lists together is room for their union
--     example-associates     an instance in which every premise of merge-associates is met
--     example-orders    three lists in all six orders and both groupings, computed
--     example-swapped   what is excepted: of two lists that are swapped a step shows the same bytes, and they lie in the other list
-- Assumes nothing.
use Prim.Native.Nat.{ℕ, ◌+◌, ◌≤◌}
use native.Mathlib.Omega.{arith}
use mathlib.Core.Path.{◌≡◌, refl, sym, ap, ◌∙◌}
use mathlib.Core.Logic.{⊎_elim}
use mathlib.Core.Bool.{true}
use mathlib.Core.List.Memᴰ
use mathlib.Core.List.{List, Memᴰ as Among, [], ◌∷◌, ◌++◌, map}
use lib.ListN.{drop, get_or, length, replicate}
use lib.Seq.{take-append_seam}
use denote.Ref.{Bor}
use borrow.Author.Tests.{leb-true}
use Rattle.words.specs.Words.{Bytes, begins, less, plain, same, shared}
use Rattle.words.proofs.Words.{plain-injective, plain-sure, word-injective}
use Rattle.format.specs.Alone.{Reads}
use Rattle.format.specs.Distinct.{distinct}
use Rattle.format.specs.Example.{text}
use Rattle.format.specs.Merging.{kept, merged}
use Rattle.format.specs.Outcomes.{Written, given, over}
use Rattle.format.specs.Records.{Names, encode, most_names, read_from, read_list, rising}
use Rattle.format.proofs.Distinct.{rising-few, union-few, union-fits}
use Rattle.format.proofs.Merging.{among-either}
use Rattle.format.proofs.Records.{encode-long, read-encode, read_names}
use Rattle.format.proofs.Unions.{merged-associates, merged-commutes, merged-self}
use Rattle.answers.specs.Heads.{head_of, lesser_head, part_of}
use Rattle.answers.specs.Merging.{merge_lists, of_readings, put_names}
use Rattle.answers.proofs.Merging.{all-put, merge-read}
use Rattle.theorems.specs.Unions.{EitherWay, wrote}
use Rattle.theorems.proofs.Merging.{names-rise, union-rises}

-- a sound list, and its names
module _ {s : Bytes} {xs : List Bytes} (p : Reads s xs) where
  bytes : encode xs ≡ s
  bytes = (read_names plain (length s) s xs p.names).bytes

-- the records of rising names are a sound list
sound-list : (xs : List Bytes) → rising plain [] xs ≡ true → Reads (encode xs) xs
sound-list xs r = record { names = read-encode plain (length (encode xs)) xs (encode-long xs) r }

front : (xs ys : List Bytes) (z : Bytes) → Among z xs → Among z (xs ++ ys)
front xs ys z m = Memᴰ.append_left ys m

back : (xs ys : List Bytes) (z : Bytes) → Among z ys → Among z (xs ++ ys)
back xs ys z m = Memᴰ.append_right xs m

-- ---- two lists

module _ (s t : Bytes) (xs ys : List Bytes) (p : read_list plain (length s) s ≡ Names xs) (q : read_list plain (length t) t ≡ Names ys) where
  a : Reads s xs
  a = record { names = p }

  b : Reads t ys
  b = record { names = q }

  pub merge-commutes : (room : Bytes) → merge_lists s t room ≡ merge_lists t s room
  merge-commutes room =
      merge-read a b room ∙ ap (put_names room) (merged-commutes plain plain-sure (word-injective plain plain-injective) xs ys (names-rise a) (names-rise b)) ∙ sym (merge-read b a room)

  few-names : length (distinct (xs ++ ys)) ≤ most_names → length (merged plain xs ys) ≤ most_names
  few-names few = omega (arith, union-few plain plain-sure xs ys (names-rise a) (names-rise b) (xs ++ ys) (front xs ys) (back xs ys))

  pub merge-either : (room : Bytes) → length (distinct (xs ++ ys)) ≤ most_names → length (encode (merged plain xs ys)) ≤ length room
      → ((merge_lists s t room).answer.code ≡ 0) × (wrote (merge_lists s t room) ≡ wrote (merge_lists t s room))
  merge-either room few fits = (
    ap (λ (w : Written). w.answer.code) (merge-read a b room ∙ all-put room (merged plain xs ys) (few-names few) fits),
    ap wrote (merge-commutes room),
  )

  pub room-enough : (room : Bytes) → length s + length t ≤ length room → length (encode (merged plain xs ys)) ≤ length room
  room-enough room h = omega (arith, union-fits plain xs ys, ap length (bytes a), ap length (bytes b))

-- names that are few together with others are few by themselves
pub fewer-together : (s : Bytes) (xs ys : List Bytes) → read_list plain (length s) s ≡ Names xs → length (distinct (xs ++ ys)) ≤ most_names → length xs ≤ most_names
fewer-together s xs ys p few = let a : Reads s xs = record { names = p } in omega (arith, rising-few plain plain-sure xs (names-rise a) (xs ++ ys) (front xs ys))

-- ---- one list

pub merge-itself : (s : Bytes) (xs : List Bytes) (room : Bytes) → read_list plain (length s) s ≡ Names xs → length (distinct xs) ≤ most_names → length s ≤ length room
    → merge_lists s s room ≡ record { answer = given (length s) 0; room = over s room }
merge-itself s xs room p few fits =
    let a : Reads s xs = record { names = p } in
    let self : merged plain xs xs ≡ xs = merged-self plain plain-sure xs (names-rise a) in
    let names : length (merged plain xs xs) ≤ most_names = omega (arith, ap length self, rising-few plain plain-sure xs (names-rise a) xs (λ z m. m)) in
    let all : encode (merged plain xs xs) ≡ s = ap encode self ∙ bytes a in
    merge-read a a room ∙ all-put room (merged plain xs xs) names (omega (arith, ap length all)) ∙ ap (λ (l : Bytes). record { answer = given (length l) 0; room = over l room }) all

-- ---- three lists

module _ (s t u : Bytes) (xs ys zs : List Bytes) (p : read_list plain (length s) s ≡ Names xs) (q : read_list plain (length t) t ≡ Names ys) (r : read_list plain (length u) u ≡ Names zs)
    (few : length (distinct (xs ++ (ys ++ zs))) ≤ most_names) where
  first-sound : Reads s xs
  first-sound = record { names = p }

  second-sound : Reads t ys
  second-sound = record { names = q }

  third-sound : Reads u zs
  third-sound = record { names = r }

  -- where each list's names stand among all
  in-first : (z : Bytes) → Among z xs → Among z (xs ++ (ys ++ zs))
  in-first = front xs (ys ++ zs)

  in-second : (z : Bytes) → Among z ys → Among z (xs ++ (ys ++ zs))
  in-second z m = back xs (ys ++ zs) z (front ys zs z m)

  in-third : (z : Bytes) → Among z zs → Among z (xs ++ (ys ++ zs))
  in-third z m = back xs (ys ++ zs) z (back ys zs z m)

  pub merge-associates : (left right room : Bytes) → length (encode (merged plain xs ys)) ≤ length left → length (encode (merged plain ys zs)) ≤ length right
      → length (encode (merged plain (merged plain xs ys) zs)) ≤ length room → EitherWay s t u left right room
  merge-associates left right room fits-left fits-right fits = record {
    left-accepted = ap (λ (w : Written). w.answer.code) one_way;
    right-accepted = ap (λ (w : Written). w.answer.code) other_way;
    accepted = ap (λ (l : Bytes). (merge_lists l u room).answer.code) wrote-left ∙ ap (λ (w : Written). w.answer.code) (merge-read (sound-list (merged plain xs ys) (union-rises first-sound second-sound)) third-sound room ∙ all-put room (merged plain (merged plain xs ys) zs) all-few fits);
    same =
        ap (λ (l : Bytes). merge_lists l u room) wrote-left ∙ merge-read (sound-list (merged plain xs ys) (union-rises first-sound second-sound)) third-sound room
        ∙ ap (put_names room) (merged-associates plain plain-sure (word-injective plain plain-injective) xs ys zs (names-rise first-sound) (names-rise second-sound) (names-rise third-sound))
        ∙ sym (merge-read first-sound (sound-list (merged plain ys zs) (union-rises second-sound third-sound)) room) ∙ ap (λ (l : Bytes). merge_lists s l room) (sym wrote_right);
  }
    where
      all-few : length (merged plain (merged plain xs ys) zs) ≤ most_names
      all-few = omega (arith, union-few plain plain-sure (merged plain xs ys) zs (union-rises first-sound second-sound) (names-rise third-sound) (xs ++ (ys ++ zs)) in_either in-third)
        where
          in_either : (z : Bytes) → Among z (merged plain xs ys) → Among z (xs ++ (ys ++ zs))
          in_either z m = ⊎_elim (in-first z) (in-second z) (among-either plain xs ys m)

      left-few : length (merged plain xs ys) ≤ most_names
      left-few = omega (arith, union-few plain plain-sure xs ys (names-rise first-sound) (names-rise second-sound) (xs ++ (ys ++ zs)) in-first in-second)

      right-few : length (merged plain ys zs) ≤ most_names
      right-few = omega (arith, union-few plain plain-sure ys zs (names-rise second-sound) (names-rise third-sound) (xs ++ (ys ++ zs)) in-second in-third)

      one_way : merge_lists s t left ≡ record { answer = given (length (encode (merged plain xs ys))) 0; room = over (encode (merged plain xs ys)) left }
      one_way = merge-read first-sound second-sound left ∙ all-put left (merged plain xs ys) left-few fits-left

      other_way : merge_lists t u right ≡ record { answer = given (length (encode (merged plain ys zs))) 0; room = over (encode (merged plain ys zs)) right }
      other_way = merge-read second-sound third-sound right ∙ all-put right (merged plain ys zs) right-few fits-right

      wrote-left : wrote (merge_lists s t left) ≡ encode (merged plain xs ys)
      wrote-left = ap wrote one_way ∙ take-append_seam (encode (merged plain xs ys)) (drop (length (encode (merged plain xs ys))) left)

      wrote_right : wrote (merge_lists t u right) ≡ encode (merged plain ys zs)
      wrote_right = ap wrote other_way ∙ take-append_seam (encode (merged plain ys zs)) (drop (length (encode (merged plain ys zs))) right)

-- ---- computed

-- Mar and Marina, Marina and Market Square, Mar and Zoo, as records
abbrev three : List Bytes
three = (3 ∷ text "Mar" ++ (6 ∷ text "Marina")) ∷ (6 ∷ text "Marina" ++ (13 ∷ text "Market Square")) ∷ (3 ∷ text "Mar" ++ (3 ∷ text "Zoo")) ∷ []

abbrev room : Bytes
room = replicate 40 7

-- list number i of the three
abbrev list : ℕ → Bytes
list i = get_or three i []

-- (A with B) with C, then A with (B with C)
abbrev grouped : ℕ × ℕ × ℕ → List Bytes
grouped o =
    wrote (merge_lists (wrote (merge_lists (list o.0) (list o.1) room)) (list o.2) room)
    ∷ wrote (merge_lists (list o.0) (wrote (merge_lists (list o.1) (list o.2) room)) room) ∷ []

abbrev orders : List (ℕ × ℕ × ℕ)
orders = (0, 1, 2) ∷ (0, 2, 1) ∷ (1, 0, 2) ∷ (1, 2, 0) ∷ (2, 0, 1) ∷ (2, 1, 0) ∷ []

-- Mar, Marina, Market Square and Zoo: 29 bytes
abbrev whole : Bytes
whole = 3 ∷ text "Mar" ++ (6 ∷ text "Marina" ++ (13 ∷ text "Market Square" ++ (3 ∷ text "Zoo")))

pub example-orders : map grouped orders ≡ replicate 6 (whole ∷ whole ∷ [])
unfolding shared less kept merged encode read_from read_list of_readings merge_lists
example-orders = refl

-- Every premise is met: the three read well, have 4 distinct names together, and there is room.
pub example-associates : EitherWay (list 0) (list 1) (list 2) room room room
unfolding shared less begins same kept merged distinct encode read_from read_list
example-associates =
    merge-associates (list 0) (list 1) (list 2) (text "Mar" ∷ text "Marina" ∷ []) (text "Marina" ∷ text "Market Square" ∷ []) (text "Mar" ∷ text "Zoo" ∷ []) refl refl refl (leb-true 4 most_names refl)
    room room room (leb-true 25 40 refl) (leb-true 29 40 refl) (leb-true 29 40 refl)

-- the first list is lent at block 1, the second at block 2
abbrev lent : ℕ → ℕ → Bor Bytes
lent block i = record { ref_ptr = (block, 0); now = list i }

-- both have Mar at their front: the bytes are the same, and they lie in the list that comes first
pub example-swapped : part_of (lent 1 0) (lent 2 2) (head_of (list 0) (list 2) 0 0) ∷ part_of (lent 2 2) (lent 1 0) (head_of (list 2) (list 0) 0 0) ∷ [] ≡ ((1, 1), text "Mar") ∷ ((2, 1), text "Mar") ∷ []
unfolding shared less encode read_from read_list of_readings lesser_head head_of
example-swapped = refl
