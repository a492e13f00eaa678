-- Document 02, CR 2: what merging two lists and stepping over them give, over the public calls' own functions. A list that reads well has
-- names: `read_list plain (length s) s ≡ Names xs`, with no limit of its own.
--     names-rise, union-rises   a list that reads well rises; so does the union of two
--     merge-writes      two lists that read well, at most 2,000 names together and room enough: the records of their union
--     merge-reads       where a merge's code is 0, both lists read well
--     merge-sound       and what it wrote is a sound list: it is read again, with the limit of 2,000, as the union
--     merge-among       a name is in the union just where it is in one of the two
--     step-shows        what a step shows: the first name of the union of what is left of both lists, or no byte
--     step-head         a step's part is the bytes that `list_head` names, where it says that they are
--     step-refused      a refused list: an empty part of the first
--     steps-show        a screen that starts at 0, 0 and passes every head that is shown: the merged names in order, and then nothing
--     judge-settles, merge-settles, head-settles, step-settles     two results that a statement allows coincide
--     example-merge, example-heads     Mar and Marina with Mar and Market Square, computed
-- Assumes nothing.
use Prim.Native.Nat.{ℕ, ◌≤◌, ◌<◌}
use native.Mathlib.Omega.{arith}
use mathlib.Core.Path.{◌≡◌, refl, sym, ap, ap₂, ◌∙◌}
use mathlib.Core.Logic.{◌↔◌, ◌⊎◌, inl, inr}
use mathlib.Core.Bool.{true}
use mathlib.Core.List.{List, Memᴰ, [], ◌∷◌, ◌++◌}
use lib.ListN.{drop, get_or, length, replicate, take}
use lib.Seq.{take-append_seam}
use denote.Ref.{Bor}
use Rattle.words.specs.Words.{Bytes, less, plain, shared}
use Rattle.words.proofs.Words.{plain-injective, plain-sure, word-injective}
use Rattle.format.specs.Alone.{Reads}
use Rattle.format.specs.Example.{text}
use Rattle.format.specs.Merging.{kept, merged}
use Rattle.format.specs.Outcomes.{Answer, Written, given, over}
use Rattle.format.specs.Records.{Names, encode, most_names, read_from, read_list, rising}
use Rattle.format.proofs.Merging.{among-either, among-left, among-right, merged-rises}
use Rattle.format.proofs.Records.{read-encode, read_names}
use Rattle.answers.specs.Heads.{Head as Place, bytes_of, head_of, lesser_head, part_of, screen}
use Rattle.answers.specs.Merging.{judge_lists, merge_lists, of_readings}
use Rattle.answers.proofs.Heads.{head-bad, screen-shows}
use Rattle.answers.proofs.Merging.{all-put, merge-accepted, merge-read}
use Rattle.shapes.specs.Heads.{headed, lent_part}
use Rattle.shapes.specs.declared.Head.{Head}
use Rattle.theorems.proofs.Calls.{written-settles}

-- ---- merging

-- a list that reads well rises, and so does the union of two
pub names-rise : {s : Bytes} {xs : List Bytes} → Reads s xs → rising plain [] xs ≡ true
names-rise {s} {xs} p = (read_names plain (length s) s xs p.names).rises

pub union-rises : {s t : Bytes} {xs ys : List Bytes} → Reads s xs → Reads t ys → rising plain [] (merged plain xs ys) ≡ true
union-rises {s} {t} {xs} {ys} p q = merged-rises plain plain-sure xs ys (names-rise p) (names-rise q)

module _ (s t room : Bytes) where
  pub merge-reads : (merge_lists s t room).answer.code ≡ 0 → ((xs : List Bytes) × (read_list plain (length s) s ≡ Names xs)) × ((ys : List Bytes) × (read_list plain (length t) t ≡ Names ys))
  merge-reads e = let a = merge-accepted s t room e in ((a.xs, a.first.names), (a.ys, a.second.names))

module _ (s t : Bytes) (xs ys : List Bytes) (p : read_list plain (length s) s ≡ Names xs) (q : read_list plain (length t) t ≡ Names ys) where
  one : Reads s xs
  one = record { names = p }

  other : Reads t ys
  other = record { names = q }

  pub merge-writes : (room : Bytes) → length (merged plain xs ys) ≤ most_names → length (encode (merged plain xs ys)) ≤ length room
      → merge_lists s t room ≡ record { answer = given (length (encode (merged plain xs ys))) 0; room = over (encode (merged plain xs ys)) room }
  merge-writes room few fits = merge-read one other room ∙ all-put room (merged plain xs ys) few fits

  pub merge-sound : (room : Bytes) → (merge_lists s t room).answer.code ≡ 0
      → read_list plain most_names (take (merge_lists s t room).answer.first (merge_lists s t room).room) ≡ Names (merged plain xs ys)
  merge-sound room e =
      let a = merge-accepted s t room e in
      let same_first : a.xs ≡ xs = let n : Names a.xs ≡ Names xs = sym a.first.names ∙ p in cc in
      let same_second : a.ys ≡ ys = let n : Names a.ys ≡ Names ys = sym a.second.names ∙ q in cc in
      let all : merged plain a.xs a.ys ≡ merged plain xs ys = ap₂ (merged plain) same_first same_second in
      let few : length (merged plain xs ys) ≤ most_names = omega (arith, a.few, ap length all) in
      let fits : length (encode (merged plain xs ys)) ≤ length room = omega (arith, a.fits, ap (λ (l : List Bytes). length (encode l)) all) in
      ap (λ (w : Written). read_list plain most_names (take w.answer.first w.room)) (merge-writes room few fits)
      ∙ ap (read_list plain most_names) (take-append_seam (encode (merged plain xs ys)) (drop (length (encode (merged plain xs ys))) room))
      ∙ read-encode plain most_names (merged plain xs ys) few (union-rises one other)

  pub merge-among : (z : Bytes) → Memᴰ z (merged plain xs ys) ↔ (Memᴰ z xs ⊎ Memᴰ z ys)
  merge-among z = (
    λ m. among-either plain xs ys m,
    λ m. elim m [
      | inl a ↦ among-left plain xs ys a
      | inr b ↦ among-right plain plain-sure (word-injective plain plain-injective) xs ys b
    ],
  )

  -- ---- stepping

  pub step-shows : (i j : ℕ) → bytes_of s t (head_of s t i j) ≡ get_or (merged plain (drop i xs) (drop j ys)) 0 []
  unfolding screen
  step-shows i j = screen-shows one other 1 i j 0 (omega arith)

  -- turn number n, from 0
  pub steps-show : (turns n : ℕ) → n < turns → get_or (screen turns s t 0 0) n [] ≡ get_or (merged plain xs ys) n []
  steps-show turns n h = screen-shows one other turns 0 0 n h

pub step-refused : (s t : Bytes) (i j : ℕ) → ((judge_lists s t).code ≡ 0 → ⊥) → head_of s t i j ≡ (1, 0, 0)
step-refused s t i j n = head-bad s t i j n

-- ---- two results that a statement allows

module _ (s t : Bytes) where
  pub judge-settles : (a b : Answer) → a ≡ judge_lists s t → b ≡ judge_lists s t → a ≡ b
  judge-settles a b e f = e ∙ sym f

  pub merge-settles : (room : Bytes) (a b : Written) → a ≡ merge_lists s t room → b ≡ merge_lists s t room → (a.answer ≡ b.answer) × (a.room ≡ b.room)
  merge-settles room a b e f = written-settles (merge_lists s t room) a b e f

  pub head-settles : (i j : ℕ) (a b : Head) → headed a ≡ head_of s t i j → headed b ≡ head_of s t i j → a ≡ b
  head-settles i j a b e f = ap (λ (h : Place). record { list = h.0; start = h.1; length = h.2 }) (e ∙ sym f)

module _ (first second : Bor Bytes) (i j : ℕ) (a : Bor Bytes) (e : lent_part a ≡ part_of first second (head_of first.now second.now i j)) where
  pub step-head : (h : Head) → headed h ≡ head_of first.now second.now i j → lent_part a ≡ part_of first second (headed h)
  step-head h f = e ∙ ap (part_of first second) (sym f)

  pub step-settles : (b : Bor Bytes) → lent_part b ≡ part_of first second (head_of first.now second.now i j) → lent_part a ≡ lent_part b
  step-settles b f = e ∙ sym f

-- ---- two operators who share a stop

abbrev first_list : Bytes
first_list = 3 ∷ text "Mar" ++ (6 ∷ text "Marina")

abbrev second_list : Bytes
second_list = 3 ∷ text "Mar" ++ (13 ∷ text "Market Square")

pub example-merge : merge_lists first_list second_list (replicate 30 7) ≡ record { answer = given 25 0; room = 3 ∷ text "Mar" ++ (6 ∷ text "Marina" ++ (13 ∷ text "Market Square" ++ replicate 5 7)) }
unfolding shared less kept merged encode read_from read_list of_readings merge_lists
example-merge = refl

-- Mar from the first list, Marina, Market Square from the second, and nothing
pub example-heads : head_of first_list second_list 0 0 ∷ head_of first_list second_list 1 1 ∷ head_of first_list second_list 2 1 ∷ head_of first_list second_list 2 2 ∷ [] ≡ (1, 1, 3) ∷ (1, 5, 6) ∷ (2, 5, 13) ∷ (1, 0, 0) ∷ []
unfolding shared less encode read_from read_list of_readings lesser_head head_of
example-heads = refl
