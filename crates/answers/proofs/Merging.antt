-- Laws of judging and merging two lists.
--     both-made, judge-read, merge-read     what is made of two lists that read well
--     judge-one, judge-other     the first list is refused; only the second is
--     judged-sound, judged-bad   what an answer of judging shows: both lists read well, or whatever is made of them is made of that answer
--     too_many, too_short, all-put   a merge of lists that read well, by what it counts
--     MergesWell, merge-accepted   where a merge's code is 0
--     merge-within, merge-kept   the bytes that a merge counts stand in the room; what it leaves
-- Assumes nothing.
use Prim.Native.Nat.{ℕ, ◌≤◌, ◌<◌}
use native.Mathlib.Omega.{arith}
use mathlib.Core.Path.{◌≡◌, refl, ap, ap₂, ◌∙◌}
use mathlib.Core.Bool.{Bool, true, false}
use mathlib.Core.List.{List}
use lib.Dec.{leb}
use lib.ListN.{length}
use borrow.Author.Tests.{le-leb, leb-true, lt-leb}
use Rattle.words.specs.Words.{Bytes, pick, plain}
use Rattle.format.specs.Alone.{BothRead, Reads, read_alone}
use Rattle.format.specs.Merging.{merged}
use Rattle.format.specs.Outcomes.{Answer, Written, given, numbered, over, refused, write}
use Rattle.format.specs.Records.{Names, Reading, Refused, encode, most_names}
use Rattle.format.proofs.Outcomes.{Kept, picked, same_kept, write_kept}
use Rattle.format.proofs.Records.{read-refused}
use Rattle.answers.specs.Merging.{judge_lists, merge_lists, of_both, of_readings, put_names}
use Rattle.answers.proofs.Calls.{FirstWithin, write-within}

module _ {s t : Bytes} {xs ys : List Bytes} (p : Reads s xs) (q : Reads t ys) where
  pub both-made : {A : Type 0} (bad : Answer → A) (made : List Bytes → List Bytes → A) → of_both bad made s t ≡ made xs ys
  unfolding of_readings
  both-made bad made = ap₂ (of_readings bad made) p.names q.names

  pub judge-read : judge_lists s t ≡ given 0 0
  unfolding judge_lists
  judge-read = both-made (λ a. a) (λ xs ys. given 0 0)

  pub merge-read : (room : Bytes) → merge_lists s t room ≡ put_names room (merged plain xs ys)
  unfolding merge_lists
  merge-read room = both-made (λ a. record { answer = a; room = room }) (λ xs ys. put_names room (merged plain xs ys))

module _ (s t : Bytes) where
  pub judge-one : (code i : ℕ) → read_alone s ≡ Refused code i → judge_lists s t ≡ record { code = code; first = i; second = 1 }
  unfolding judge_lists of_readings
  judge-one code i p = ap (λ (r : Reading). of_readings (λ (a : Answer). a) (λ xs ys. given 0 0) r (read_alone t)) p

  pub judge-other : (xs : List Bytes) (code i : ℕ) → read_alone s ≡ Names xs → read_alone t ≡ Refused code i → judge_lists s t ≡ record { code = code; first = i; second = 2 }
  unfolding judge_lists of_readings
  judge-other xs code i p q = ap₂ (of_readings (λ (a : Answer). a) (λ xs ys. given 0 0)) p q

  -- ---- what an answer of judging shows

  abbrev judged_by : Reading → Reading → Answer
  judged_by a b = of_readings (λ (a : Answer). a) (λ xs ys. given 0 0) a b

  pub judged-sound : (judge_lists s t).code ≡ 0 → BothRead s t
  unfolding judge_lists of_readings
  judged-sound e = go (read_alone s) (read_alone t) refl refl e
    where
      go : (a b : Reading) → read_alone s ≡ a → read_alone t ≡ b → (judged_by a b).code ≡ 0 → BothRead s t
      go (Refused code i) b p q z = absurd (omega (arith, read-refused plain (length s) s code i p))
      go (Names xs) (Refused code i) p q z = absurd (omega (arith, read-refused plain (length t) t code i q))
      go (Names xs) (Names ys) p q z = record { xs = xs; ys = ys; first = record { names = p }; second = record { names = q } }

  pub judged-bad : ((judge_lists s t).code ≡ 0 → ⊥) → {A : Type 0} (bad : Answer → A) (made : List Bytes → List Bytes → A) → of_both bad made s t ≡ bad (judge_lists s t)
  unfolding judge_lists of_readings
  judged-bad n {A} bad made = go (read_alone s) (read_alone t) n
    where
      go : (a b : Reading) → ((judged_by a b).code ≡ 0 → ⊥) → of_readings bad made a b ≡ bad (judged_by a b)
      go (Refused code i) b z = refl
      go (Names xs) (Refused code i) z = refl
      go (Names xs) (Names ys) z = absurd (z refl)

-- ---- what is left in the room

module _ (room : Bytes) (xs : List Bytes) where
  pub too_many : most_names < length xs → put_names room xs ≡ record { answer = numbered 7 most_names; room = room }
  too_many h = rw (lt-leb (length xs) most_names h) refl

  few : length xs ≤ most_names → put_names room xs ≡ write (encode xs) room
  few h = rw (le-leb (length xs) most_names h) refl

  pub too_short : length xs ≤ most_names → length room < length (encode xs) → put_names room xs ≡ record { answer = refused 4; room = room }
  too_short h l = few h ∙ rw (lt-leb (length (encode xs)) (length room) l) refl

  pub all-put : length xs ≤ most_names → length (encode xs) ≤ length room → put_names room xs ≡ record { answer = given (length (encode xs)) 0; room = over (encode xs) room }
  all-put h l = few h ∙ rw (le-leb (length (encode xs)) (length room) l) refl

-- what holds of refusals that leave the room alone, and of what is written, holds of a merge
merge-holds : (P : Written → Type 0) (s t room : Bytes) → ((a : Answer) → (a.code ≡ 0 → ⊥) → P (record { answer = a; room = room })) → ((out : Bytes) → P (write out room)) → P (merge_lists s t room)
unfolding merge_lists of_readings
merge-holds P s t room bad put = go (read_alone s) (read_alone t) refl refl
  where
    go : (a b : Reading) → read_alone s ≡ a → read_alone t ≡ b → P (of_readings (λ a. record { answer = a; room = room }) (λ xs ys. put_names room (merged plain xs ys)) a b)
    go (Refused code i) b p q = bad _ (λ z. omega (arith, read-refused plain (length s) s code i p))
    go (Names xs) (Refused code i) p q = bad _ (λ z. omega (arith, read-refused plain (length t) t code i q))
    go (Names xs) (Names ys) p q = picked P (leb (length (merged plain xs ys)) most_names) (put (encode (merged plain xs ys))) (bad _ (λ z. omega arith))

pub merge-within : (s t room : Bytes) (w : Written) → w ≡ merge_lists s t room → FirstWithin w
merge-within s t room w p = rw p (merge-holds FirstWithin s t room (λ a n e. absurd (n e)) (λ out e. write-within room out))

pub merge-kept : (s t room : Bytes) → Kept room (merge_lists s t room)
merge-kept s t room = merge-holds (Kept room) s t room (λ a n. same_kept room a) (write_kept room)

-- ---- where a merge's code is 0

pub record MergesWell (s t room : Bytes) : Type 0 where
  pub xs : List Bytes
  pub ys : List Bytes
  pub first : Reads s xs
  pub second : Reads t ys
  pub few : length (merged plain xs ys) ≤ most_names
  pub fits : length (encode (merged plain xs ys)) ≤ length room

pub merge-accepted : (s t room : Bytes) → (merge_lists s t room).answer.code ≡ 0 → MergesWell s t room
unfolding merge_lists of_readings
merge-accepted s t room e = go (read_alone s) (read_alone t) refl refl e
  where
    left : Reading → Reading → Written
    left a b = of_readings (λ a. record { answer = a; room = room }) (λ xs ys. put_names room (merged plain xs ys)) a b

    go : (a b : Reading) → read_alone s ≡ a → read_alone t ≡ b → (left a b).answer.code ≡ 0 → MergesWell s t room
    go (Refused code i) b p q z = absurd (omega (arith, read-refused plain (length s) s code i p))
    go (Names xs) (Refused code i) p q z = absurd (omega (arith, read-refused plain (length t) t code i q))
    go (Names xs) (Names ys) p q z = many (leb (length all) most_names) (leb (length (encode all)) (length room)) refl refl z
      where
        all : List Bytes
        all = merged plain xs ys

        many : (u v : Bool) → leb (length all) most_names ≡ u → leb (length (encode all)) (length room) ≡ v
            → let w : Written = pick u (pick v (record { answer = given (length (encode all)) 0; room = over (encode all) room }) (record { answer = refused 4; room = room })) (record { answer = numbered 7 most_names; room = room }) in w.answer.code ≡ 0
            → MergesWell s t room
        many true true a b k = record { xs = xs; ys = ys; first = record { names = p }; second = record { names = q }; few = leb-true (length all) most_names a; fits = leb-true (length (encode all)) (length room) b }
        many true false a b k = absurd (omega arith)
        many false v a b k = absurd (omega arith)
