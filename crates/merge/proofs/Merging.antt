-- Two lists that read well, merged.
--     read-ask              both are the records of their names
--     merging-many, merging-short, merging-put     ways out of `merge_judged`
-- Assumes nothing.
use Prim.Native.Nat.{ℕ, ◌-◌, ◌≤◌, ◌<◌}
use native.Mathlib.Omega.{arith}
use mathlib.Core.Path.{◌≡◌, sym, ap, ap₂, ◌∙◌}
use mathlib.Core.List.{List, ◌++◌}
use lib.ListN.{drop, length, take}
use Rattle.std.proofs.Common.{Ok, Err}
use Rattle.words.specs.Words.{Bytes, plain}
use Rattle.format.specs.Alone.{BothRead}
use Rattle.format.specs.Merging.{merged}
use Rattle.format.specs.Outcomes.{given, over}
use Rattle.format.specs.Records.{encode}
use Rattle.answers.specs.Merging.{merge_lists}
use Rattle.answers.proofs.Merging.{all-put, merge-read, too_many, too_short}
use Rattle.numbers.proofs.Parts.{none_lent}
use Rattle.refusals.specs.Refusals.{said}
use Rattle.refusals.specs.declared.Refusal.{Refusal}
use Rattle.refusals.specs.declared.Refusal.TheVariants.{RoomTooShort, TooManyNames}
use Rattle.shapes.specs.Endings.{wrote}
use Rattle.heads.proofs.Heads.{rest_of}
use Rattle.merge.specs.Joining.{MergeAsk, MergedInto}

module _ {s t : Bytes} (b : BothRead s t) where
  pub read-ask : MergeAsk s t
  read-ask = record { xs = b.xs; ys = b.ys; ahead = rest_of b.first; beside = rest_of b.second }

  -- what was counted in an empty part of the room, which is then as it was
  module _ (room : Bytes) {after : Bytes} {names bytes : ℕ} (m : MergedInto s t (take (0 - 0) (drop 0 room)) after names bytes) where
    abbrev all : List Bytes
    all = merged plain b.xs b.ys

    counted : names ≡ length all
    counted = (m.all b.xs b.ys (rest_of b.first) (rest_of b.second)).0

    sized : bytes ≡ length (encode all)
    sized = (m.all b.xs b.ys (rest_of b.first) (rest_of b.second)).1

    abbrev back : Bytes
    back = take 0 room ++ (after ++ drop (0 - 0) (drop 0 room))

    untouched : back ≡ room
    untouched = none_lent room after m.kept

    -- a refusal leaves the room alone
    alone : (r : Refusal) → record { answer = said r; room = room } ≡ merge_lists s t room → wrote (Err r) back ≡ merge_lists s t room
    alone r f = ap (λ (l : Bytes). record { answer = said r; room = l }) untouched ∙ f

    pub merging-many : 2000 < names → wrote (Err (TooManyNames 2000)) back ≡ merge_lists s t room
    merging-many h = alone (TooManyNames 2000) (sym (merge-read b.first b.second room ∙ too_many room all (omega (arith, counted))))

    module _ (few : names ≤ 2000) where
      pub merging-short : length back < bytes → wrote (Err RoomTooShort) back ≡ merge_lists s t room
      merging-short h = alone RoomTooShort (sym (merge-read b.first b.second room ∙ too_short room all (omega (arith, counted)) (omega (arith, sized, ap length untouched))))

      pub merging-put : bytes ≤ length back → {new : Bytes} {names₂ put : ℕ} → MergedInto s t back new names₂ put → wrote (Ok put) new ≡ merge_lists s t room
      merging-put h {new} {names₂} {put} w =
          let got = w.all b.xs b.ys (rest_of b.first) (rest_of b.second) in
          ap₂ (λ (n : ℕ) (l : Bytes). record { answer = given n 0; room = l }) got.1 (got.2 (omega (arith, got.1, sized)) ∙ ap (over (encode all)) untouched)
          ∙ sym (merge-read b.first b.second room ∙ all-put room all (omega (arith, counted)) (omega (arith, sized, ap length untouched)))
