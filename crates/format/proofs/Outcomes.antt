-- What a call leaves of a lent room.
--     picked                   what holds of both holds of the one that is picked
--     Kept                     a refused call changes nothing; another one nothing behind the bytes that it counts
--     same_kept, write_kept    a room that was not touched; one that was written to
-- Assumes nothing.
use mathlib.Core.Path.{◌≡◌, refl}
use mathlib.Core.Bool.{Bool, true, false}
use lib.Dec.{leb}
use lib.ListN.{drop, length}
use lib.Seq.{drop-append_seam}
use Rattle.words.specs.Words.{Bytes, pick}
use Rattle.format.specs.Outcomes.{Answer, Written, refused, write}

pub picked : {A : Type 0} (P : A → Type 0) (t : Bool) {x y : A} → P x → P y → P (pick t x y)
picked P true p q = p
picked P false p q = q

pub record Kept (room : Bytes) (w : Written) : Type 0 where
  pub untouched : (w.answer.code ≡ 0 → ⊥) → w.room ≡ room
  pub behind : w.answer.code ≡ 0 → drop w.answer.first w.room ≡ drop w.answer.first room

module _ (room : Bytes) where
  pub same_kept : (a : Answer) → Kept room (record { answer = a; room = room })
  same_kept a = record { untouched = λ n. refl; behind = λ e. refl }

  pub write_kept : (out : Bytes) → Kept room (write out room)
  write_kept out =
      picked (Kept room) (leb (length out) (length room))
      (record { untouched = λ n. absurd (n refl); behind = λ e. drop-append_seam out (drop (length out) room) }) (same_kept (refused 4))
