-- Document 02, CR 6: what the theorems say of three lists that are merged in any order.
--     wrote             the bytes that a call wrote
--     EitherWay         A with B, then with C; and A with what B with C gave: no call is refused, and both leave the same, in the answer and in every byte of the room
-- Assumes nothing: these are definitions.
use Rattle.std.specs.Prelude.{◌≡◌, take}
use Rattle.words.specs.Words.{Bytes}
use Rattle.format.specs.Outcomes.{Written}
use Rattle.answers.specs.Merging.{merge_lists}

abbrev pub wrote : Written → Bytes
wrote w = take w.answer.first w.room

-- `left` and `right` are the rooms of the calls on the way
pub record EitherWay (a b c left right room : Bytes) : Type 0 where
  pub left-accepted : (merge_lists a b left).answer.code ≡ 0
  pub right-accepted : (merge_lists b c right).answer.code ≡ 0
  pub accepted : (merge_lists (wrote (merge_lists a b left)) c room).answer.code ≡ 0
  pub same : merge_lists (wrote (merge_lists a b left)) c room ≡ merge_lists a (wrote (merge_lists b c right)) room
