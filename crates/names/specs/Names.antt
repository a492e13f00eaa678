-- What reading a name back asks of the bytes, and what it gives.
--     PlaceAsk, PositionAsk     the parts of a book have passed, its block size and its block table's start are known, and it has a name at the position; the
--                       same by its trailer
--     Named             what was read is the name, of at most 200 bytes
--     entries_to         how many entries its block has up to the one at a position
--     Put               the name stands at the front of the room, where it fits
-- Assumes nothing: these are definitions.
use Rattle.std.specs.Prelude.{ℕ, suc, ◌%◌, ◌<◌, ◌≤◌, ◌≡◌, Option, None, Some, leb, length}
use Rattle.words.specs.Words.{Bytes, pick}
use Rattle.format.specs.Records.{longest}
use Rattle.format.specs.Outcomes.{over}
use Rattle.format.specs.Book.{names_of, told}
use Rattle.trailer.specs.declared.Trailer.{Trailer}
use Rattle.accept.specs.Parts.{Framed}

pub record PlaceAsk (b : Bytes) (k table position : ℕ) : Type 0 where
  pub framed : Framed b
  pub block : k ≡ told b 1
  pub blocks : table ≡ told b 2
  pub within : position < length (names_of b)

abbrev pub PositionAsk : Bytes → Trailer → ℕ → Type 0
PositionAsk b t position = PlaceAsk b t.block t.blocks_at position

pub record Named (x name : Bytes) : Type 0 where
  pub name-is : name ≡ x
  pub room : length name ≤ longest

abbrev pub entries_to : ℕ → ℕ → ℕ
entries_to k position = suc (position % k)

pub record Put (x room : Bytes) (len : Option ℕ) (after : Bytes) : Type 0 where
  pub answer : len ≡ pick (leb (length x) (length room)) (Some (length x)) None
  pub bytes : after ≡ pick (leb (length x) (length room)) (over x room) room
