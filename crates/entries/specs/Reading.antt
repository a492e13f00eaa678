-- What reading an entry gives, and what reading a name back asks and gives. What stands in the bytes is told by crate `streams`.
--     NextIs            the name that the cursor reads, and the place of the next entry
--     ReadAsk, NameIs   reading a name back: names stand there; the one that is asked for
-- The laws are in proofs/Reading.antt. Assumes nothing: these are definitions.
use Rattle.std.specs.Prelude.{ℕ, ◌<◌, ◌≤◌, ◌≡◌, List, [], get_or, length}
use Rattle.words.specs.Words.{Bytes}
use Rattle.format.specs.Records.{longest, most_names}
use Rattle.streams.specs.Streams.{Stream, entry_end, name_at}

pub record NextIs (b : Bytes) (o : ℕ) (prev : Bytes) (next : ℕ) (name : Bytes) : Type 0 where
  pub name-is : name ≡ name_at b o prev
  pub next-is : next ≡ entry_end b o
  pub room : length name ≤ longest

-- entry number count after the one at start can be read: some names stand there, from a block's first on, and it is one of them
pub record ReadAsk (b : Bytes) (start count : ℕ) : Type 0 where
  pub names : List Bytes
  pub stream : Stream b start [] names
  pub within : count < length names
  pub few : count ≤ most_names

-- the name of that entry
pub record NameIs (b : Bytes) (start count : ℕ) (name : Bytes) : Type 0 where
  pub room : length name ≤ longest
  pub named : (xs : List Bytes) → Stream b start [] xs → count < length xs → name ≡ get_or xs count []
