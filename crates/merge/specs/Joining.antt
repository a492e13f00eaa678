-- The records of two lists in one row.
--     MergeAsk          the records of both lists are those of some names, which rise
--     Joined            some of the names of the union have been gone through
--     MergedInto        all of them; for any names that the records are
-- The laws are in proofs/. Assumes nothing: these are definitions.
use Rattle.std.specs.Prelude.{ℕ, ◌≤◌, ◌≡◌, List, ◌++◌, length}
use Rattle.words.specs.Words.{Bytes, plain}
use Rattle.format.specs.Records.{encode}
use Rattle.format.specs.Merging.{merged}
use Rattle.format.specs.Outcomes.{over}
use Rattle.heads.specs.Heads.{RestOf}

pub record MergeAsk (first second : Bytes) : Type 0 where
  pub xs : List Bytes
  pub ys : List Bytes
  pub ahead : RestOf first 0 xs
  pub beside : RestOf second 0 ys

-- `done` are gone through; their records stand at the front of the room, where they fit
pub record Joined (xs ys : List Bytes) (first second room₀ room : Bytes) (i j names bytes : ℕ) : Type 0 where
  pub done : List Bytes
  pub xs-left : List Bytes
  pub ys-left : List Bytes
  pub whole : merged plain xs ys ≡ done ++ merged plain xs-left ys-left
  pub ahead : RestOf first i xs-left
  pub beside : RestOf second j ys-left
  pub counted : names ≡ length done
  pub sized : bytes ≡ length (encode done)
  pub front : bytes ≤ length room₀ → room ≡ over (encode done) room₀

pub record MergedInto (first second room₀ room : Bytes) (names bytes : ℕ) : Type 0 where
  pub kept : length room ≡ length room₀
  pub all : (xs ys : List Bytes) → RestOf first 0 xs → RestOf second 0 ys → (names ≡ length (merged plain xs ys)) × (bytes ≡ length (encode (merged plain xs ys)))
      × (bytes ≤ length room₀ → room ≡ over (encode (merged plain xs ys)) room₀)
