-- A list that is read by itself, as merging reads it: with no limit of its own.
--     read_alone         a list has no more names than bytes, so that no record of it is a name too many
--     Reads, BothRead   it reads well, and these are its names; two lists read well
-- Assumes nothing: these are definitions.
use Rattle.std.specs.Prelude.{◌≡◌, List, length}
use Rattle.words.specs.Words.{Bytes, plain}
use Rattle.format.specs.Records.{Names, Reading, read_list}

abbrev pub read_alone : Bytes → Reading
read_alone s = read_list plain (length s) s

pub record Reads (s : Bytes) (xs : List Bytes) : Type 0 where
  pub names : read_alone s ≡ Names xs

pub record BothRead (s t : Bytes) : Type 0 where
  pub xs : List Bytes
  pub ys : List Bytes
  pub first : Reads s xs
  pub second : Reads t ys
