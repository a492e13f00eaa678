-- A list of which some records have been passed.
--     ListAsk           its records are those of some names, which rise
--     PassedTo          where it goes on behind so many; for any names that the records are
-- The laws are in proofs/. Assumes nothing: these are definitions.
use Rattle.std.specs.Prelude.{ℕ, ◌≡◌, List, drop, length, take}
use Rattle.words.specs.Words.{Bytes}
use Rattle.format.specs.Records.{encode}
use Rattle.heads.specs.Heads.{RestOf}

pub record ListAsk (s : Bytes) : Type 0 where
  pub xs : List Bytes
  pub rest : RestOf s 0 xs

pub record PassedTo (s : Bytes) (count r : ℕ) : Type 0 where
  pub rest : (xs : List Bytes) → RestOf s 0 xs → RestOf s r (drop count xs)
  pub place : (xs : List Bytes) → RestOf s 0 xs → r ≡ length (encode (take count xs))
