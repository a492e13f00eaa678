-- Two names that part at their first bytes.
--     Parted            where both have a first byte, the two differ
-- The laws are in proofs/Symbols.antt. Assumes nothing: these are definitions.
use Rattle.std.specs.Prelude.{◌<◌, ◌≡◌, get_or, length}
use Rattle.words.specs.Words.{Bytes}

pub record Parted (a b : Bytes) : Type 0 where
  pub differ : 0 < length a → 0 < length b → get_or a 0 0 ≡ get_or b 0 0 → ⊥
