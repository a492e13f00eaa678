-- A record that is put at a place of a room.
--     RecordPut         it stands there, behind what is written, where it fits
-- The laws are in proofs/Putting.antt. Assumes nothing: these are definitions.
use Rattle.std.specs.Prelude.{ℕ, ◌+◌, ◌≤◌, ◌≡◌, ◌++◌, drop, length, take}
use Rattle.words.specs.Words.{Bytes}
use Rattle.format.specs.Outcomes.{over}

-- behind the `at` bytes that are written
pub record RecordPut (list : Bytes) (from size : ℕ) (room₀ room : Bytes) (at : ℕ) : Type 0 where
  pub kept : length room ≡ length room₀
  pub put : at + size ≤ length room₀ → (p xs : Bytes) → room₀ ≡ over p xs → length p ≡ at → length xs ≡ length room₀ → room ≡ over (p ++ take size (drop from list)) xs
