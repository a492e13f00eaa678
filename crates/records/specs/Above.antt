-- Two names of a list, and whether the second is above the first.
--     part              so many bytes of a list, from one place on
--     shared_above      how many symbols they share, where the second is above the first
-- The laws are in proofs/. Assumes nothing: these are definitions.
use Rattle.std.specs.Prelude.{ℕ, Option, Some, None, drop, take}
use Rattle.words.specs.Words.{Bytes, Rule, less, pick, shared, word}

abbrev pub part : Bytes → ℕ → ℕ → Bytes
part s from size = take size (drop from s)

abbrev pub shared_above : Rule → Bytes → Bytes → Option ℕ
shared_above ρ x y = pick (less (word ρ x) (word ρ y)) (Some (shared (word ρ x) (word ρ y))) None
