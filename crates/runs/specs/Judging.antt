-- What the check of a block says, function by function. What stands in the bytes is told by crate `streams`; here is what an answer says
-- of it.
--     EntrySays         whether an entry stands
--     BlockSays         whether the entries of a block stand, and then its last name
-- The laws are in proofs/Judging.antt. Assumes nothing: these are definitions.
use Rattle.std.specs.Prelude.{ℕ, Bool, true, false, []}
use Rattle.words.specs.Words.{Bytes, Rule}
use Rattle.streams.specs.Runs.{RunTo, Step}

abbrev pub EntrySays : Rule → Bytes → ℕ → ℕ → Bytes → Bool → Type 0
EntrySays ρ b o e prev true = Step ρ b o e prev
EntrySays ρ b o e prev false = Step ρ b o e prev → ⊥

-- m names of a block stand from o to e, the last of them at hand
abbrev pub BlockSays : Rule → Bytes → ℕ → ℕ → ℕ → Bool → Bytes → Type 0
BlockSays ρ b o e m true name = RunTo ρ b e o [] m name
BlockSays ρ b o e m false name = (l : Bytes) → RunTo ρ b e o [] m l → ⊥
