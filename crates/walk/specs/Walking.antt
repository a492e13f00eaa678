-- What the walk over the blocks says, function by function. What stands in the bytes is told by crate `streams`; here is what an answer says
-- of it.
--     FirstAbove        a block's first name is above a name
--     NextSays          whether the entries of a block stand, its first name above the name before, and then its last name
--     WalkSays          whether the entries and the block table stand
-- The laws are in proofs/Walking.antt. Assumes nothing: these are definitions.
use Rattle.std.specs.Prelude.{ℕ, ◌≡◌, Bool, true, false, []}
use Rattle.words.specs.Words.{Bytes, Rule, less, word}
use Rattle.streams.specs.Streams.{name_at}
use Rattle.streams.specs.Runs.{Has, RunTo}

-- the block's first name is above prev
abbrev pub FirstAbove : Rule → Bytes → ℕ → Bytes → Type 0
FirstAbove ρ b o prev = less (word ρ prev) (word ρ (name_at b o [])) ≡ true

abbrev pub NextSays : Rule → Bytes → ℕ → ℕ → ℕ → Bytes → Bool → Bytes → Type 0
NextSays ρ b o e m prev true name = RunTo ρ b e o [] m name × FirstAbove ρ b o prev
NextSays ρ b o e m prev false name = (l : Bytes) → RunTo ρ b e o [] m l → FirstAbove ρ b o prev → ⊥

abbrev pub WalkSays : Rule → Bytes → ℕ → ℕ → ℕ → ℕ → Bool → Type 0
WalkSays ρ b k s u n true = Has ρ b k s u n s 0 []
WalkSays ρ b k s u n false = Has ρ b k s u n s 0 [] → ⊥
