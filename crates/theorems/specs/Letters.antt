-- Document 02, CR 3: what the theorems say of characters of several bytes.
--     following, characters, well_formed     a text in UTF-8 by its byte classes: each character is a first byte and those that go on with it
-- Assumes nothing: these are definitions.
use Rattle.std.specs.Prelude.{ℕ, zero, suc, Bool, true, false, not, [], ◌∷◌, ltb}
use Rattle.words.specs.Words.{Bytes, both, pick}
use Rattle.answers.specs.Lit.{in_character}

-- how many bytes go on with the character that b begins
abbrev pub following : ℕ → ℕ
following b = pick (ltb b 192) 0 (pick (ltb b 224) 1 (pick (ltb b 240) 2 3))

-- so many bytes of a character are due, and then whole characters; none begins with 128 to 191, nor with 248 or more
unfoldable pub characters : ℕ → Bytes → Bool
characters zero [] = true
characters (suc due) [] = false
characters zero (b ∷ q) = let rest = characters (following b) q in both (both (not (in_character b)) (ltb b 248)) rest
characters (suc due) (b ∷ q) = let rest = characters due q in both (in_character b) rest

abbrev pub well_formed : Bytes → Bool
well_formed q = characters 0 q
