-- Document 02, CR 7, 'Drivers type small letters': the folded rule.
--     capital, folded   bytes 65 to 90; they have the symbol of the byte 32 higher
-- Assumes nothing: these are definitions.
use Rattle.std.specs.Prelude.{ℕ, ◌+◌, Bool, leb}
use Rattle.words.specs.Words.{Rule, both, pick, plain}

abbrev pub capital : ℕ → Bool
capital b = both (leb 65 b) (leb b 90)

abbrev pub folded : Rule
folded b = pick (capital b) (plain (b + 32)) (plain b)
