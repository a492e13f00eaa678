-- Document 02, CR 1: a node's sixth field, the greatest name length below it.
--     widest            the greatest length of some words; 0 where there are none
-- The laws are in proofs/Widths.antt. Assumes nothing: this is a definition.
use Rattle.std.specs.Prelude.{ℕ, max, [], ◌∷◌, length}
use Rattle.words.specs.Words.{Words}

unfoldable pub widest : Words → ℕ
widest [] = 0
widest (w ∷ ws) = max (length w) (widest ws)
