-- Document 02, CR 1, 'Width on the passenger screen': the fifth kind of question, over the plain list of words.
--     last_kind          kinds go from 1 to 5
--     width             the greatest length among the words that begin with q; 0 where none does
-- The laws are in proofs/Widths.antt. Assumes nothing: these are definitions.
use Rattle.std.specs.Prelude.{ℕ, max, List, [], ◌∷◌, length}
use Rattle.words.specs.Words.{Words, begins, pick}

abbrev pub last_kind : ℕ
last_kind = 5

unfoldable pub width : List ℕ → Words → ℕ
width q [] = 0
width q (w ∷ ws) = let more = width q ws in pick (begins q w) (max (length w) more) more
