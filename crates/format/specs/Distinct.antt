-- Document 02, CR 6, 'together they have at most 2,000 distinct names'.
--     distinct          some names, each once
-- The laws are in proofs/Distinct.antt. Assumes nothing: these are definitions.
use Rattle.std.specs.Prelude.{not, List, [], ◌∷◌}
use Rattle.words.specs.Words.{Bytes, same}
use Rattle.format.specs.Merging.{kept}

unfoldable pub distinct : List Bytes → List Bytes
distinct [] = []
distinct (x ∷ xs) = x ∷ kept (λ y. not (same x y)) (distinct xs)
