-- Document 02, CR 2: two lists of names become one, a name in both once.
--     kept, merged      the names that pass a test; the union of two lists of rising names, rising again
-- The laws are in proofs/Merging.antt. Assumes nothing: these are definitions.
use Rattle.std.specs.Prelude.{Bool, List, [], ◌∷◌, ◌++◌}
use Rattle.words.specs.Words.{Bytes, Rule, less, pick, word}

unfoldable pub kept : (Bytes → Bool) → List Bytes → List Bytes
kept f [] = []
kept f (y ∷ ys) = let more = kept f ys in pick (f y) (y ∷ more) more

-- a name of the second list that equals x is neither below nor above it, so x stands for both
unfoldable pub merged : Rule → List Bytes → List Bytes → List Bytes
merged ρ [] ys = ys
merged ρ (x ∷ xs) ys =
    let below = kept (λ y. less (word ρ y) (word ρ x)) ys in
    let above = kept (λ y. less (word ρ x) (word ρ y)) ys in
    below ++ (x ∷ merged ρ xs above)
