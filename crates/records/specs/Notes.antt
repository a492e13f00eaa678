-- What is noted of each name of a list, as three rows of numbers.
--     lens_of, counts_of, shares_of     how long it is; how many bytes, and how many symbols, it shares with the name before
-- The laws are in proofs/Notes.antt. Assumes nothing: these are definitions.
use Rattle.std.specs.Prelude.{ℕ, List, map}
use Rattle.records.specs.declared.Note.{Note}

unfoldable pub lens_of : List Note → List ℕ
lens_of rows = map (λ (r : Note). r.len) rows

unfoldable pub counts_of : List Note → List ℕ
counts_of rows = map (λ (r : Note). r.count) rows

unfoldable pub shares_of : List Note → List ℕ
shares_of rows = map (λ (r : Note). r.share) rows
