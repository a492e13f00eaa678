-- The numbers of nodes of all records in a book, as one part of it.
--     counts_in          what stands from the number of nodes on that a record at 0 would have
-- Assumes nothing: this is a definition.
use Rattle.std.specs.Prelude.{ℕ, ◌*◌, List, drop}

abbrev pub counts_in : ℕ → List ℕ → List ℕ
counts_in step b = drop (4 * step) b
