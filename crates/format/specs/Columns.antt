-- Document 02, CR 10: a node table as six columns, in the order of the fields.
--     column, columns   number j of each node; the columns, one behind the other
-- The laws are in proofs/Columns.antt. Assumes nothing: these are definitions.
use Rattle.std.specs.Prelude.{ℕ, List, ◌++◌, map, get_or}
use Rattle.format.specs.Nodes.{Node, fields}

abbrev pub column : ℕ → List Node → List ℕ
column j rs = map (λ r. get_or (fields r) j 0) rs

unfoldable pub columns : List Node → List ℕ
columns rs = column 0 rs ++ (column 1 rs ++ (column 2 rs ++ (column 3 rs ++ (column 4 rs ++ column 5 rs))))
