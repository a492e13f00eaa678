-- Document 02, CR 10: the forms of table, which stands between block table and trailer.
--     Form              node records, one after the other; the same numbers, column by column
--     laid_out           the numbers of some nodes, in the order of a form
--     table_in, count_in, record_size     by form: the table's numbers, how many records they are, how many bytes each has
-- The laws are in proofs/BookKinds.antt and proofs/Book.antt. Assumes nothing: these are definitions.
use Rattle.std.specs.Prelude.{ℕ, List, map, length}
use Rattle.words.specs.Words.{Bytes, Rule, word}
use Rattle.format.specs.Columns.{columns}
use Rattle.format.specs.Nodes.{Node, all_fields, node_size, table}

pub data Form : Type 0 where
  Rows : Form
  Columns : Form

abbrev pub laid_out : Form → List Node → List ℕ
laid_out Rows rs = all_fields rs
laid_out Columns rs = columns rs

abbrev pub table_in : Form → Rule → List Bytes → List ℕ
table_in Rows ρ xs = laid_out Rows (table (map (word ρ) xs))
table_in Columns ρ xs = laid_out Columns (table (map (word ρ) xs))

abbrev pub count_in : Form → Rule → List Bytes → ℕ
count_in Rows ρ xs = length (table (map (word ρ) xs))
count_in Columns ρ xs = length (table (map (word ρ) xs))

abbrev pub record_size : Form → ℕ
record_size Rows = node_size
record_size Columns = node_size
