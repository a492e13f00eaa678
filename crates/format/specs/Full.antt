-- Document 02, CR 9 and CR 14: full books, of either symbol rule.
--     by_rows, is_full    a table is rows of node records; so is that of a kind of book. Assumes nothing: these are definitions.
use Rattle.std.specs.Prelude.{Bool, true, false}
use Rattle.format.specs.Kinds.{BookKind, Columns, Form, Rows, form_of}

abbrev pub by_rows : Form → Bool
by_rows Rows = true
by_rows Columns = false

abbrev pub is_full : BookKind → Bool
is_full κ = by_rows (form_of κ)
