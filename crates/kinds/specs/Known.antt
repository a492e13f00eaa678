-- The kinds and forms that the code has, as the definitions have them.
--     kind_by, form_by    a kind; a form
--     kind_for           a kind of book, as the code has it
--     mark_front, mark_back     a mark as two numbers: 4E 42 stands in front of every one, 4B 32, 46 32 or 43 32 at the back
--     MarkTells         a number is the back of that kind's mark, or of none
-- The laws are in proofs/Telling.antt. Assumes nothing: these are definitions.
use Rattle.std.specs.Prelude.{ℕ, ◌≡◌, Option, Some, None}
use Rattle.format.specs.Kinds.{BookKind, ColumnBook, Columns as ByColumns, FoldedBook, Form, PlainBook, Rows}
use Rattle.kinds.specs.declared.Form.{Form as CodeForm}
use Rattle.kinds.specs.declared.Form.TheVariants.{Columns as InColumns, Rows as InRows}
use Rattle.kinds.specs.declared.Kind.{Kind}
use Rattle.kinds.specs.declared.Kind.TheVariants.{Columns, Folded, Plain}

abbrev pub kind_by : Kind → BookKind
kind_by Plain = PlainBook
kind_by Folded = FoldedBook
kind_by Columns = ColumnBook

abbrev pub kind_for : BookKind → Kind
kind_for PlainBook = Plain
kind_for FoldedBook = Folded
kind_for ColumnBook = Columns

abbrev pub form_by : CodeForm → Form
form_by InRows = Rows
form_by InColumns = ByColumns

abbrev pub mark_front : ℕ
mark_front = 0x424E

abbrev pub mark_back : BookKind → ℕ
mark_back PlainBook = 0x324B
mark_back FoldedBook = 0x3246
mark_back ColumnBook = 0x3243

abbrev pub MarkTells : ℕ → Option Kind → Type 0
MarkTells back (Some kind) = back ≡ mark_back (kind_by kind)
MarkTells back None = (κ : BookKind) → back ≡ mark_back κ → ⊥
