-- Document 02, CR 7: the kinds of book. A kind is a symbol rule, a form of table and a mark.
--     BookKind          document 01's kind, the folded one, and that of columns (CR 10)
--     rule_of, form_of, mark_of     each kind's rule and form, and the last four bytes of its books
--     kind_of, rule_in    the kind that bytes are marked as, and its rule
-- The laws are in proofs/BookKinds.antt. Assumes nothing: these are definitions.
use Rattle.std.specs.Prelude.{ℕ, ◌-◌, List, [], ◌∷◌, eqb, get_or, length}
use Rattle.words.specs.Words.{Bytes, Rule, pick, plain}
use Rattle.format.specs.Folded.{folded}
pub use Rattle.format.specs.Forms.{Form, Rows, Columns, table_in, count_in, record_size}

pub data BookKind : Type 0 where
  PlainBook : BookKind
  FoldedBook : BookKind
  ColumnBook : BookKind

abbrev pub rule_of : BookKind → Rule
rule_of PlainBook = plain
rule_of FoldedBook = folded
rule_of ColumnBook = plain

abbrev pub form_of : BookKind → Form
form_of PlainBook = Rows
form_of FoldedBook = Rows
form_of ColumnBook = Columns

abbrev pub mark_of : BookKind → Bytes
mark_of PlainBook = 0x4E ∷ 0x42 ∷ 0x4B ∷ 0x32 ∷ []
mark_of FoldedBook = 0x4E ∷ 0x42 ∷ 0x46 ∷ 0x32 ∷ []
mark_of ColumnBook = 0x4E ∷ 0x42 ∷ 0x43 ∷ 0x32 ∷ []

abbrev pub all_kinds : List BookKind
all_kinds = PlainBook ∷ FoldedBook ∷ ColumnBook ∷ []

-- the first of some kinds whose mark has this third byte; document 01's where none has
abbrev pub marked_as : ℕ → List BookKind → BookKind
marked_as b [] = PlainBook
marked_as b (κ ∷ κs) = pick (eqb b (get_or (mark_of κ) 2 0)) κ (marked_as b κs)

-- the third byte of the mark tells it; whether all of the mark stands there is asked where the bytes are judged
abbrev pub kind_of : Bytes → BookKind
kind_of s = marked_as (get_or s (length s - 2) 0) all_kinds

abbrev pub rule_in : Bytes → Rule
rule_in s = rule_of (kind_of s)
