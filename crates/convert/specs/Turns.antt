-- What turning a book asks.
--     Turns             which kind is turned into which: plain books into those by columns, and back
--     turn_for           how a table of so many nodes is turned into that of a kind
--     OtherAsk          an accepted book, and the kind that it is turned into
-- Assumes nothing: these are definitions.
use Rattle.std.specs.Prelude.{ℕ, ◌*◌, ◌≡◌}
use Rattle.words.specs.Words.{Bytes, InBytes}
use Rattle.format.specs.Book.{Book, names_of, opened}
use Rattle.format.specs.Kinds.{BookKind, ColumnBook, Columns, Form, PlainBook, Rows, form_of, kind_of}
use Rattle.trailer.specs.Trailer.{trailer_in}
use Rattle.trailer.specs.declared.Trailer.{Trailer}
use Rattle.convert.specs.declared.Turn.{Turn}

pub data Turns : BookKind → BookKind → Type 0 where
  to-columns : Turns PlainBook ColumnBook
  to-rows : Turns ColumnBook PlainBook

abbrev pub turn_in : Form → ℕ → Turn
turn_in Rows m = record { rows = m; inner = 6; step = 2 * m }
turn_in Columns m = record { rows = 6; inner = m; step = 12 }

abbrev pub turn_for : BookKind → ℕ → Turn
turn_for κ m = turn_in (form_of κ) m

pub record OtherAsk (b : Bytes) (t : Trailer) (μ : BookKind) : Type 0 where
  pub bytes : InBytes b
  pub told : t ≡ trailer_in b
  pub book : opened b ≡ Book (kind_of b) t.block (names_of b)
  pub turns : Turns (kind_of b) μ
