-- The tests that make bytes a book, part by part.
--     Framed, FramedSays     the trailer, and the entries with their block table: what every kind of book has; whether they stand
--     Parts, PartsSay   these and the table; whether all of them stand
--     check_on           what the check gives, by what the bytes open to: what their trailer tells, or nothing
--     checked_as         document 01's numbers for each case of what the check gives: 0 with the names and the block size, or 2
-- proofs/Opens.antt shows that these are just the books. Assumes nothing: these are definitions.
use Rattle.std.specs.Prelude.{◌-◌, ◌≡◌, Bool, false, true, Option, Some, None, [], length}
use Rattle.words.specs.Words.{Bytes}
use Rattle.format.specs.Kinds.{rule_in}
use Rattle.format.specs.Spans.{is_table}
use Rattle.format.specs.Book.{Book, NoBook, Opened, told, trailer_size}
use Rattle.format.specs.Outcomes.{Answer, given, refused}
use Rattle.trailer.specs.Trailer.{Trail, trailer_in}
use Rattle.streams.specs.Runs.{Has}
use Rattle.trailer.specs.declared.Trailer.{Trailer}

pub record Framed (b : Bytes) : Type 0 where
  pub trail : Trail b
  pub entries : Has (rule_in b) b (told b 1) (told b 2) (told b 3) (told b 0) (told b 2) 0 []

abbrev pub FramedSays : Bytes → Bool → Type 0
FramedSays b true = Framed b
FramedSays b false = Framed b → ⊥

pub record Parts (b : Bytes) : Type 0 where
  pub framed : Framed b
  pub nodes : is_table b (told b 3) (length b - trailer_size) ≡ true

abbrev pub PartsSay : Bytes → Bool → Type 0
PartsSay b true = Parts b
PartsSay b false = Parts b → ⊥

unfoldable pub check_on : Bytes → Opened → Option Trailer
check_on b (Book κ k xs) = Some (trailer_in b)
check_on b NoBook = None

abbrev pub checked_as : Option Trailer → Answer
checked_as (Some t) = given t.names t.block
checked_as None = refused 2
