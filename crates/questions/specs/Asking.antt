-- What the functions ask of each other, and what a question gives.
--     Accepted, Looking     the check accepts these bytes, with what their trailer tells; that, of a book with names
--     replied           how a question ended, as document 01's numbers, and how far it looked
-- Assumes nothing: these are definitions.
use Rattle.std.specs.Prelude.{◌≡◌, Some, Result, Ok, Err}
use Rattle.words.specs.Words.{Bytes}
use Rattle.format.specs.Book.{opened, told}
use Rattle.format.specs.Outcomes.{given}
use Rattle.answers.specs.Counts.{Counted}
use Rattle.trailer.specs.declared.Trailer.{Trailer}
use Rattle.accept.specs.Parts.{check_on}
use Rattle.refusals.specs.declared.Refusal.{Refusal}
use Rattle.search.specs.declared.Reply.{Reply}
use Rattle.shapes.specs.Endings.{looked_at_nothing}

pub record Accepted (b : Bytes) : Type 0 where
  pub trailer : Trailer
  pub checked : Some trailer ≡ check_on b (opened b)

-- .. of a book with names
pub record Looking (b : Bytes) : Type 0 where
  pub accepted : Accepted b
  pub some : told b 0 ≡ 0 → ⊥

abbrev pub replied : Result Reply Refusal → Counted
replied (Ok r) = record { answer = given r.first r.second; visits = r.visits; entries = r.entries }
replied (Err refusal) = looked_at_nothing refusal
