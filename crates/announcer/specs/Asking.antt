-- What the announcer hears of a book, and what its functions ask.
--     Told              the bytes are a book of so many names, as the check gives it
--     Hears, HeardSays  what one batch told of a book and a text; of bytes that are no book nothing is heard
--     served            how a book and a clip table are taken, as document 01's numbers
--     Inside            every position is that of a clip in the table, and the room holds as many clips as there are positions
-- Assumes nothing: these are definitions.
use Rattle.std.specs.Prelude.{ℕ, ◌≤◌, ◌<◌, ◌≡◌, Option, Some, None, Result, Ok, Err, List, get_or, length}
use Rattle.words.specs.Words.{Bytes}
use Rattle.format.specs.Outcomes.{Answer, given}
use Rattle.answers.specs.Announcing.{Clips}
use Rattle.answers.specs.Calls.{check, question}
use Rattle.refusals.specs.Refusals.{said}
use Rattle.refusals.specs.declared.Refusal.{Refusal}
use Rattle.shapes.specs.Shapes.{answered}
use Rattle.announcer.specs.declared.Heard.{Heard}

pub record Told (s : Bytes) (n : ℕ) : Type 0 where
  pub sound : (check s).code ≡ 0
  pub names : n ≡ (check s).first

pub record Hears (s text : Bytes) (r : Heard) : Type 0 where
  pub told : Told s r.names
  pub exact : answered r.exact ≡ question 1 s text
  pub range : answered r.range ≡ question 3 s text

abbrev pub HeardSays : Bytes → Bytes → Option Heard → Type 0
HeardSays s text (Some r) = Hears s text r
HeardSays s text None = (check s).code ≡ 0 → ⊥

abbrev pub served : Result (Unit {0}) Refusal → Answer
served (Ok u) = given 0 0
served (Err e) = said e

pub record Inside (clips : Clips) (positions : List ℕ) (room : Clips) : Type 0 where
  pub within : (i : ℕ) → i < length positions → get_or positions i 0 < length clips
  pub enough : length positions ≤ length room
