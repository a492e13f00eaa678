-- What the inner functions of a call give, as document 01's numbers.
--     outcome           how a writing ended: how many bytes were written, or why it refused
--     wrote             the same, with the room that was left
--     looked_at_nothing      a refusal of a single question, before a look at anything
-- Assumes nothing: these are definitions.
use Rattle.std.specs.Prelude.{ℕ, Result, Ok, Err}
use Rattle.words.specs.Words.{Bytes}
use Rattle.format.specs.Outcomes.{Answer as Numbers, Written, given}
use Rattle.answers.specs.Counts.{Counted as Looked}
use Rattle.refusals.specs.Refusals.{said}
use Rattle.refusals.specs.declared.Refusal.{Refusal}

abbrev pub outcome : Result ℕ Refusal → Numbers
outcome (Ok bytes) = given bytes 0
outcome (Err refusal) = said refusal

abbrev pub wrote : Result ℕ Refusal → Bytes → Written
wrote ending room = record { answer = outcome ending; room = room }

abbrev pub looked_at_nothing : Refusal → Looked
looked_at_nothing refusal = record { answer = said refusal; visits = 0; entries = 0 }
