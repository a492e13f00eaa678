-- What a call of the code leaves, as document 01's numbers.
--     answered, row_of, written, batched     an answer; a row of a batch; an answer with the room, or the answer rows, that were left. Assumes nothing: these are definitions.
--     counted           a single question's answer, with how far it looked (CR 8)
use Rattle.std.specs.Prelude.{List, map}
use Rattle.words.specs.Words.{Bytes}
use Rattle.format.specs.Outcomes.{Answer as Numbers, Written}
use Rattle.answers.specs.Calls.{Batched, Row as Question}
use Rattle.answers.specs.Counts.{Counted as Looked}
use Rattle.shapes.specs.declared.Answer.{Answer}
use Rattle.shapes.specs.declared.Counted.{Counted}
use Rattle.shapes.specs.declared.Row.{Row}

abbrev pub answered : Answer → Numbers
answered r = record { code = r.code; first = r.first; second = r.second }

abbrev pub row_of : Row → Question
row_of r = record { kind = r.kind; start = r.start; size = r.length }

abbrev pub written : Answer → Bytes → Written
written r room = record { answer = answered r; room = room }

abbrev pub batched : Answer → List Answer → Batched
batched r answers = record { answer = answered r; rows = map answered answers }

abbrev pub counted : Counted → Looked
counted r = record { answer = record { code = r.code; first = r.first; second = r.second }; visits = r.visits; entries = r.entries }
