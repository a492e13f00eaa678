-- Document 02, CR 5: a report row, and all that a salvage leaves, as the call of the code has them.
--     kept_row, salvaged     a row's two numbers; the answer with the room and the report rows. Assumes nothing: these are definitions.
use Rattle.std.specs.Prelude.{ℕ, List, map}
use Rattle.words.specs.Words.{Bytes}
use Rattle.answers.specs.Salvage.{Salvaged}
use Rattle.shapes.specs.Shapes.{answered}
use Rattle.shapes.specs.declared.Answer.{Answer}
use Rattle.shapes.specs.declared.Kept.{Kept}

abbrev pub kept_row : Kept → ℕ × ℕ
kept_row r = (r.kept, r.names)

abbrev pub salvaged : Answer → Bytes → List Kept → Salvaged
salvaged r room rows = record { answer = answered r; room = room; rows = map kept_row rows }
