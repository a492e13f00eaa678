-- Document 02, CR 5: what a salvage gives of damaged bytes. Refusals: 13 where the map makes no sense, then 12, then 4; then nothing changes.
--     Salvaged          an answer, the lent room and the report rows afterwards
--     card_blocks        each block's verdict, by its span alone
--     reported, saved_records     a report row: kept with so many names, or dropped; the records of the names of all kept blocks
--     salvage           the call, as one function of what came in
-- The laws are in proofs/Salvage.antt. Assumes nothing: these are definitions.
use Rattle.std.specs.Prelude.{ℕ, List, [], map, eqb, leb, length}
use Rattle.words.specs.Words.{Bytes, pick}
use Rattle.format.specs.Book.{joined}
use Rattle.format.specs.Outcomes.{Answer, given, over, refused}
use Rattle.format.specs.Records.{encode}
use Rattle.format.specs.Salvage.{Block, Broken, Whole, judged_alone, mapped, spans}

pub record Salvaged : Type 0 where
  pub answer : Answer
  pub room : Bytes
  pub rows : List (ℕ × ℕ)

abbrev pub reported : Block → ℕ × ℕ
reported (Whole xs) = (1, length xs)
reported Broken = (0, 0)

abbrev pub records_in : Block → Bytes
records_in (Whole xs) = encode xs
records_in Broken = []

abbrev pub card_blocks : Bytes → List Block
card_blocks s = map (λ b. judged_alone b.0 b.1) (spans s)

abbrev pub saved_records : List Block → Bytes
saved_records bs = joined (map records_in bs)

unfoldable pub salvage_from : List Block → Bytes → List (ℕ × ℕ) → Salvaged
salvage_from bs room rows =
    let out = saved_records bs in
    let as-they-were : Answer → Salvaged = λ a. record { answer = a; room = room; rows = rows } in
    pick (eqb (length rows) (length bs))
    (pick (leb (length out) (length room)) (record { answer = given (length out) 0; room = over out room; rows = map reported bs }) (as-they-were (refused 4)))
    (as-they-were (refused 12))

unfoldable pub salvage : Bytes → Bytes → List (ℕ × ℕ) → Salvaged
salvage s room rows = pick (mapped s) (salvage_from (card_blocks s) room rows) (record { answer = refused 13; room = room; rows = rows })
