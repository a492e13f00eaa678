-- Document 02, CR 9: the announcer. It stands above the book, so its calls are told by what the book's own calls give, and by the kind of book.
--     Clips             numbers of clips
--     refusal           2 where the bytes are no full book, of either symbol rule, then 16 where the table has not one clip for each name; 0 where neither is so
--     spoken, clip_of    the exact name's clip, else that of the only name that begins with the text, else how many begin with it; the call: 2, 16, 1
-- The laws are in proofs/Announcing.antt. Assumes nothing: these are definitions.
use Rattle.std.specs.Prelude.{ℕ, List, leb, eqb, length, get_or}
use Rattle.words.specs.Words.{Bytes, pick, both}
use Rattle.format.specs.Full.{is_full}
use Rattle.format.specs.Kinds.{kind_of}
use Rattle.format.specs.Records.{longest}
use Rattle.format.specs.Outcomes.{Answer, given, refused}
use Rattle.answers.specs.Calls.{check, question}

abbrev pub Clips : Type 0
Clips = List ℕ

unfoldable pub refusal : Bytes → Clips → ℕ
refusal s clips = pick (both (eqb (check s).code 0) (is_full (kind_of s))) (pick (eqb (length clips) (check s).first) 0 16) 2

-- by what exact and range answer to the text
unfoldable pub spoken : Clips → Answer → Answer → Answer
spoken clips exact range =
    pick (eqb exact.second 1) (given 1 (get_or clips exact.first 0))
    (pick (eqb range.second 1) (given 1 (get_or clips range.first 0)) (given 0 range.second))

unfoldable pub clip_of : Bytes → Clips → Bytes → Answer
clip_of s clips text =
    pick (eqb (refusal s clips) 0)
    (pick (leb (length text) longest) (spoken clips (question 1 s text) (question 3 s text)) (refused 1))
    (refused (refusal s clips))
