-- Document 02, CR 2: merging two lists. Both are judged first, and neither has a limit of its own.
--     of_readings, of_both     what is made of both lists' names; or of 5 or 6 of the first list, then of the second, with the record's number and the list's
--     judge_lists, merge_lists     that refusal, or none; the union, or that refusal, then 7, then 4
-- The laws are in proofs/Merging.antt. Assumes nothing: these are definitions.
use Rattle.std.specs.Prelude.{List, leb, length}
use Rattle.words.specs.Words.{Bytes, pick, plain}
use Rattle.format.specs.Merging.{merged}
use Rattle.format.specs.Outcomes.{Answer, Written, given, numbered, write}
use Rattle.format.specs.Records.{Names, Reading, Refused, encode, most_names, read_list}

unfoldable pub of_readings : {A : Type 0} → (Answer → A) → (List Bytes → List Bytes → A) → Reading → Reading → A
of_readings bad made (Refused code i) second = bad (record { code = code; first = i; second = 1 })
of_readings bad made (Names xs) (Refused code i) = bad (record { code = code; first = i; second = 2 })
of_readings bad made (Names xs) (Names ys) = made xs ys

-- a list has no more names than bytes
abbrev pub of_both : {A : Type 0} → (Answer → A) → (List Bytes → List Bytes → A) → Bytes → Bytes → A
of_both bad made s t = of_readings bad made (read_list plain (length s) s) (read_list plain (length t) t)

unfoldable pub judge_lists : Bytes → Bytes → Answer
judge_lists s t = of_both (λ a. a) (λ xs ys. given 0 0) s t

-- 7 where the merged list has over 2,000 names, then 4; nothing is written then
abbrev pub put_names : Bytes → List Bytes → Written
put_names room xs = pick (leb (length xs) most_names) (write (encode xs) room) (record { answer = numbered 7 most_names; room = room })

unfoldable pub merge_lists : Bytes → Bytes → Bytes → Written
merge_lists s t room = of_both (λ a. record { answer = a; room = room }) (λ xs ys. put_names room (merged plain xs ys)) s t
