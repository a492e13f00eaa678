-- Document 02, CR 2: what judging two lists gives, as the documents' numbers.
--     bad_list, judged_both     the refusal of one list, with the list's number; or none
-- The laws are in proofs/Judging.antt. Assumes nothing: these are definitions.
use Rattle.std.specs.Prelude.{Result, Ok, Err}
use Rattle.format.specs.Outcomes.{Answer, given}
use Rattle.refusals.specs.Refusals.{beside, code_of}
use Rattle.judging.specs.declared.Unread.{Unread}
use Rattle.judging.specs.declared.Unread.TheVariants.{First, Second}

abbrev pub bad_list : Unread → Answer
bad_list (First e) = record { code = code_of e; first = beside e; second = 1 }
bad_list (Second e) = record { code = code_of e; first = beside e; second = 2 }

abbrev pub judged_both : Result (Unit {0}) Unread → Answer
judged_both (Ok u) = given 0 0
judged_both (Err unread) = bad_list unread
