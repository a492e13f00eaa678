-- `sweep::range_of`: no name begins with the question where the one at its place does not.
use Rattle.sweep.proofs.Replies.{range-past, range-short}
use Rattle.sweep.proofs.range_of.Goals as goal

pub returns-in_default : goal.returns-in_default
returns-in_default c =
    let seat = c.place_of-seat.ensures in
    range-short _ _ _ c.requires _ seat.is _ (rw c.in-Some.is at seat.name) c.if-name-question.false

pub returns-in_default-2 : goal.returns-in_default-2
returns-in_default-2 c =
    let seat = c.place_of-seat.ensures in
    range-past _ _ _ c.requires _ seat.is (rw c.in_default.is at seat.name)
