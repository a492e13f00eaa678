-- `sweep::ask_exact`: a name that is the question stands at its place.
use Rattle.sweep.proofs.Replies.{exact-found, exact-longer, exact_past, exact-short}
use Rattle.sweep.proofs.ask_exact.Goals as goal

pub returns-in-Some : goal.returns-in-Some
returns-in-Some c =
    let seat = c.place_of-seat.ensures in
    exact-found _ _ _ c.requires _ seat.is _ (rw c.in-Some.is at seat.name) c.if-name-question.true c.if-name-question-2.true

pub returns-in_default : goal.returns-in_default
returns-in_default c =
    let seat = c.place_of-seat.ensures in
    exact-longer _ _ _ c.requires _ seat.is _ (rw c.in-Some.is at seat.name) c.if-name-question-2.false

pub returns-in_default-2 : goal.returns-in_default-2
returns-in_default-2 c =
    let seat = c.place_of-seat.ensures in
    exact-short _ _ _ c.requires _ seat.is _ (rw c.in-Some.is at seat.name) c.if-name-question.false

pub returns-in_default-3 : goal.returns-in_default-3
returns-in_default-3 c =
    let seat = c.place_of-seat.ensures in
    exact_past _ _ _ c.requires _ seat.is (rw c.in_default.is at seat.name)
