-- `neighbours::part_at`: by the count, or by what is counted along the block.
use Rattle.std.proofs.Common.{arith}
use Rattle.neighbours.proofs.Meeting.{meet-fewer, meet-just, meet-least, meet-less, meet-reads, meet-stored}
use Rattle.neighbours.proofs.part_at.Goals as goal

pub bounds-book-a : goal.bounds-book-a
bounds-book-a c = meet-reads _ _ _ _ c.requires.0

pub returns-then-d-c : goal.returns-then-d-c
returns-then-d-c c = meet-less _ _ _ _ c.requires.0 _ c.from-c.ensures _ (omega arith)

pub returns-then-shared-d : goal.returns-then-shared-d
returns-then-shared-d c =
    let says = c.shared_along-shared.ensures in
    meet-just _ _ _ _ c.requires.0 _ c.from-c.ensures _ _ says.count says.place c.if-c-eq0.true c.if-shared-d.true

pub returns-in-Plain : goal.returns-in-Plain
returns-in-Plain c = meet-stored _ _ _ _ c.requires.0 _ c.from-c.ensures _ _ c.rule.ensures c.in-Plain.is c.if-c-eq0.false c.requires.1

pub returns-then-d-shared : goal.returns-then-d-shared
returns-then-d-shared c =
    let says = c.shared_along-shared-in-Folded.ensures in
    meet-least _ _ _ _ c.requires.0 _ c.from-c.ensures _ _ says.count says.place c.if-d-c.false c.if-d-shared.true

pub returns-else-d-shared : goal.returns-else-d-shared
returns-else-d-shared c = meet-fewer _ _ _ _ c.requires.0 _ c.from-c.ensures _ _ c.shared_along-shared-in-Folded.ensures.count c.if-d-shared.false
