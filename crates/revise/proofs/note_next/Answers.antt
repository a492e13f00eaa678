-- `revise::note_next`: what the two names share is no more than a name has; one row is set.
use Rattle.std.proofs.Common.{◌∙◌, ap, arith, length}
use Rattle.revise.proofs.Noting.{most, note-set}
use Rattle.revise.proofs.note_next.Goals as goal

pub overflow_cast-notes-2 : goal.overflow_cast-notes-2
overflow_cast-notes-2 c = omega (arith, most _ _ _ (rw c.bytes.ensures.0 at c.shared_ahead-count.ensures), c.bytes.ensures.1)

pub overflow_cast-notes-3 : goal.overflow_cast-notes-3
overflow_cast-notes-3 c = omega (arith, most _ _ _ (rw c.bytes-2.ensures.0 at c.shared_ahead-share.ensures), c.bytes-2.ensures.1)

pub returns-clause-note_set : goal.returns-clause-note_set
returns-clause-note_set c =
    note-set c.args.notes.now _ (ap length (c.bytes-len.ensures.0 ∙ c.read-next.ensures.name-is)) (rw c.bytes.ensures.0 at c.shared_ahead-count.ensures)
    (rw c.bytes-2.ensures.0 at c.shared_ahead-share.ensures)
