-- `revise::note_whole`: what the two names share is no more than the second has; one row is set.
use Rattle.std.proofs.Common.{arith, refl}
use Rattle.revise.proofs.Noting.{most-behind, note-set}
use Rattle.revise.proofs.note_whole.Goals as goal

pub overflow_cast-notes-2 : goal.overflow_cast-notes-2
overflow_cast-notes-2 c = omega (arith, most-behind _ _ _ c.shared_symbols-count.ensures, c.requires.0)

pub overflow_cast-notes-3 : goal.overflow_cast-notes-3
overflow_cast-notes-3 c = omega (arith, most-behind _ _ _ c.shared_symbols-share.ensures, c.requires.0)

pub returns : goal.returns
returns c = note-set c.args.notes.now _ refl c.shared_symbols-count.ensures c.shared_symbols-share.ensures
