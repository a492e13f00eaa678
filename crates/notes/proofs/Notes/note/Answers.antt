-- `notes::Notes::note` meets its contract: the byte becomes the old one with number i's bit.
-- Assumes nothing.
use Rattle.notes.proofs.Noting.{noting-noted}
use Rattle.notes.proofs.Notes.note.Goals as goal

pub returns : goal.returns
returns c = noting-noted c.self.view_is c.requires.0 c.self.told c.requires.1
