-- `notes::Notes::new` meets its contract: nothing is noted in zeros.
-- Assumes nothing.
use Rattle.notes.proofs.Noting.{noting-zeros}
use Rattle.notes.proofs.Notes.new.Goals as goal

pub returns : goal.returns
returns c = noting-zeros
