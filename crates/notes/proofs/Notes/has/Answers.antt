-- `notes::Notes::has` meets its contract: the byte's bit is what `noted` says.
-- Assumes nothing.
use Prim.Native.Nat.{ℕ}
use mathlib.Core.List.{List}
use mathlib.Core.Path.{ap}
use Rattle.notes.specs.Notes.{noted}
use Rattle.notes.proofs.Notes.has.Goals as goal

pub returns : goal.returns
unfolding noted
returns c = ap (λ (notes : List ℕ). noted notes c.args.i) c.self.view_is
