-- `entries::Cursor::next` meets its contract.
-- Assumes nothing.
use native.Mathlib.Omega.{arith}
use mathlib.Core.Path.{◌≡◌, refl, subst, sym}
use lib.ListN.{length, take}
use lib.Seq.{length-take-le}
use Rattle.streams.specs.Streams.{EntryAt}
use Rattle.entries.proofs.Reading.{next-read}
use Rattle.entries.proofs.Cursor.next.Goals as goal

-- what the entry keeps of the name before it and its own bytes are the name
pub returns-clause-next_is : goal.returns-clause-next_is
returns-clause-next_is c =
    let a = c.args in
    let long : length (take a.len a.array.now) ≡ a.len = length-take-le a.len a.array.now (omega (arith, c.told-array, c.requires.1)) in
    next-read a.book.now a.array.now a.self.at a.len c.from-c.result c.from-n.result (take a.len a.array.now) refl c.told-array c.requires.1
    (subst (EntryAt a.book.now a.self.at) (sym long) c.requires.0) c.from-c.ensures c.from-n.ensures c.copy.new.room c.copy.ensures.1
