-- `ReadTo` carries the loop of `entries::name_of`, and as many entries were read as there were turns.
-- Assumes nothing.
use Rattle.std.proofs.Common.{◌≡◌, take}
use Rattle.entries.proofs.Reading.{ReadTo}
use Rattle.entries.proofs.name_of.Given as goal

abbrev pub invariant-loop : goal.invariant-loop
invariant-loop l = ReadTo l.book l.start l.count l.cur.at (take l.entry.len l.entry.name) l.counter × (l.entry.read ≡ l.counter)
