-- `Saving` carries the loop of `salvage::put_names`.
-- Assumes nothing.
use Rattle.salvage.proofs.Saving.{Saving}
use Rattle.salvage.proofs.put_names.Given as goal

abbrev pub invariant-loop : goal.invariant-loop
invariant-loop l = Saving l.card l.start l.m l.at l.initial.room l.room l.cur.at l.name l.end l.counter
