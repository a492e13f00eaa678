-- `Measuring` carries the loop of `salvage::records_size`.
-- Assumes nothing.
use Rattle.salvage.proofs.Saving.{Measuring}
use Rattle.salvage.proofs.records_size.Given as goal

abbrev pub invariant-loop : goal.invariant-loop
invariant-loop l = Measuring l.card l.start l.m l.at l.size l.counter
