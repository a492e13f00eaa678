-- `cases::batching::Rows::read`: the rows read so far are one part of the case.
-- Assumes nothing.
use Rattle.cases.specs.Places.{CasePlaced}
use Rattle.cases.proofs.batching.Rows.read.Given as goal

abbrev pub invariant-loop-row : goal.invariant-loop-row
invariant-loop-row l = CasePlaced l.initial.parts l.parts
