-- A build's case: what an accepted build counts stands in the room, by `build-within`.
-- Assumes nothing.
use Rattle.format.specs.Kinds.{FoldedBook}
use Rattle.answers.proofs.Calls.{build-within}
use Rattle.cases.proofs.building.FoldedCase.print.Goals as goal

pub print-requires-clause-within : goal.print-requires-clause-within
print-requires-clause-within g c = λ list block room answer after e. build-within FoldedBook _ _ _ _ e
