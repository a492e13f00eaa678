-- `list_others::main`: what an accepted build counts stands in the room, by `build-within`.
-- Assumes nothing.
use Rattle.format.specs.Kinds.{FoldedBook, PlainBook}
use Rattle.answers.proofs.Calls.{build-within}
use Rattle.list_others.proofs.main.Goals as goal

pub list_built-requires-clause-within : goal.list_built-requires-clause-within
list_built-requires-clause-within c = λ list k room answer after e. build-within PlainBook _ _ _ _ e

pub list_built-requires-2-clause-within : goal.list_built-requires-2-clause-within
list_built-requires-2-clause-within c = λ list k room answer after e. build-within PlainBook _ _ _ _ e

pub list_built-requires-3-clause-within : goal.list_built-requires-3-clause-within
list_built-requires-3-clause-within c = λ list k room answer after e. build-within FoldedBook _ _ _ _ e
