-- What the loop of `letters::lit_part` keeps: from the count back to the place no part may end.
-- Assumes nothing.
use Rattle.letters.proofs.Back.{Back}
use Rattle.letters.proofs.lit_part.Given as goal

abbrev pub invariant-loop-place : goal.invariant-loop-place
invariant-loop-place l = Back l.question l.count l.place
