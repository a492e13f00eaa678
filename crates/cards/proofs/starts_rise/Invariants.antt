-- `StartsClimb` carries the loop of `cards::starts_rise`.
-- Assumes nothing.
use Rattle.cards.proofs.Cards.{StartsClimb}
use Rattle.cards.proofs.starts_rise.Given as goal

abbrev pub invariant-loop-i : goal.invariant-loop-i
invariant-loop-i l = StartsClimb l.card l.count l.i l.at
