-- What the search leaves of `cards::span_of`: two bounds, and how many names there should be.
-- Assumes nothing.
use native.Mathlib.Omega.{arith}
use Rattle.cards.proofs.Cards.{span-behind, span-few, span-first, span-is}
use Rattle.cards.proofs.span_of.Goals as goal

pub bound-start-requires : goal.bound-start-requires
bound-start-requires c = span-first c.requires

pub overflow_add-i : goal.overflow_add-i
overflow_add-i c = omega (arith, span-few c.requires)

pub bound-end-requires : goal.bound-end-requires
bound-end-requires c = span-behind c.requires

pub returns : goal.returns
returns c = span-is c.requires c.bound-start.ensures c.bound-end.ensures c.names_in.ensures
