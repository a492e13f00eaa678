-- What the search leaves of `cards::names_in`.
-- Assumes nothing.
use native.Mathlib.Omega.{arith}
use Rattle.cards.proofs.Cards.{mapped-long, span-names}
use Rattle.cards.proofs.names_in.Goals as goal

pub read-t-requires : goal.read-t-requires
read-t-requires c = mapped-long _ c.requires.map

pub overflow_mul-left : goal.overflow_mul-left
overflow_mul-left c = omega (arith, span-names c.requires c.read-t.ensures c.from.ensures c.from-k.ensures)

pub overflow_sub-left : goal.overflow_sub-left
overflow_sub-left c = omega (arith, span-names c.requires c.read-t.ensures c.from.ensures c.from-k.ensures)
