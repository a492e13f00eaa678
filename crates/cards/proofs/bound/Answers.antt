-- What the search leaves of `cards::bound`: it reads a start, or the last bound is where the block table begins.
-- Assumes nothing.
use Rattle.cards.proofs.Cards.{bound-inner, bound-last}
use Rattle.cards.proofs.bound.Goals as goal

pub returns-then-slot-nodes_at : goal.returns-then-slot-nodes_at
returns-then-slot-nodes_at c = bound-last c.requires c.blocks_at-table.ensures.0 c.nodes_at.ensures.0 c.if-slot-nodes_at.true

pub returns : goal.returns
returns c = bound-inner c.requires c.blocks_at-table.ensures.0 c.nodes_at.ensures.0 c.if-slot-nodes_at.false c.number_at.ensures.0
