-- `neighbours::shared_next`: what the rest is held to, and what it adds.
use Rattle.neighbours.proofs.Rest.{next-ask, next-rest}
use Rattle.neighbours.proofs.shared_next.Goals as goal

pub shared_rest-requires : goal.shared_rest-requires
shared_rest-requires g c = next-ask _ _ _ _ _ _ _ c.requires c.from-e.ensures c.if-x-e.false _ c.max-from.ensures _ c.end_of.ensures

pub returns : goal.returns
returns g c =
    next-rest _ _ _ _ _ _ _ c.requires c.from-e.ensures c.if-x-e.false _ c.max-from.ensures _ c.end_of.ensures _ c.shared_rest.ensures.0
