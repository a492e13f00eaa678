-- `listing::list` is safe: bytes that the check accepts have a name at each position, by `position-ask`.
-- Assumes nothing.
use Rattle.std.proofs.Common.{refl}
use Rattle.names.proofs.Rebuilding.{position-ask}
use Rattle.listing.proofs.list.Goals as goal

pub say_lines-requires : goal.say_lines-requires
say_lines-requires g c = λ i h. position-ask _ _ i c.type_inv.book _ c.in-Some.ensures.1 refl _ refl h
