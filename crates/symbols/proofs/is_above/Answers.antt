-- `symbols::is_above`: which name ends where they part tells it; else the symbols there.
-- Assumes nothing.
use Rattle.symbols.proofs.Symbols.{below-no, below_by, below_end}
use Rattle.symbols.proofs.is_above.Goals as goal

pub returns-then-name-shares : goal.returns-then-name-shares
returns-then-name-shares c = search below-no

pub returns-then-prev-shares : goal.returns-then-prev-shares
returns-then-prev-shares c = search below_end

pub returns : goal.returns
returns c = below_by c.args.rule c.args.prev.now c.args.name.now c.args.shares c.requires c.if-name-shares.false c.if-prev-shares.false _ c.is_higher.ensures
