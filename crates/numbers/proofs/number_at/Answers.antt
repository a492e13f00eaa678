-- `numbers::number_at`: the number that two bytes are, low byte first.
-- Assumes nothing.
use Rattle.std.proofs.Common.{rules}
use Rattle.format.specs.Book.{number}
use Rattle.numbers.proofs.number_at.Goals as goal

pub returns : goal.returns
unfolding number
returns c = search rules
