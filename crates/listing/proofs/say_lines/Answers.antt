-- `listing::say_lines`: a name is read of each position that the check has shown.
-- Assumes nothing.
use Rattle.std.proofs.Common.{arith}
use Rattle.listing.proofs.say_lines.Goals as goal

pub read_name-entry-requires : goal.read_name-entry-requires
read_name-entry-requires c c' = c'.requires c'.loop-i.i (omega arith)
