-- What the search does not find for `Stack::raise`: it does not look into `raised`.
-- Assumes nothing.
use Rattle.std.proofs.Common.{rules}
use Rattle.frames.specs.Frames.{raised}
use Rattle.frames.proofs.Stack.raise.Goals as goal

pub returns : goal.returns
unfolding raised
returns c = search rules
