-- What the search does not find for `Stack::push`: it does not look into `with_frame`.
-- Assumes nothing.
use Rattle.std.proofs.Common.{rules}
use Rattle.frames.specs.Frames.{with_frame}
use Rattle.frames.proofs.Stack.push.Goals as goal

pub returns : goal.returns
unfolding with_frame
returns c = search rules
