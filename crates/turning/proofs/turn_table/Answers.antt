-- What the search does not find for `turning::turn_table`.
-- Assumes nothing.
use Rattle.std.proofs.Common.{arith, ◌-◌, ◌≡◌}
use Rattle.turning.proofs.Turning.{turning-more, turning-start}
use Rattle.turning.proofs.turn_table.Goals as goal

pub loop-init : goal.loop-init
loop-init c = let all : c.args.rows - 0 ≡ c.args.rows = omega arith in rw all (turning-start c.requires)

pub loop-preserved : goal.loop-preserved
loop-preserved c = turning-more c.loop.invariant (omega arith) _ _ c.gather_numbers.ensures (omega arith)
