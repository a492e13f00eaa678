-- What the search does not find for `turning::gather_numbers`.
-- Assumes nothing.
use Rattle.std.proofs.Common.{arith, refl, ◌-◌, ◌≡◌}
use Rattle.turning.proofs.Turning.{gathering-more, gathering-start}
use Rattle.turning.proofs.gather_numbers.Goals as goal

pub loop-i-init : goal.loop-i-init
loop-i-init c = let all : c.args.count - 0 ≡ c.args.count = omega arith in rw all (gathering-start c.requires)

pub loop-i-preserved : goal.loop-i-preserved
loop-i-preserved c = gathering-more c.loop-i.invariant (omega arith) _ _ _ _ refl refl (omega arith) (omega arith)
