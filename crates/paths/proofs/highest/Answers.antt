-- The node above is less deep than that.
use native.Mathlib.Omega.{arith}
use Rattle.paths.proofs.Climbing.{climb-found}
use Rattle.paths.proofs.highest.Goals as goal

pub returns-then-depth-shared : goal.returns-then-depth-shared
returns-then-depth-shared c =
    climb-found c.loop-j.invariant (omega arith) c.from-above.ensures c.depth.ensures.0 c.if-depth-shared.true c.from.ensures
