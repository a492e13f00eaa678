-- What the two share is what `step` tells. It is answered by hand, so that a wrong comparison shows.
use Prim.Native.Nat.{ℕ}
use mathlib.Core.Path.{ap}
use lib.Dec.{eqb}
use lib.ListN.{length}
use Rattle.sweep.proofs.is_begun.Goals as goal

pub returns : goal.returns
returns c = ap (λ (n : ℕ). eqb n (length c.args.question.now)) c.step.ensures.shared_value
