-- `neighbours::shared_rest`: what `Equal` gives at each place.
use Rattle.std.proofs.Common.{arith}
use Rattle.neighbours.proofs.Rest.{equal-ends, equal-goes, equal-more, equal-parts, equal-start}
use Rattle.neighbours.proofs.shared_rest.Goals as goal

pub loop-x-init : goal.loop-x-init
loop-x-init g c = equal-start _ _ _ _ _ c.requires

pub bounds-book-other : goal.bounds-book-other
bounds-book-other g c = equal-goes _ _ _ _ _ _ c.loop-x.invariant (omega arith)

pub returns-then-not-is_alike : goal.returns-then-not-is_alike
returns-then-not-is_alike g c =
    (equal-parts _ _ _ _ _ _ c.loop-x.invariant (omega arith) _ (rw c.rule.ensures at c.is_alike.ensures) c.if-not-is_alike.true, c.loop-x.invariant.upto)

pub loop-x-preserved : goal.loop-x-preserved
loop-x-preserved g c =
    equal-more _ _ _ _ _ _ c.loop-x.invariant (omega arith) _ (rw c.rule.ensures at c.is_alike.ensures) c.if-not-is_alike.false

pub returns : goal.returns
returns g c = (equal-ends _ _ _ _ _ _ c.loop-x.invariant (omega arith), c.loop-x.invariant.upto)
