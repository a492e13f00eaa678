-- `thin::reach`: what `Reaching` gives at each place.
use Rattle.std.proofs.Common.{◌∙◌}
use Rattle.thin.proofs.Forks.{rows-of}
use Rattle.thin.proofs.Reaching.{reaching-close, reaching-done, reaching-entry, reaching-first, reaching-grow, reaching-more}
use Rattle.thin.proofs.reach.Goals as goal

pub loop-i-init : goal.loop-i-init
loop-i-init c = reaching-first c.requires (rows-of _ c.new-edge.ensures.1) c.new-edge.ensures.0 c.new-name.ensures c.read-cur.ensures

pub shared_ahead-h-requires : goal.shared_ahead-h-requires
shared_ahead-h-requires c = rw c.bytes.ensures.0 (reaching-entry c.loop-i.invariant c.loop-i-test.true)

pub grow-requires : goal.grow-requires
grow-requires c =
    rw c.bytes-in-loop-i.ensures.0 (reaching-grow c.loop-i.invariant c.loop-i-test.true (rw c.bytes.ensures.0 at c.shared_ahead-h.ensures))

pub read-cur-requires-in-loop-i : goal.read-cur-requires-in-loop-i
read-cur-requires-in-loop-i c = reaching-entry c.loop-i.invariant c.loop-i-test.true

pub loop-i-preserved : goal.loop-i-preserved
loop-i-preserved c = reaching-more c.loop-i.invariant c.loop-i-test.true c.grow.ensures c.read-cur-in-loop-i.ensures

pub close-ended-requires : goal.close-ended-requires
close-ended-requires c = rw c.bytes-2.ensures.0 (reaching-close c.loop-i.invariant c.loop-i-test.false)

pub returns : goal.returns
returns c = c.from.ensures ∙ reaching-done c.loop-i.invariant c.loop-i-test.false c.close-ended.ensures
