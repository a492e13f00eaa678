-- `sweep::widen`: what `Widening` gives at each place.
use Rattle.std.proofs.Common.{arith}
use Rattle.sweep.proofs.Widening.{first_fits, widening-asks, widening-done, widening-fits, widening-found, widening-more, widening-start}
use Rattle.sweep.proofs.widen.Goals as goal

pub next_entry-at-requires : goal.next_entry-at-requires
next_entry-at-requires c = search first_fits

pub loop-i-init : goal.loop-i-init
loop-i-init c = widening-start _ _ _ _ _ c.requires _ c.next_entry-at.ensures

pub is_begun-requires : goal.is_begun-requires
is_begun-requires c = search widening-asks

pub returns-then-not-is_begun : goal.returns-then-not-is_begun
returns-then-not-is_begun c =
    widening-found _ _ _ _ _ _ _ c.loop-i.invariant c.loop-i-test.true _ c.is_begun.ensures c.if-not-is_begun.true

pub length_of-requires : goal.length_of-requires
length_of-requires c = omega (arith, widening-fits _ _ _ _ _ _ _ c.loop-i.invariant c.loop-i-test.true)

pub next_entry-at-requires-in-loop-i : goal.next_entry-at-requires-in-loop-i
next_entry-at-requires-in-loop-i c = search widening-fits

pub loop-i-preserved : goal.loop-i-preserved
loop-i-preserved c =
    widening-more _ _ _ _ _ _ _ c.loop-i.invariant c.loop-i-test.true _ c.is_begun.ensures c.if-not-is_begun.false _ c.length_of.ensures.0 _
    c.max-widest.ensures _ c.next_entry-at-in-loop-i.ensures

pub returns : goal.returns
returns c = widening-done _ _ _ _ _ _ _ c.loop-i.invariant c.loop-i-test.false
