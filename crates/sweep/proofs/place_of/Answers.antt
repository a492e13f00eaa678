-- `sweep::place_of`: what `Placing` gives at each place.
use Rattle.std.proofs.Common.{arith}
use Rattle.sweep.proofs.Placing.{placing-asks, placing-done, placing-fits, placing-found, placing-more, placing-start}
use Rattle.sweep.proofs.place_of.Goals as goal

pub loop-i-init : goal.loop-i-init
loop-i-init c = placing-start _ _ _ c.requires

pub step-met-requires : goal.step-met-requires
step-met-requires c = search placing-asks

pub length_of-requires : goal.length_of-requires
length_of-requires c = omega (arith, placing-fits _ _ _ _ _ _ c.loop-i.invariant c.loop-i-test.true)

pub next_entry-at-requires : goal.next_entry-at-requires
next_entry-at-requires c = search placing-fits

pub returns-then-not-met : goal.returns-then-not-met
returns-then-not-met c =
    let says = c.step-met.ensures in
    placing-found _ _ _ _ _ _ c.loop-i.invariant c.loop-i-test.true _ _ says.shared_value says.less_value c.if-not-met.true _ c.length_of.ensures.0

pub loop-i-preserved : goal.loop-i-preserved
loop-i-preserved c =
    let says = c.step-met.ensures in
    placing-more _ _ _ _ _ _ c.loop-i.invariant c.loop-i-test.true _ _ says.shared_value says.less_value c.if-not-met.false _ c.next_entry-at.ensures

pub returns : goal.returns
returns c = placing-done _ _ _ _ _ _ c.loop-i.invariant c.loop-i-test.false
