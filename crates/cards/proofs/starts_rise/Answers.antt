-- What the search leaves of `cards::starts_rise`.
-- Assumes nothing.
use Rattle.cards.proofs.Cards.{climbing-done, climbing-falls, climbing-more, climbing-start}
use Rattle.cards.proofs.starts_rise.Goals as goal

pub loop-i-init : goal.loop-i-init
loop-i-init c = climbing-start _ c.requires.1 c.bound-at.ensures c.if-at-ne0.false

pub returns-then-next-at : goal.returns-then-next-at
returns-then-next-at c = climbing-falls c.loop-i.invariant c.loop-i-test.true c.bound-next.ensures c.if-next-at.true

pub loop-i-preserved : goal.loop-i-preserved
loop-i-preserved c = climbing-more c.loop-i.invariant c.loop-i-test.true c.bound-next.ensures c.if-next-at.false

pub returns : goal.returns
returns c = climbing-done c.loop-i.invariant c.loop-i-test.false
