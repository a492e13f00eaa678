-- What the search leaves of `runs::block_by`: the ways out, and the turn.
-- Assumes nothing.
use native.Mathlib.Omega.{arith}
use Rattle.runs.proofs.Judging.{held-bad, held-end, held-more, says-of}
use Rattle.runs.proofs.block_by.Goals as goal

-- an entry doesn't stand after the name before it in its block
pub returns-then-not-is_entry : goal.returns-then-not-is_entry
returns-then-not-is_entry g c =
    held-bad _ _ _ _ _ _ _ _ c.loop.invariant _ (says-of _ _ _ _ _ _ _ _ c.rule-rule.ensures c.bytes.ensures.0 c.is_entry.ensures) c.if-not-is_entry.true (omega (arith, c.loop-test.true))

pub loop-preserved : goal.loop-preserved
loop-preserved g c =
    let says = says-of _ _ _ _ _ _ _ _ c.rule-rule.ensures c.bytes.ensures.0 c.is_entry.ensures in
    held-more _ _ _ _ _ _ _ _ c.loop.invariant _ says _ _ _ c.if-not-is_entry.false (omega (arith, c.loop-test.true)) c.read-cur.ensures

-- all entries stand, and the last one ends where the block does, or not
pub returns : goal.returns
returns g c = held-end _ _ _ _ _ _ _ _ c.loop.invariant (omega (arith, c.loop-test.false))
