-- The loop keeps `PassesOn`.
use Rattle.std.proofs.Common.{arith}
use Rattle.heads.proofs.Passing.{passes-ended, passes-more, passes-start}
use Rattle.heads.proofs.pass_records.Goals as goal

pub loop-init : goal.loop-init
loop-init c = passes-start _ _

pub returns-then-at-list : goal.returns-then-at-list
returns-then-at-list c = passes-ended c.loop.invariant (omega arith) c.if-at-list.true

pub loop-preserved : goal.loop-preserved
loop-preserved c = passes-more c.loop.invariant c.if-at-list.false _ c.record_size-at.ensures c.requires
