-- Each way out is one law.
use Rattle.std.proofs.Common.{arith}
use Rattle.batches.proofs.Rows.{crowded, sound-opens, unsound-opens}
use Rattle.batches.proofs.open_batch.Goals as goal

pub returns-then-rows-gt64 : goal.returns-then-rows-gt64
returns-then-rows-gt64 c = crowded _ _ _ (λ few equal. omega arith)

pub returns-then-rows-places : goal.returns-then-rows-places
returns-then-rows-places c = crowded _ _ _ (λ few equal. omega arith)

pub returns-in_default : goal.returns-in_default
returns-in_default c = unsound-opens _ _ _ c.if-rows-gt64.false (omega arith) c.in_default.ensures.1

pub returns : goal.returns
returns c = sound-opens _ _ _ c.if-rows-gt64.false (omega arith) _ c.in-Some.ensures.1
