-- `numbers::put_numbers`: a number more in each turn, and after the last one all are written.
-- Assumes nothing.
use Rattle.std.proofs.Common.{rules}
use Rattle.numbers.proofs.Parts.{numbered-all, numbered-none, numbered_more}
use Rattle.numbers.proofs.put_numbers.Goals as goal

pub loop-i-init : goal.loop-i-init
loop-i-init c = numbered-none _ _ c.requires.part_len

pub loop-i-preserved : goal.loop-i-preserved
loop-i-preserved c = search (rules, numbered_more)

pub returns : goal.returns
returns c = search (rules, numbered-all)
