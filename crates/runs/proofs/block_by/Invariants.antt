-- `Blocked` carries the loop of `runs::block_by`: what is left of the block stands just where all of it does.
-- Assumes nothing.
use Prim.Native.Nat.{◌-◌}
use Rattle.symbols.specs.Rules.{rule_by}
use Rattle.streams.proofs.Walks.{Blocked}
use Rattle.runs.proofs.block_by.Given as goal

abbrev pub invariant-loop : goal.invariant-loop
invariant-loop g l = Blocked (rule_by g.R.KnownRule.rule) l.book l.end l.start l.m l.cur.at l.name (l.m - l.counter)
