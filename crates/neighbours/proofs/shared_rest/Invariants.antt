-- `neighbours::shared_rest`: `Equal` carries the loop, and the bytes that are left are its measure.
use Rattle.std.proofs.Common.{◌+◌, ◌-◌}
use Rattle.symbols.specs.Rules.{rule_by}
use Rattle.neighbours.proofs.Rest.{Equal}
use Rattle.neighbours.proofs.shared_rest.Given as goal

abbrev pub invariant-loop-x : goal.invariant-loop-x
invariant-loop-x g l = Equal (rule_by g.R.KnownRule.rule) l.book l.own l.end l.other l.x

abbrev pub decreases-loop-x : goal.decreases-loop-x
decreases-loop-x g l = l.end - (l.own + l.x)
