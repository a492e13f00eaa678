-- What the loop of `nodes::write_nodes` keeps: the names from j on are written.
-- Assumes nothing.
use Rattle.symbols.specs.Rules.{rule_by}
use Rattle.nodes.specs.Writing.{Rowing}
use Rattle.nodes.proofs.write_nodes.Given as goal

abbrev pub invariant-loop-j : goal.invariant-loop-j
invariant-loop-j l = Rowing (rule_by l.rule) l.list l.n l.initial.room l.room l.stack l.top l.count l.end l.j
