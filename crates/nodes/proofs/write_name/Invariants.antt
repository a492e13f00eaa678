-- What the loop of `nodes::write_name` keeps: the nodes that are closed since the leaf. The measure is the number of the top frame.
-- Assumes nothing.
use Rattle.symbols.specs.Rules.{rule_by}
use Rattle.nodes.specs.Writing.{Onward}
use Rattle.nodes.proofs.write_name.Given as goal

abbrev pub invariant-loop-room : goal.invariant-loop-room
invariant-loop-room l = Onward (rule_by l.name.rule) l.name.rest.now l.name.skip l.name.index l.name.left l.stack l.initial.p l.initial.room l.p l.room

abbrev pub decreases-loop-room : goal.decreases-loop-room
decreases-loop-room l = l.p.top
