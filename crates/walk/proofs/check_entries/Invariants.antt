-- `Walked` carries the loop of `walk::check_entries`: what is left of the blocks stands just where all of it does.
-- Assumes nothing.
use Rattle.symbols.specs.Rules.{rule_by}
use Rattle.streams.proofs.Walks.{Walked}
use Rattle.walk.proofs.check_entries.Given as goal

abbrev pub invariant-loop-left : goal.invariant-loop-left
invariant-loop-left l = Walked (rule_by l.rule) l.book l.k l.blocks l.nodes l.n l.slot l.at l.name l.left

abbrev pub decreases-loop-left : goal.decreases-loop-left
decreases-loop-left l = l.left
