-- What the loop of `counting::count_nodes` keeps: the names from j on are counted.
-- Assumes nothing.
use Rattle.records.specs.Notes.{shares_of}
use Rattle.counting.proofs.Counting.{Counting}
use Rattle.counting.proofs.count_nodes.Given as goal

abbrev pub invariant-loop-j : goal.invariant-loop-j
invariant-loop-j l = Counting l.n (shares_of l.notes) l.depths l.top l.count l.j
