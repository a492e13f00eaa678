-- `thin::reach`: the forks that are open when i names were gone through.
use Rattle.thin.specs.Forks.{depths_of, firsts_of, reaches_of}
use Rattle.thin.proofs.Reaching.{Reaching}
use Rattle.thin.proofs.reach.Given as goal

abbrev pub invariant-loop-i : goal.invariant-loop-i
invariant-loop-i l =
    let rows = l.edge.forks in
    Reaching l.book l.question (depths_of rows) (firsts_of rows) (reaches_of rows) l.name l.n l.edge.count l.cur.at l.i
